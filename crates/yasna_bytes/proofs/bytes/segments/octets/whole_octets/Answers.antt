use Rattle.std.proofs.Common.{rules, length, refl, sym, subst, inr}
use Rattle.yasna_base.specs.Element.{IsPrimitive}
use Rattle.yasna_base.specs.Header.{OpensAt, definite_end}
use Rattle.yasna_base.specs.Octets.{octets_segmentation}
use Rattle.yasna_base.specs.Segmented.{StaysWhole}
use Rattle.yasna_bytes.specs.Prefix.{Takes}
use Rattle.yasna_bytes.specs.Header.{AreContents}
use Rattle.yasna_bytes.proofs.Header.{seen_bit, seen_within, takes_primitive}
use Rattle.yasna_bytes.proofs.Segmented.{header_rejected, whole_taken, whole_rejected}
use Rattle.yasna_bytes.proofs.bytes.segments.octets.whole_octets.Goals as goal

pub returns-in-Err : goal.returns-in-Err
returns-in-Err c =
    let p = c.args.cursor in
    header_rejected octets_segmentation p.levels p.mode c.args.tag p.left.now c.in-Err.rejection (c.in-Err.ensures {u = tt})

pub returns-then-not-stays_whole : goal.returns-then-not-stays_whole
returns-then-not-stays_whole c =
    let p = c.args.cursor in
    let w = c.in-Ok.ensures {u = tt} in
    let o : OpensAt p.mode c.args.tag c.in-Ok.opened.bit p.left.now c.in-Ok.opened.contents (definite_end c.in-Definite.after.now) = search rules in
    let x = subst (λ z. Takes (IsPrimitive AreContents c.args.tag p.mode p.levels) p.left.now z c.in-Definite.after.now)
    (sym (seen_within c.opened.view_is)) (takes_primitive p.mode p.levels c.args.tag c.in-Ok.opened.bit p.left.now c.in-Ok.opened.contents
    c.in-Definite.after.now w.0 (seen_bit c.opened.view_is c.in-Primitive.is) o) in
    rw c.reject-then-not-stays_whole.ensures (whole_rejected octets_segmentation p.levels p.mode c.args.tag p.left.now c.opened.inside.contents.now
    c.in-Definite.after.now _ x (inr (
      tt,
      λ v e h.
          let s = subst (λ z. StaysWhole p.mode 1000 (length z)) e h in
          let z = (c.if-not-stays_whole.ensures {u = tt}).1 (rw c.full.ensures s) in
          cc,
    )) refl)

pub returns-else-not-stays_whole : goal.returns-else-not-stays_whole
returns-else-not-stays_whole c =
    let p = c.args.cursor in
    let w = c.in-Ok.ensures {u = tt} in
    let o : OpensAt p.mode c.args.tag c.in-Ok.opened.bit p.left.now c.in-Ok.opened.contents (definite_end c.in-Definite.after.now) = search rules in
    let x = subst (λ z. Takes (IsPrimitive AreContents c.args.tag p.mode p.levels) p.left.now z c.in-Definite.after.now)
    (sym (seen_within c.opened.view_is)) (takes_primitive p.mode p.levels c.args.tag c.in-Ok.opened.bit p.left.now c.in-Ok.opened.contents
    c.in-Definite.after.now w.0 (seen_bit c.opened.view_is c.in-Primitive.is) o) in
    let s = rw c.full.ensures at ((c.if-not-stays_whole.ensures {u = tt}).0 refl) in
    whole_taken octets_segmentation p.levels p.mode c.args.tag p.left.now c.opened.inside.contents.now c.in-Definite.after.now
    c.opened.inside.contents.now x refl s
