use Rattle.std.proofs.Common.{rules, refl, sym, subst}
use Rattle.yasna_base.specs.Element.{IsPrimitive}
use Rattle.yasna_base.specs.Header.{OpensAt, definite_end}
use Rattle.yasna_bytes.specs.Prefix.{Takes}
use Rattle.yasna_bytes.specs.Header.{AreContents}
use Rattle.yasna_bytes.proofs.Header.{seen_bit, seen_within, header_rejects, takes_primitive, other_primitive}
use Rattle.yasna_bytes.proofs.bytes.header.read_primitive_contents.Goals as goal

pub returns-in-Definite : goal.returns-in-Definite
returns-in-Definite c =
    let p = c.args.cursor in
    let w = c.in-Ok.ensures {u = tt} in
    let o : OpensAt p.mode c.args.tag c.in-Ok.opened.bit p.left.now c.in-Ok.opened.contents (definite_end c.in-Definite.after.now) = search rules in
    subst (λ z. Takes (IsPrimitive AreContents c.args.tag p.mode p.levels) p.left.now z c.in-Definite.after.now) (sym (seen_within c.opened.view_is))
    (takes_primitive p.mode p.levels c.args.tag c.in-Ok.opened.bit p.left.now c.in-Ok.opened.contents c.in-Definite.after.now w.0
    (seen_bit c.opened.view_is c.in-Primitive.is) o)

pub returns-in-Constructed : goal.returns-in-Constructed
returns-in-Constructed c =
    let p = c.args.cursor in
    let w = c.in-Ok.ensures {u = tt} in
    rw c.reject-in-Constructed.ensures (other_primitive AreContents p.mode p.levels c.args.tag c.in-Ok.opened.bit p.left.now c.in-Ok.opened.contents
    c.in-Ok.opened.end _ w.0 (seen_bit c.opened.view_is c.in-Constructed.is) w.1 tt refl)

pub returns-in-Err : goal.returns-in-Err
returns-in-Err c = let p = c.args.cursor in header_rejects AreContents p.mode p.levels c.args.tag p.left.now c.in-Err.rejection (c.in-Err.ensures {u = tt})
