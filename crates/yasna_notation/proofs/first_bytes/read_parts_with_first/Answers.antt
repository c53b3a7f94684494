use Rattle.std.proofs.Common.{◌≡◌, rules, subst, None, Ok, Err, ◌||◌}
use Rattle.std.proofs.lemmas.Bool.{and_parts}
use Rattle.yasna_base.specs.Sequence.{PartOf, AnyPart}
use Rattle.yasna_reader.specs.Buffer.{ReadsBuffer}
use Rattle.yasna_reader.specs.State.{part_of}
use Rattle.yasna_notation.specs.FirstBytes.{BesideBytes, PartsWithFirst}
use Rattle.yasna_notation.specs.Notation.{ReadsAs}
use Rattle.yasna_notation.specs.Parts.{ReadsContents}
use Rattle.yasna_notation.proofs.Contents.{first_read, first_failed}
use Rattle.yasna_notation.proofs.FirstBytes.{beside_first, buffer_called, contents_so, no_contents_so}
use Rattle.yasna_notation.proofs.first_bytes.read_parts_with_first.Goals as goal

pub returns : goal.returns
returns g c =
    let n = g.A.Notation.means in
    let w = g.W.Parts in
    let s = part_of c.args.seq.now in
    let m = c.read_with_buffer.new.self in
    let N = ReadsAs n.tags_known n.tags n.retagged n.may_allocate n.under n.any_under in
    let first = beside_first {tags_known = n.tags_known} {ts = n.tags} {retagged = n.retagged} {may_allocate = n.may_allocate} {B = n.under} {S = n.any_under}
    {Q = w.any_parts} (g.met.A.Notation.lawful (and_parts g.A.Notation.unambiguous w.unambiguous c.requires.unambiguous).0).own.coding in
    let read = buffer_called _ _ N c.next.result.now c.read_with_buffer.result m c.read_with_buffer.ensures (λ p q x h. search rules) in
    let left = part_of c.read_parts.new.seq in
    let o = c.in_ok-others.others in
    contents_so (n.may_allocate || w.may_allocate) (PartOf (BesideBytes (n.under None)) w.parts) (PartsWithFirst (n.under None) w.parts)
    (AnyPart (n.any_under None) w.any_parts) s left left.failed ((c.in_ok-first.first, c.in_ok-first.first_bytes), o)
    (record { first = c.in_ok-first.first; others = o; first_bytes = c.in_ok-first.first_bytes }) (λ k z. z)
    (first_read w.may_allocate w.parts first s c.requires.fresh c.read_with_buffer.result m
    (subst (λ z. ReadsBuffer N z c.read_with_buffer.result m) c.next.ensures.value read) (c.in_ok-first.first, c.in_ok-first.first_bytes)
    c.in_ok-first.was (Ok o) left
    (subst (λ z. ReadsContents w.may_allocate w.parts w.any_parts m z left) c.in_ok-others.was c.read_parts.ensures))

pub returns-in_err-others : goal.returns-in_err-others
returns-in_err-others g c =
    let n = g.A.Notation.means in
    let w = g.W.Parts in
    let s = part_of c.args.seq.now in
    let m = c.read_with_buffer.new.self in
    let N = ReadsAs n.tags_known n.tags n.retagged n.may_allocate n.under n.any_under in
    let first = beside_first {tags_known = n.tags_known} {ts = n.tags} {retagged = n.retagged} {may_allocate = n.may_allocate} {B = n.under} {S = n.any_under}
    {Q = w.any_parts} (g.met.A.Notation.lawful (and_parts g.A.Notation.unambiguous w.unambiguous c.requires.unambiguous).0).own.coding in
    let read = buffer_called _ _ N c.next.result.now c.read_with_buffer.result m c.read_with_buffer.ensures (λ p q x h. search rules) in
    let left = part_of c.read_parts.new.seq in
    let e = c.in_err-others.field-0.0 in
    let failed : c.from_residual-in_err-others.result ≡ Err e = search rules in
    rw failed (no_contents_so (n.may_allocate || w.may_allocate) (PartOf (BesideBytes (n.under None)) w.parts) (PartsWithFirst (n.under None) w.parts)
    (AnyPart (n.any_under None) w.any_parts) s left left.failed e
    (first_read w.may_allocate w.parts first s c.requires.fresh c.read_with_buffer.result m
    (subst (λ z. ReadsBuffer N z c.read_with_buffer.result m) c.next.ensures.value read) (c.in_ok-first.first, c.in_ok-first.first_bytes)
    c.in_ok-first.was (Err e) left
    (subst (λ z. ReadsContents w.may_allocate w.parts w.any_parts m z left) c.in_err-others.was c.read_parts.ensures)))

pub returns-in_err-first : goal.returns-in_err-first
returns-in_err-first g c =
    let n = g.A.Notation.means in
    let w = g.W.Parts in
    let s = part_of c.args.seq.now in
    let m = c.read_with_buffer.new.self in
    let N = ReadsAs n.tags_known n.tags n.retagged n.may_allocate n.under n.any_under in
    let first = beside_first {tags_known = n.tags_known} {ts = n.tags} {retagged = n.retagged} {may_allocate = n.may_allocate} {B = n.under} {S = n.any_under}
    {Q = w.any_parts} (g.met.A.Notation.lawful (and_parts g.A.Notation.unambiguous w.unambiguous c.requires.unambiguous).0).own.coding in
    let read = buffer_called _ _ N c.next.result.now c.read_with_buffer.result m c.read_with_buffer.ensures (λ p q x h. search rules) in
    let e = c.in_err-first.field-0.0 in
    let failed : c.from_residual.result ≡ Err e = search rules in
    rw failed (no_contents_so (n.may_allocate || w.may_allocate) (PartOf (BesideBytes (n.under None)) w.parts) (PartsWithFirst (n.under None) w.parts)
    (AnyPart (n.any_under None) w.any_parts) s m m.failed e
    (first_failed w.may_allocate w.parts first s c.requires.fresh c.read_with_buffer.result m
    (subst (λ z. ReadsBuffer N z c.read_with_buffer.result m) c.next.ensures.value read) e c.in_err-first.was))
