use Rattle.std.proofs.Common.{◌≡◌, ◌-◌, ◌++◌, drop, length, length-drop, ap, ◌∙◌, arith, rules}
use Rattle.std.proofs.lemmas.Int.{to_z-of_z}
use Rattle.std.specs.Int.{w64, cast_unsigned, to_be_bytes}
use Rattle.yasna_base.specs.declared.tag.PCBit.TheVariants.{Primitive}
use Rattle.yasna_base.specs.Canonical.{canonical_element}
use Rattle.yasna_writer.specs.Header.{header_bytes}
use Rattle.yasna_writer.proofs.BigEndian.{be_bytes}
use Rattle.yasna_writer.proofs.Prepends.{prepends_both, header_before}
use Rattle.yasna_writer.proofs.Integers.{fewest, be_twos}
use Rattle.yasna_writer.proofs.prepend_buffer.PrependBuffer.prepend_longer.Goals as goal

pub returns : goal.returns
returns c =
    let old = c.args.self.now in
    let z = c.args.val in
    let n = c.octets-some.result in
    let b = to_be_bytes w64 (cast_unsigned w64 z) in
    let back = to_z-of_z w64 z c.ranges.val in
    let own = c.to_be_bytes.result in
    let bytes : own ≡ b = c.to_be_bytes.ensures ∙ ap (λ y. to_be_bytes w64 (cast_unsigned w64 y)) back in
    let eight : length own ≡ 8 = search rules in
    let few = length-drop (8 - n) own in
    let count : n ≡ length (drop (8 - n) own) = omega (arith, c.octets-some.ensures.few) in
    let last = ap (drop (8 - n)) bytes
    ∙ fewest (8 - n) (n - 1) b z (be_bytes (cast_unsigned w64 z)) (be_twos z c.ranges.val)
    (omega (arith, c.octets-some.ensures.some, c.octets-some.ensures.few)) (rw back at c.octets-some.ensures.fits)
    (λ i. let e : (n - 1) - 1 ≡ n - 2 = omega arith in rw e (rw back at c.octets-some.ensures.least (omega arith))) in
    prepends_both _ (drop (8 - n) own) _ old c.prepend_last.new.self c.prepend_header.new.self c.prepend_header.result (c.in_ok-prepend_last.ensures {u = tt})
    c.prepend_header.ensures
    (ap (λ k. header_bytes Primitive (record { tag = c.args.tag; length = k }) ++ drop (8 - n) own) count
    ∙ header_before old.mode c.args.tag (drop (8 - n) own) ∙ ap (canonical_element old.mode c.args.tag Primitive) last)
