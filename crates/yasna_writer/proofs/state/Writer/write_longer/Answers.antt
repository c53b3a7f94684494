use Rattle.std.proofs.Common.{◌≡◌, ◌-◌, drop, sym, ap, ap₂, ◌∙◌, arith}
use Rattle.std.proofs.lemmas.Int.{to_z-of_z}
use Rattle.std.specs.Int.{w64, cast_unsigned, to_be_bytes}
use Rattle.yasna_base.specs.declared.tag.PCBit.TheVariants.{Primitive}
use Rattle.yasna_base.specs.Canonical.{canonical_element}
use Rattle.yasna_writer.specs.View.{Written}
use Rattle.yasna_writer.proofs.BigEndian.{be_bytes}
use Rattle.yasna_writer.proofs.Integers.{fewest, be_twos}
use Rattle.yasna_writer.proofs.Primitives.{wrote_by}
use Rattle.yasna_writer.proofs.state.Writer.write_longer.Goals as goal

pub returns : goal.returns
returns c =
    let old = c.args.self.now in
    let z = c.args.val in
    let n = c.octets.result in
    let b = to_be_bytes w64 (cast_unsigned w64 z) in
    let back = to_z-of_z w64 z c.ranges.val in
    let bytes : c.to_be_bytes.result ≡ b = c.to_be_bytes.ensures ∙ ap (λ y. to_be_bytes w64 (cast_unsigned w64 y)) back in
    let last = ap (drop (8 - n)) bytes
    ∙ fewest (8 - n) (n - 1) b z (be_bytes (cast_unsigned w64 z)) (be_twos z c.ranges.val) (omega (arith, c.octets.ensures.some, c.octets.ensures.few))
    (rw back at c.octets.ensures.fits)
    (λ i. let e : (n - 1) - 1 ≡ n - 2 = omega arith in rw e (rw back at c.octets.ensures.least (omega arith))) in
    let piece = ap (λ (w : Written). canonical_element w.mode c.take_tag-tag.result Primitive (drop (8 - n) c.to_be_bytes.result)) c.take_tag-tag.ensures.taken
    ∙ ap₂ (λ t x. canonical_element old.mode t Primitive x) c.take_tag-tag.ensures.tag last in
    wrote_by _ _ old c.take_tag-tag.new.self c.append_last.new.self c.append_last.result (sym c.failed.ensures ∙ c.in_default.is) c.take_tag-tag.ensures.taken
    piece c.append_last.ensures
