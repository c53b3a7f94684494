use Rattle.std.proofs.Common.{◌≡◌, List, ℕ, ap, ap₂, rules, subst, take, ◌+◌, ◌/◌, ◌∙◌}
use Rattle.yasna_base.specs.Bits.{BitString, bits_encoding, bits_tag}
use Rattle.yasna_base.specs.Identifier.{tag_or}
use Rattle.yasna_bytes.specs.Segments.{bits_in}
use Rattle.yasna_writer.specs.Prepend.{Prepends}
use Rattle.yasna_notation_types.specs.LeastBits.{bits_left, without_zeros}
use Rattle.yasna_notation_types.specs.PlainBits.{plain_is}
use Rattle.yasna_notation_types.proofs.least_bits.LeastBitsNotation.prepend.Goals as goal

pub returns : goal.returns
returns c =
    let old = c.args.out.now in
    let new = c.prepend_bitvec_bytes.new.self in
    let r = c.prepend_bitvec_bytes.result in
    let t = tag_or c.args.under bits_tag in
    let v = bits_in c.args.value.now in
    let whole : c.as_slice-bytes.result.now ≡ v.bytes = search rules in
    let count : c.bits_left-count.result ≡ bits_left v v.count =
    c.bits_left-count.ensures ∙ ap (λ (d : List ℕ). bits_left (record { bytes = d; count = v.count }) v.count) whole in
    let size : c.div_ceil-size.result ≡ (bits_left v v.count + 7) / 8 = search rules in
    let w : BitString = record { bytes = take c.div_ceil-size.result c.as_slice-bytes.result.now; count = c.bits_left-count.result } in
    let is : w ≡ without_zeros v = ap₂ (λ (d : List ℕ) (k : ℕ). record { bytes = d; count = k }) (ap₂ (λ (n : ℕ) (d : List ℕ). take n d) size whole) count in
    let prepended : Prepends (bits_encoding t old.mode w) old new r = search rules in
    subst (λ b. Prepends b old new r) (ap (bits_encoding t old.mode) is ∙ plain_is t old.mode (without_zeros v) c.requires) prepended
