use Rattle.std.proofs.Common.{rules, subst}
use Rattle.yasna_base.specs.Bits.{bits_encoding, bits_tag}
use Rattle.yasna_base.specs.Identifier.{tag_or}
use Rattle.yasna_bytes.specs.Segments.{bits_in}
use Rattle.yasna_writer.specs.Prepend.{Prepends}
use Rattle.yasna_notation_types.specs.PlainBits.{plain_is}
use Rattle.yasna_notation_types.proofs.plain_bits.PlainBitsNotation.prepend.Goals as goal

pub returns : goal.returns
returns c =
    let old = c.args.out.now in
    let new = c.prepend_bitvec_bytes.new.self in
    let r = c.prepend_bitvec_bytes.result in
    let t = tag_or c.args.under bits_tag in
    let v = bits_in c.args.value.now in
    let prepended : Prepends (bits_encoding t old.mode v) old new r = search rules in
    subst (λ b. Prepends b old new r) (plain_is t old.mode v c.requires) prepended
