use Rattle.std.proofs.Common.{rules, subst}
use Rattle.yasna_base.specs.Bits.{bits_encoding, bits_tag}
use Rattle.yasna_base.specs.Identifier.{tag_or}
use Rattle.yasna_bytes.specs.Segments.{bits_in}
use Rattle.yasna_writer.specs.Prepend.{KnownLength}
use Rattle.yasna_notation_types.specs.PlainBits.{plain_is}
use Rattle.yasna_notation_types.proofs.plain_bits.PlainBitsNotation.encoded_len.Goals as goal

pub returns : goal.returns
returns c =
    let t = tag_or c.args.under bits_tag in
    let v = bits_in c.args.value.now in
    let known : KnownLength (bits_encoding t c.args.mode v) c.bitvec_len.result = search rules in
    subst (λ b. KnownLength b c.bitvec_len.result) (plain_is t c.args.mode v c.requires) known
