use Rattle.std.proofs.Common.{ℕ, length, ap, arith}
use Rattle.yasna_base.specs.declared.tag.PCBit.TheVariants.{Constructed}
use Rattle.yasna_base.specs.Canonical.{definite_element}
use Rattle.yasna_writer.specs.Header.{header_bytes}
use Rattle.yasna_writer.proofs.KnownLengths.{known_sum, definite_length}
use Rattle.yasna_writer.proofs.encoded_len.definite_len.Goals as goal

pub returns : goal.returns
returns c =
    let t = c.args.tag in
    λ bit d e. known_sum _ (definite_element t bit d) _ c.checked_add.result c.checked_add.ensures
    (omega (
      arith,
      c.header_length.ensures.octets,
      definite_length t bit d,
      e,
      ap (λ (n : ℕ). length (header_bytes Constructed (record { tag = t; length = n }))) e,
    ))
