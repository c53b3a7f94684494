use Rattle.std.proofs.Common.{◌<◌, ◌^◌, refl, rules}
use Rattle.yasna_base.proofs.Digits.{slice_bytes}
use Rattle.yasna_notation_types.specs.LeastBits.{any_without_zeros}
use Rattle.yasna_notation_types.proofs.checked.can_be_trimmed.Goals as goal

pub returns : goal.returns
returns c =
    let octets = c.args.octets.now in
    let count = c.args.count in
    let in_range : count < 2 ^ 64 = search rules in
    (λ _. any_without_zeros (record { bytes = octets; count = count }) (slice_bytes octets c.type_inv.octets) in_range, λ _. refl)
