use Rattle.std.proofs.Common.{◌≡◌, ◌≤◌, ◌*◌, take, length}
use Rattle.std.specs.List.{flat_map}
use Rattle.yasna_base.specs.Digits.{base128}
use Rattle.yasna_writer.proofs.oid.numbers_length.Given as goal

abbrev pub invariant-loop-number : goal.invariant-loop-number
invariant-loop-number l = (l.octets ≡ length (flat_map base128 (take l.number-index l.numbers))) × (l.octets ≤ 10 * l.number-index)
