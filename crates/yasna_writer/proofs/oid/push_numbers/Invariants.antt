use Rattle.std.proofs.Common.{◌≡◌, ◌≤◌, ◌++◌, take}
use Rattle.std.specs.List.{flat_map}
use Rattle.std.specs.Prelude.{vec_len}
use Rattle.yasna_base.specs.Digits.{base128}
use Rattle.yasna_writer.proofs.oid.push_numbers.Given as goal

abbrev pub invariant-loop-number : goal.invariant-loop-number
invariant-loop-number l =
    (l.out.items ≡ l.initial.out.items ++ flat_map base128 (take l.number-index l.numbers)) × (vec_len l.initial.out ≤ vec_len l.out)
