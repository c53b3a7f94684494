use Rattle.std.proofs.Common.{◌≡◌, ◌≤◌, ◌++◌, length, drop}
use Rattle.std.specs.Prelude.{vec_len}
use Rattle.std.specs.Str.{chars}
use Rattle.yasna_base.specs.Text.{bmp_octets}
use Rattle.yasna_writer.proofs.bmp.push_bmp.Given as goal

-- what is appended, and what is left, are all
abbrev pub invariant-loop-c : goal.invariant-loop-c
invariant-loop-c l =
    (l.out.items ++ bmp_octets (drop (length l.yielded) (chars l.string)) ≡ l.initial.out.items ++ bmp_octets (chars l.string))
    × (vec_len l.initial.out ≤ vec_len l.out)
