use Rattle.std.proofs.Common.{◌≡◌, length}
use Rattle.std.specs.List.{flat_map}
use Rattle.yasna_base.specs.Digits.{base128}
use Rattle.yasna_writer.specs.Prepend.{with_prefix}
use Rattle.yasna_writer.proofs.prepend_buffer.PrependBuffer.prepend_numbers.Given as goal

-- what was prepended, and the rest, are all
abbrev pub invariant-loop-last : goal.invariant-loop-last
invariant-loop-last l = with_prefix (flat_map base128 l.rest) l.self ≡ with_prefix (flat_map base128 l.numbers) l.fn.self

abbrev pub decreases-loop-last : goal.decreases-loop-last
decreases-loop-last l = length l.rest
