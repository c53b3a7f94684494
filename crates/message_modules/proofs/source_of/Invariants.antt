use Rattle.std.proofs.Common.{◌≡◌, take}
use Rattle.message_modules.specs.Sources.{source_of_lines}
use Rattle.message_modules.proofs.source_of.Given as goal

abbrev pub invariant-loop-line : goal.invariant-loop-line
invariant-loop-line l = l.source.items ≡ source_of_lines (take l.line-index l.lines)
