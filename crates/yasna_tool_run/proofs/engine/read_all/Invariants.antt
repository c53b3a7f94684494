use Rattle.std.proofs.Common.{◌≡◌, ◌-◌, ◌^◌, vec_len}
use Rattle.std.specs.Io.KnownBytes.{Consumes}
use Rattle.yasna_tool_run.proofs.engine.read_all.Given as goal

abbrev pub invariant-loop-all : goal.invariant-loop-all
invariant-loop-all g l =
    Consumes (g.R.Source.remaining l.initial.reader) (g.R.Source.remaining l.reader) l.all.items
    × (g.R.Source.failed l.reader ≡ g.R.Source.failed l.initial.reader)

abbrev pub decreases-loop-all : goal.decreases-loop-all
decreases-loop-all g l = 2 ^ 64 - vec_len l.all
