use Rattle.std.specs.Prelude.{◌≡◌, ◌⊎◌}
use Rattle.module_files.proofs.files.parse_files.Given as goal

abbrev pub invariant-loop-place : goal.invariant-loop-place
invariant-loop-place l = (l.status ≡ 0) ⊎ ((l.status ≡ 1) ⊎ (l.status ≡ 3))
