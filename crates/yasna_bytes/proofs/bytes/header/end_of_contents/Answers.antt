use Rattle.std.proofs.Common.{◌≡◌, ℕ, ◌-◌, ◌≤◌, List, ◌∷◌, length, get_or, take, drop, arith}
use Rattle.std.proofs.lemmas.Grind.{common_steps}
use Rattle.yasna_bytes.proofs.bytes.header.end_of_contents.Goals as goal

-- bytes that begin with two zeros are those and what is after them
two_zeros : (s : List ℕ) → 2 ≤ length s → get_or s 0 0 ≡ 0 → get_or s 1 0 ≡ 0 → s ≡ 0 ∷ 0 ∷ take (length s - 2) (drop 2 s)
two_zeros s two first second = grind (arith, common_steps)

pub returns-in-0 : goal.returns-in-0
returns-in-0 c = search two_zeros
