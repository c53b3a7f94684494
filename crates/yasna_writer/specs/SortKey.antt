-- The number before a part of a SET OF.
use Rattle.std.specs.Prelude.{◌≡◌, ℕ, zero, suc, ◌+◌, ◌*◌, ◌<◌, List, get_or}

-- the number that the first n bytes spell in base 256, with zeros after fewer
abbrev pub key_number : ℕ → List ℕ → ℕ
key_number zero b = 0
key_number (suc n) b = key_number n b * 256 + get_or b n 0

-- b are bytes, and f is the number that the first eight spell
pub record IsFirstEight (f : ℕ) (b : List ℕ) : Type 0 where
  pub in_bytes : (i : ℕ) → get_or b i 0 < 256
  pub spells : f ≡ key_number 8 b
