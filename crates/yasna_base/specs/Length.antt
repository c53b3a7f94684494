-- The length octets (X.690, 8.1.3, 9.1 and 10.1).
use Rattle.std.specs.Prelude.{◌≡◌, ℕ, ◌+◌, ◌^◌, ◌<◌, ◌≤◌, List, [], ◌∷◌, length, if◌then◌else◌, nat_lt}
use Rattle.std.specs.Int.Digits.{number_from_digits}
use Rattle.yasna_base.specs.declared.mode.BERMode.{BERMode}
use Rattle.yasna_base.specs.declared.mode.BERMode.TheVariants.{Ber, Der, Cer}
use Rattle.yasna_base.specs.Digits.{IsBytes, digits}

-- the fewest bytes
unfoldable pub shortest_length : ℕ → List ℕ
shortest_length k = if nat_lt k 128 then (k ∷ []) else ((128 + length (digits 256 k)) ∷ digits 256 k)

-- l spells k in one byte, or after a byte that counts the others in base 256, with leading zeros at will
pub data IsLongLength (k : ℕ) (l : List ℕ) : Type 0 where
  one_byte : k < 128 → l ≡ k ∷ [] → IsLongLength k l
  counted : (ds : List ℕ) → 1 ≤ length ds → length ds ≤ 126 → IsBytes ds → number_from_digits 256 ds ≡ k → l ≡ (128 + length ds) ∷ ds → IsLongLength k l

-- l spells the length k, as the mode accepts it
abbrev pub SpellsLength : BERMode → ℕ → List ℕ → Type 0
SpellsLength Ber k l = (k < 2 ^ 64) × IsLongLength k l
SpellsLength Der k l = (k < 2 ^ 64) × (l ≡ shortest_length k)
SpellsLength Cer k l = (k < 2 ^ 64) × (l ≡ shortest_length k)
