-- Lengths at the start of bytes (X.690, 8.1.3).
use Rattle.std.specs.Borrow.{Bor}
use Rattle.std.specs.Int.Digits.{number_from_digits}
use Rattle.std.specs.Prelude.{Err, List, None, Ok, Option, Result, Some, get_or, ℕ, ◌++◌, ◌<◌, ◌^◌, ◌∷◌, ◌≡◌, ◌≤◌}
use Rattle.yasna_base.specs.Length.{SpellsLength}
use Rattle.yasna_base.specs.declared.error.ASN1ErrorKind.{ASN1ErrorKind}
use Rattle.yasna_base.specs.declared.mode.BERMode.{BERMode}
use Rattle.yasna_base.specs.declared.mode.BERMode.TheVariants.{Ber, Der, Cer}
use Rattle.yasna_bytes.specs.Rejection.{BlamesBytes}

-- a length and what follows it, or what follows the byte of the indefinite form
abbrev pub Measures : BERMode → List ℕ → Option ℕ → List ℕ → Type 0
Measures m s (Some k) r = (l : List ℕ) × SpellsLength m k l × (s ≡ l ++ r)
Measures m s None r = s ≡ 128 ∷ r

-- whether a mode accepts a length k spelled by digits after a count
abbrev pub TakesSpelling : BERMode → List ℕ → ℕ → Type 0
TakesSpelling Ber ds k = Unit {0}
TakesSpelling Der ds k = (128 ≤ k) × (0 < get_or ds 0 0)
TakesSpelling Cer ds k = (128 ≤ k) × (0 < get_or ds 0 0)

-- digits after a count spell the length k, as the mode accepts it
pub record SpellsDigits (m : BERMode) (digits : List ℕ) (k : ℕ) : Type 0 where
  pub number : number_from_digits 256 digits ≡ k
  pub in_range : k < 2 ^ 64
  pub taken : TakesSpelling m digits k

-- a length, or the byte of the indefinite form, is at the start
abbrev pub LengthAt : BERMode → List ℕ → Result (Option ℕ × Bor (List ℕ)) ASN1ErrorKind → Type 0
LengthAt m s (Ok x) = Measures m s x.0 x.1.now
LengthAt m s (Err e) = BlamesBytes e × ((k : Option ℕ) (r : List ℕ) → Measures m s k r → ⊥)
