-- The laws of a type of which only a canonical mode has one encoding. They say nothing of how what BER reads is written: so a type that
-- holds an element of any type as it came, or the unused bits of a BIT STRING, satisfies them.
use Rattle.std.specs.Prelude.{◌≡◌, ℕ, zero, suc, ◌^◌, ◌<◌, ◌≤◌, List, Option, Some, None, length}
use Rattle.std.specs.List.{AllByRecursion}
use Rattle.yasna_base.specs.declared.mode.BERMode.{BERMode}
use Rattle.yasna_base.specs.Canonical.{IsCanonicalMode, HoldsEncoding}
use Rattle.yasna_base.specs.Digits.{IsBytes}
use Rattle.yasna_base.specs.Grammar.{Grammar, Encoding, Depth}
use Rattle.yasna_base.specs.Raw.{RawValue, IsRaw, raw_encoding}

-- which values have an encoding in a mode within a number of levels
abbrev pub Fitting : Type 0 → Type 1
Fitting A = BERMode → ℕ → A → Type 0

-- Can says which values can be written
pub record IsExact {A : Type 0} (E : A → A → Type 0) (B : Grammar A) (encoding : Encoding A) (Fits : Fitting A) (Can : A → Type 0) : Type 0 where
  -- the encoding is bytes
  pub in_bytes : (m : BERMode) (n : ℕ) (v : A) → Fits m n v → length (encoding m v) < 2 ^ 64 → IsBytes (encoding m v)
  -- the encoding is read, in its mode and in BER
  pub holds : (m o : BERMode) (n : ℕ) (v : A) → HoldsEncoding m o → Fits m n v → length (encoding m v) < 2 ^ 64 → B o n v (encoding m v)
  -- a canonical mode reads nothing but the encoding
  pub only : (m : BERMode) (n : ℕ) (v : A) (b : List ℕ) → IsCanonicalMode m → B m n v b → (b ≡ encoding m v) × Fits m n v
  -- what has an encoding can be written
  pub can : (m : BERMode) (n : ℕ) (v : A) → Fits m n v → Can v
  -- equal values are written alike
  pub same : (m : BERMode) (v w : A) → E v w → (encoding m v ≡ encoding m w) × (Can v → Can w) × ((n : ℕ) → Fits m n v → Fits m n w)

-- of a type that satisfies the laws of writing: the values that can be written, and aren't too deep
abbrev pub written_fits : {A : Type 0} → Depth A → (A → Type 0) → Fitting A
written_fits depth Can m n v = Can v × (depth m v ≤ n)

-- of an element around contents, which takes one level
abbrev pub enclosed_fits : {A : Type 0} → Fitting A → Fitting A
enclosed_fits F m zero v = ⊥
enclosed_fits F m (suc n) v = F m n v

-- of a part, and of those after it
abbrev pub part_fits : {A V : Type 0} → Fitting A → Fitting V → Fitting (A × V)
part_fits F G m n v = F m n v.0 × G m n v.1

-- of no parts
abbrev pub nothing_fits : Fitting (Unit {0})
nothing_fits m n v = Unit {0}

-- of a part that may be omitted
abbrev pub option_fits : {A : Type 0} → Fitting A → Fitting (Option A)
option_fits F m n (Some v) = F m n v
option_fits F m n None = Unit {0}

-- of elements one after the other
abbrev pub elements_fit : {A : Type 0} → Fitting A → Fitting (List A)
elements_fit F m n vs = AllByRecursion (F m n) vs

-- of an element of any type, kept as it came: it is in the mode itself
abbrev pub raw_fits : Fitting RawValue
raw_fits m n v = IsRaw m n v (raw_encoding v.tag m v)
