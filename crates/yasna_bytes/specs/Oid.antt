-- Subidentifiers, one after the other (X.690, 8.19.2).
use Rattle.std.specs.List.{flat_map, AllByRecursion}
use Rattle.std.specs.Prelude.{Err, List, Ok, Result, [], ℕ, ◌∷◌, ◌+◌, ◌*◌, ◌++◌, ◌<◌, ◌^◌, ◌≡◌, ◌⊎◌}
use Rattle.yasna_base.specs.Digits.{base128}
use Rattle.yasna_base.specs.Oid.{AreFirstTwo}
use Rattle.yasna_base.specs.declared.error.ASN1ErrorKind.{ASN1ErrorKind}
use Rattle.yasna_base.specs.declared.error.ASN1ErrorKind.TheVariants.{OutOfMemory}
use Rattle.yasna_bytes.specs.Rejection.{BlamesBytes}

-- s are the numbers ks of 64 bits, in base 128
pub record AreNumbers (ks s : List ℕ) : Type 0 where
  pub small : AllByRecursion (λ k. k < 2 ^ 64) ks
  pub joined : s ≡ flat_map base128 ks

-- s are numbers, which were appended to old, or they aren't, or out of memory
abbrev pub AppendsNumbers : List ℕ → List ℕ → List ℕ → Result (Unit {0}) ASN1ErrorKind → Type 0
AppendsNumbers s old new (Ok _) = (ks : List ℕ) × AreNumbers ks s × (new ≡ old ++ ks)
AppendsNumbers s old new (Err k) = (k ≡ OutOfMemory) ⊎ (BlamesBytes k × ((ks : List ℕ) → AreNumbers ks s → ⊥))

-- the first two components, which make the number, were appended to old
pub record AppendedFirstTwo (number : ℕ) (old new : List ℕ) : Type 0 where
  pub first : ℕ
  pub second : ℕ
  pub two : AreFirstTwo first second
  pub made : 40 * first + second ≡ number
  pub appended : new ≡ old ++ (first ∷ second ∷ [])

-- as `AppendedFirstTwo`, or out of memory
abbrev pub AppendsFirst : ℕ → List ℕ → List ℕ → Result (Unit {0}) ASN1ErrorKind → Type 0
AppendsFirst number old new (Ok _) = AppendedFirstTwo number old new
AppendsFirst number old new (Err k) = k ≡ OutOfMemory
