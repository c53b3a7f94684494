-- The pieces of bytes: elements one after the other.
use Rattle.std.specs.Prelude.{◌≡◌, ℕ, zero, suc, List, [], ◌++◌, length, Option, Some, None}
use Rattle.std.specs.Borrow.{Bor}
use Rattle.yasna_base.specs.Grammar.{max_depth}
use Rattle.yasna_base.specs.Raw.{RawValue, IsRaw}
use Rattle.yasna_base.specs.declared.mode.BERMode.TheVariants.{Ber}
use Rattle.yasna_bytes.specs.Prefix.{HasPrefix}

-- s is a first piece and a rest: an element in BER and what is after it, or all of s if no element begins there
pub data IsFirstPiece (s piece rest : List ℕ) : Type 0 where
  element : (v : RawValue) → IsRaw Ber max_depth v piece → s ≡ piece ++ rest → IsFirstPiece s piece rest
  no_element : (HasPrefix (IsRaw Ber max_depth) s → ⊥) → piece ≡ s → rest ≡ [] → IsFirstPiece s piece rest

-- the first piece of s is in P, and what is after it is in R
pub record BeginsWith (P R : List ℕ → Type 0) (s : List ℕ) : Type 0 where
  pub piece : List ℕ
  pub rest : List ℕ
  pub is_first : IsFirstPiece s piece rest
  pub is : P piece
  pub after : R rest

-- s is this many pieces, each of which is in P
unfoldable pub ArePieces : (List ℕ → Type 0) → ℕ → List ℕ → Type 0
ArePieces P zero s = s ≡ []
ArePieces P (suc n) s = BeginsWith P (ArePieces P n) s

-- after this many pieces of s, each of which is in P, is one that isn't
unfoldable pub HasOther : (List ℕ → Type 0) → ℕ → List ℕ → Type 0
HasOther P zero s = BeginsWith (λ piece. P piece → ⊥) (λ rest. Unit {0}) s
HasOther P (suc n) s = BeginsWith P (HasOther P n) s

-- the most pieces that are left
abbrev pub size_of_rest : Option (Bor (List ℕ)) → ℕ
size_of_rest None = 0
size_of_rest (Some s) = suc (length s.now)
