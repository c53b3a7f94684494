-- Pieces that were checked, one after the other.
use Rattle.std.proofs.Common.{◌≡◌, ℕ, suc, ◌+◌, List, [], subst, arith}
use Rattle.yasna.specs.Words.{BERMode, Grammar}
use Rattle.asn1_input.specs.Pieces.{ArePieces, HasOther, IsFirstPiece}
use Rattle.asn1_input.proofs.PieceByPiece.{more, no_more, other_after, other_here}
use Rattle.asn1check.specs.Messages.{EncodesNone, EncodesSome}

module _ (P : List ℕ → Type 0) (whole : List ℕ) where
  -- pieces that are left are so many more of the whole
  abbrev pub Continues : ℕ → List ℕ → Type 0
  Continues count left = (n : ℕ) → ArePieces P n left → ArePieces P (count + n) whole

  -- a piece that isn't in P is one of the whole
  abbrev pub Spoils : List ℕ → Type 0
  Spoils left = (n : ℕ) → HasOther P n left → (k : ℕ) × HasOther P k whole

module _ (P : List ℕ → Type 0) (whole left piece rest : List ℕ) (first : IsFirstPiece left piece rest) where
  pub continues : (count : ℕ) → Continues P whole count left → P piece → Continues P whole (count + 1) rest
  continues count x p n others =
      let e : count + suc n ≡ count + 1 + n = omega arith in
      subst (λ k. ArePieces P k whole) e (x (suc n) (more P left piece rest first n p others))

  pub spoils : Spoils P whole left → P piece → Spoils P whole rest
  spoils x p n others = x (suc n) (other_after P left piece rest first n p others)

  pub spoilt : Spoils P whole left → (P piece → ⊥) → (k : ℕ) × HasOther P k whole
  spoilt x none = x 0 (other_here P left piece rest first none)

module _ (P : List ℕ → Type 0) (whole piece rest : List ℕ) (first : IsFirstPiece whole piece rest) where
  pub begins : P piece → Continues P whole 1 rest
  begins p n others =
      let e : suc n ≡ 1 + n = omega arith in
      subst (λ k. ArePieces P k whole) e (more P whole piece rest first n p others)

  pub begins_spoils : P piece → Spoils P whole rest
  begins_spoils p n others = (suc n, other_after P whole piece rest first n p others)

pub all_of_whole : (P : List ℕ → Type 0) (whole left : List ℕ) (count : ℕ) → Continues P whole count left → left ≡ [] → ArePieces P count whole
all_of_whole P whole left count x e =
    let same : count + 0 ≡ count = omega arith in
    subst (λ k. ArePieces P k whole) same (x 0 (no_more P left e))

pub not_some : {A : Type 0} (B : Grammar A) (m : BERMode) (s : List ℕ) → EncodesNone B m s → EncodesSome B m s → ⊥
not_some B m s none x = none x.0 x.1
