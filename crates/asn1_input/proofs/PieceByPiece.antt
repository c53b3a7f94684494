-- The pieces of bytes, one after the other.
use Rattle.std.proofs.Common.{◌≡◌, ◌<◌, ℕ, suc, List, [], length, ap, ◌∙◌, length-append, arith}
use Rattle.yasna_base.specs.declared.mode.BERMode.{BERMode}
use Rattle.yasna_base.proofs.Identifier.{begins_some}
use Rattle.yasna_base.proofs.Raw.{raw_starts}
use Rattle.yasna_bytes.specs.Walk.{TakesRaw, element_of}
use Rattle.yasna_bytes.specs.declared.bytes.walk.RawElement.{RawElement}
use Rattle.asn1_input.specs.Pieces.{ArePieces, HasOther, IsFirstPiece}

-- fewer bytes are left after an element
pub taken_shorter : (m : BERMode) (n : ℕ) (s : List ℕ) (x : RawElement) (r : List ℕ) → TakesRaw m n s x r → length r < length s
taken_shorter m n s x r h =
    let y = raw_starts n m (element_of x) x.bytes.now h.raw in
    let l = begins_some y.tag x.bytes.now y.begins in
    omega (arith, l, ap length h.joined ∙ length-append x.bytes.now r)

module _ (P : List ℕ → Type 0) (s piece rest : List ℕ) (first : IsFirstPiece s piece rest) where
  -- a piece in P, and pieces after it
  pub more : (n : ℕ) → P piece → ArePieces P n rest → ArePieces P (suc n) s
  unfolding ArePieces
  more n p others = record { piece = piece; rest = rest; is_first = first; is = p; after = others }

  pub other_here : (P piece → ⊥) → HasOther P 0 s
  unfolding HasOther
  other_here none = record { piece = piece; rest = rest; is_first = first; is = none; after = tt }

  pub other_after : (n : ℕ) → P piece → HasOther P n rest → HasOther P (suc n) s
  unfolding HasOther
  other_after n p others = record { piece = piece; rest = rest; is_first = first; is = p; after = others }

pub no_more : (P : List ℕ → Type 0) (s : List ℕ) → s ≡ [] → ArePieces P 0 s
unfolding ArePieces
no_more P s e = e
