-- The offset of the error in malformed elements.
use Rattle.std.specs.Prelude.{◌≡◌, ◌↔◌, ℕ, zero, suc, ◌+◌, Bool, true, false, List, ◌++◌, length}
use Rattle.yasna_base.specs.declared.error.ASN1ErrorKind.{ASN1ErrorKind}
use Rattle.yasna_base.specs.declared.error.ASN1ErrorKind.TheVariants.{OutOfMemory, StackOverflow}
use Rattle.yasna_base.specs.declared.mode.BERMode.{BERMode}
use Rattle.yasna_base.specs.declared.tag.PCBit.TheVariants.{Constructed}
use Rattle.yasna_base.specs.declared.tag.Tag.{Tag}
use Rattle.yasna_base.specs.Header.{ContentsEnd, definite_end, indefinite_end, OpensAt}
use Rattle.yasna_base.specs.Identifier.{end_tag}
use Rattle.yasna_base.specs.Pieces.{Pieces}
use Rattle.yasna_base.specs.Raw.{RawValue}
use Rattle.yasna_bytes.specs.Walk.{NoHeader, HasNoLevel, following}
use Rattle.asn1show_walk.specs.WellFormed.{IsWellFormed, EndsHere}

-- no header of an element is at the start of s, with an error of kind k, which is the depth limit exactly where no level is left
pub record HeaderMissing (m : BERMode) (n : ℕ) (k : ASN1ErrorKind) (s : List ℕ) : Type 0 where
  pub none : NoHeader m n s
  pub deep : k ≡ StackOverflow ↔ HasNoLevel n s
  pub no_memory : k ≡ OutOfMemory → ⊥

-- contents that end so have a definite length
abbrev pub is_counted : ContentsEnd → Bool
is_counted (definite_end r) = true
is_counted indefinite_end = false

-- the header of a constructed element is at the start of s, and its contents stop where Inner says, at octets after the start of s
pub record StopsInside (Inner : Bool → List ℕ → ℕ → Type 0) (m : BERMode) (s : List ℕ) (at : ℕ) : Type 0 where
  pub tag : Tag
  pub not_end : tag ≡ end_tag → ⊥
  pub contents : List ℕ
  pub end : ContentsEnd
  pub opens : OpensAt m tag Constructed s contents end
  pub header : ℕ
  pub counts : header + (length contents + length (following end)) ≡ length s
  pub further : ℕ
  pub place : at ≡ header + further
  pub inner : Inner (is_counted end) contents further

-- an element at the start of s stops at octets after that start: at its header, or in its contents
pub data StopsElement (Inner : Bool → List ℕ → ℕ → Type 0) (m : BERMode) (n : ℕ) (k : ASN1ErrorKind) (s : List ℕ) (at : ℕ) : Type 0 where
  at_header : at ≡ 0 → HeaderMissing m n k s → StopsElement Inner m n k s at
  inside : StopsInside Inner m s at → StopsElement Inner m n k s at

-- elements by R are from s on, and after them the next stops, at octets after the start of s
pub record StopsAfter (R : RawValue → List ℕ → Type 0) (Next : List ℕ → ℕ → Type 0) (counted : Bool) (s : List ℕ) (at : ℕ) : Type 0 where
  pub values : List RawValue
  pub prefix : List ℕ
  pub rest : List ℕ
  pub pieces : Pieces R values prefix
  pub joined : s ≡ prefix ++ rest
  pub goes_on : EndsHere counted rest → ⊥
  pub further : ℕ
  pub place : at ≡ length prefix + further
  pub next : Next rest further

-- within n levels, an element at the start of s stops at octets after that start, with an error of kind k
unfoldable pub StopsOne : ℕ → BERMode → ASN1ErrorKind → List ℕ → ℕ → Type 0
StopsOne zero m k s at = StopsElement (λ counted c further. ⊥) m zero k s at
StopsOne (suc n) m k s at = StopsElement (StopsAfter (IsWellFormed n m) (StopsOne n m k)) m (suc n) k s at

-- as `StopsOne`, for elements one after the other in contents
abbrev pub StopsIn : ℕ → BERMode → ASN1ErrorKind → Bool → List ℕ → ℕ → Type 0
StopsIn n m k counted s at = StopsAfter (IsWellFormed n m) (StopsOne n m k) counted s at

-- the elements of an input stop at this offset, and at no other
pub record StopsOnly (n : ℕ) (m : BERMode) (k : ASN1ErrorKind) (s : List ℕ) (offset : ℕ) : Type 0 where
  pub here : StopsIn n m k true s offset
  pub once : (j : ASN1ErrorKind) (o : ℕ) → StopsIn n m j true s o → o ≡ offset
