-- Headers at the start of bytes, and where contents end (X.690, 8.1).
use Rattle.std.specs.Borrow.{Bor}
use Rattle.std.specs.Prelude.{◌≡◌, ℕ, ◌≤◌, List, ◌∷◌, ◌++◌, length, Result, Ok, Err, true}
use Rattle.yasna_base.specs.Digits.{IsBytes}
use Rattle.yasna_base.specs.Element.{TakesDefinite, TakesIndefinite, IsPrimitive}
pub use Rattle.yasna_base.specs.Header.{EndsBefore}
use Rattle.yasna_base.specs.Header.{ContentsEnd, definite_end, indefinite_end, OpensAt}
use Rattle.yasna_base.specs.Identifier.{identifier}
use Rattle.yasna_base.specs.Length.{SpellsLength}
use Rattle.yasna_base.specs.declared.error.ASN1ErrorKind.{ASN1ErrorKind}
use Rattle.yasna_base.specs.declared.error.ASN1ErrorKind.TheVariants.{StackOverflow}
use Rattle.yasna_base.specs.declared.mode.BERMode.{BERMode}
use Rattle.yasna_base.specs.declared.tag.PCBit.{PCBit}
use Rattle.yasna_base.specs.declared.tag.PCBit.TheVariants.{Constructed}
use Rattle.yasna_base.specs.declared.tag.Tag.{Tag}
use Rattle.yasna_bytes.specs.Prefix.{Takes, HasPrefix}
use Rattle.yasna_bytes.specs.Rejection.{BlamesBytes, IsTooDeep, Rejects, IsElsewhere}
use Rattle.yasna_bytes.specs.declared.bytes.header.Opened.{Opened}
use Rattle.yasna_bytes.specs.declared.bytes.header.Rejection.{Rejection}

-- after an identifier with this bit, a length, the contents c that it counts, and r; or the byte of the indefinite form and c
abbrev pub Holds : BERMode → PCBit → List ℕ → List ℕ → ContentsEnd → Type 0
Holds m bit y c (definite_end r) = (l : List ℕ) × TakesDefinite m bit × SpellsLength m (length c) l × (y ≡ l ++ (c ++ r))
Holds m bit y c indefinite_end = TakesIndefinite m bit × (y ≡ 128 ∷ c)

-- a length and contents, which are bytes, are after an identifier with this bit
pub record HoldsContents (m : BERMode) (bit_read : PCBit) (y : List ℕ) (o : Opened) : Type 0 where
  pub bit : o.bit ≡ bit_read
  pub in_bytes : IsBytes o.contents
  pub holds : Holds m bit_read y o.contents o.end

-- a length and contents after an identifier with this bit, or why there are none
abbrev pub ContentsAt : BERMode → PCBit → List ℕ → Result Opened ASN1ErrorKind → Type 0
ContentsAt m bit y (Ok o) = HoldsContents m bit y o
ContentsAt m bit y (Err k) = BlamesBytes k × ((c : List ℕ) (f : ContentsEnd) → Holds m bit y c f → ⊥)

-- no level is left for the element, or no contents are after its identifier
pub data NotHeld (m : BERMode) (n : ℕ) (bit : PCBit) (y : List ℕ) (k : ASN1ErrorKind) : Type 0 where
  no_level : n ≡ 0 → k ≡ StackOverflow → NotHeld m n bit y k
  no_contents : 1 ≤ n → BlamesBytes k → ((c : List ℕ) (f : ContentsEnd) → Holds m bit y c f → ⊥) → NotHeld m n bit y k

-- what is after the identifier of an element with this bit
abbrev pub AfterIdentifierAt : BERMode → ℕ → PCBit → List ℕ → Result Opened Rejection → Type 0
AfterIdentifierAt m n bit y (Ok o) = (1 ≤ n) × HoldsContents m bit y o
AfterIdentifierAt m n bit y (Err e) = (e.consumed ≡ true) × NotHeld m n bit y e.kind

-- some header of the tag with a bit that P allows is at the start, and a level is left for the element
pub record HasHeader (P : PCBit → Type 0) (m : BERMode) (n : ℕ) (t : Tag) (s : List ℕ) : Type 0 where
  pub level : 1 ≤ n
  pub bit : PCBit
  pub allowed : P bit
  pub after : List ℕ
  pub joined : s ≡ identifier t bit ++ after
  pub contents : List ℕ
  pub end : ContentsEnd
  pub holds : Holds m bit after contents end

-- the bit may be either
abbrev pub AnyBit : PCBit → Type 0
AnyBit bit = Unit {0}

-- the element is to be constructed
abbrev pub OnlyConstructed : PCBit → Type 0
OnlyConstructed bit = bit ≡ Constructed

-- no such header is there
abbrev pub RejectsHeader : (PCBit → Type 0) → BERMode → ℕ → Tag → List ℕ → Rejection → Type 0
RejectsHeader P m n t s e = Rejects (HasHeader P m n t s) (IsTooDeep n t s) ⊥ (IsElsewhere t s) e

-- a header of the tag is at the start, and a level is left for the element
abbrev pub OpenedAt : BERMode → ℕ → Tag → List ℕ → Result Opened Rejection → Type 0
OpenedAt m n t s (Ok o) = (1 ≤ n) × OpensAt m t o.bit s o.contents o.end
OpenedAt m n t s (Err e) = RejectsHeader AnyBit m n t s e

-- as `OpenedAt`, of a constructed element
abbrev pub ConstructedAt : BERMode → ℕ → Tag → List ℕ → Result Opened Rejection → Type 0
ConstructedAt m n t s (Ok o) = (1 ≤ n) × OpensAt m t Constructed s o.contents o.end
ConstructedAt m n t s (Err e) = RejectsHeader OnlyConstructed m n t s e

-- the contents v themselves
abbrev pub AreContents : List ℕ → List ℕ → Type 0
AreContents v c = v ≡ c

-- the contents of a primitive element, and the rest
abbrev pub PrimitiveAt : ℕ → BERMode → Tag → List ℕ → Result (Bor (List ℕ) × Bor (List ℕ)) Rejection → Type 0
PrimitiveAt n m t s (Ok x) = Takes (IsPrimitive AreContents t m n) s x.0.now x.1.now
PrimitiveAt n m t s (Err e) = Rejects (HasPrefix (IsPrimitive AreContents t m n) s) (IsTooDeep n t s) ⊥ (IsElsewhere t s) e

-- contents that end so don't end at y
abbrev pub NoEnd : ContentsEnd → List ℕ → Type 0
NoEnd e y = (r : List ℕ) → EndsBefore e y r → ⊥

-- contents that were read as far as y end there, or don't
abbrev pub ClosesAt : ContentsEnd → List ℕ → Result (Bor (List ℕ)) ASN1ErrorKind → Type 0
ClosesAt a y (Ok r) = EndsBefore a y r.now
ClosesAt a y (Err k) = BlamesBytes k × NoEnd a y
