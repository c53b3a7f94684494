-- Raw elements, whose contents aren't given a type (X.690, 8.1).
use Rattle.std.specs.Prelude.{◌≡◌, ℕ, zero, suc, ◌^◌, ◌<◌, List, ◌∷◌, ◌++◌}
use Rattle.yasna_base.specs.declared.mode.BERMode.{BERMode}
use Rattle.yasna_base.specs.declared.mode.BERMode.TheVariants.{Ber, Der, Cer}
use Rattle.yasna_base.specs.declared.tag.PCBit.{PCBit}
use Rattle.yasna_base.specs.declared.tag.PCBit.TheVariants.{Primitive, Constructed}
use Rattle.yasna_base.specs.declared.tag.Tag.{Tag}
use Rattle.yasna_base.specs.Canonical.{canonical_element}
use Rattle.yasna_base.specs.Coding.{IsCoding, Any}
use Rattle.yasna_base.specs.Segmented.{PiecesBefore}
use Rattle.yasna_base.specs.Digits.{IsBytes}
use Rattle.yasna_base.specs.Element.{Definite, Indefinite, end_of_contents}
use Rattle.yasna_base.specs.Grammar.{Grammar, Members, Encoding}
use Rattle.yasna_base.specs.Header.{ContentsEnd, definite_end, indefinite_end, OpensAt}
use Rattle.yasna_base.specs.Identifier.{identifier, end_tag, StartsElement}
use Rattle.yasna_base.specs.Pieces.{Pieces}

-- a tag, a bit, and what follows the length: the contents, with the two zeros where their length is indefinite
pub record RawValue : Type 0 where
  pub tag : Tag
  pub bit : PCBit
  pub payload : List ℕ

-- where a mode descends into contents whose length is counted
abbrev pub DescendsInto : BERMode → PCBit → Type 0
DescendsInto Ber bit = ⊥
DescendsInto Der Primitive = ⊥
DescendsInto Der Constructed = Unit {0}
DescendsInto Cer bit = ⊥

-- where it descends into contents that end so
abbrev pub DescendsUpTo : BERMode → PCBit → ContentsEnd → Type 0
DescendsUpTo m bit (definite_end r) = DescendsInto m bit
DescendsUpTo m bit indefinite_end = Unit {0}

-- c is a joining of pieces by R
abbrev pub IsJoining : {A : Type 0} → (A → List ℕ → Type 0) → List ℕ → Type 0
IsJoining {A} R c = (vs : List A) × Pieces R vs c

-- b is the element v, and contents that are descended into are a joining by R
pub data RawFramed (R : RawValue → List ℕ → Type 0) (m : BERMode) (v : RawValue) (b : List ℕ) : Type 0 where
  with_length : Definite m v.tag v.bit v.payload b → (DescendsInto m v.bit → IsJoining R v.payload) → RawFramed R m v b
  with_zeros : (c : List ℕ) → Indefinite m v.tag v.bit c b → IsJoining R c → v.payload ≡ c ++ end_of_contents → RawFramed R m v b

-- its tag isn't that of the end of contents and has a number of 64 bits, and its payload is bytes
pub record RawOver (R : RawValue → List ℕ → Type 0) (m : BERMode) (v : RawValue) (b : List ℕ) : Type 0 where
  pub not_end : v.tag ≡ end_tag → ⊥
  pub in_range : v.tag.tag_number < 2 ^ 64
  pub in_bytes : IsBytes v.payload
  pub framed : RawFramed R m v b

-- within n levels, b is the raw element v
unfoldable pub IsRaw : Grammar RawValue
IsRaw m zero v b = ⊥
IsRaw m (suc n) v b = RawOver (IsRaw m n) m v b

-- elements by R, and after them what D says
abbrev pub JoiningBefore : (RawValue → List ℕ → Type 0) → (List ℕ → Type 0) → List ℕ → Type 0
JoiningBefore R D c = PiecesBefore R (λ vs. Unit {0}) D c

-- an element that is descended into is begun at the start of s, and what D says is where one within it may
pub record DeepRaw (R : RawValue → List ℕ → Type 0) (D : List ℕ → Type 0) (m : BERMode) (s : List ℕ) : Type 0 where
  pub tag : Tag
  pub bit : PCBit
  pub not_end : tag ≡ end_tag → ⊥
  pub contents : List ℕ
  pub end : ContentsEnd
  pub opens : OpensAt m tag bit s contents end
  pub descends : DescendsUpTo m bit end
  pub inside : JoiningBefore R D contents

-- reading a raw element from the start of s meets one that no level is left for
unfoldable pub IsDeepRaw : Members
IsDeepRaw m zero s = StartsElement s
IsDeepRaw m (suc n) s = DeepRaw (IsRaw m n) (IsDeepRaw m n) m s

-- in CER, where the payload of a constructed element ends by the two zeros
abbrev pub raw_cer_encoding : Tag → PCBit → List ℕ → List ℕ
raw_cer_encoding t Primitive c = canonical_element Cer t Primitive c
raw_cer_encoding t Constructed c = identifier t Constructed ++ (128 ∷ c)

-- the encoding of a raw element whose payload is written as it is
abbrev pub raw_encoding : Tag → Encoding RawValue
raw_encoding t Cer v = raw_cer_encoding t v.bit v.payload
raw_encoding t m v = canonical_element m t v.bit v.payload

-- raw elements satisfy the laws of reading
abbrev pub RawKeepsReadingLaws : Type 0
RawKeepsReadingLaws = IsCoding (λ v w. v ≡ w) IsRaw (Any IsRaw)

-- where an element lies too deep, no raw element is there
abbrev pub TooDeepIsNotRaw : Type 0
TooDeepIsNotRaw = (n : ℕ) (m : BERMode) (v : RawValue) (s b r : List ℕ) → IsDeepRaw m n s → IsRaw m n v b → s ≡ b ++ r → ⊥

-- the element whose contents c a header opens ends before r
abbrev pub ContentsTo : (RawValue → List ℕ → Type 0) → BERMode → PCBit → List ℕ → ContentsEnd → List ℕ → Type 0
ContentsTo R m bit c (definite_end z) r = (r ≡ z) × (DescendsInto m bit → IsJoining R c)
ContentsTo R m bit c indefinite_end r = (d : List ℕ) × IsJoining R d × (c ≡ d ++ (0 ∷ 0 ∷ r))

-- payload is the payload of that element
abbrev pub IsPayload : List ℕ → ContentsEnd → List ℕ → List ℕ → Type 0
IsPayload c (definite_end z) r payload = payload ≡ c
IsPayload c indefinite_end r payload = c ≡ payload ++ r
