-- What a SET OF and a SET are written as (X.690, 10.3 and 11.6), and the laws of that.
use Rattle.std.specs.Prelude.{◌≡◌, ℕ, suc, ◌^◌, ◌<◌, ◌≤◌, ◌⊎◌, List, length, map}
use Rattle.std.specs.List.{AllByRecursion, Contains}
use Rattle.std.specs.List.Sorted.{IsPermutation}
use Rattle.yasna_base.specs.declared.mode.BERMode.{BERMode}
use Rattle.yasna_base.specs.declared.mode.BERMode.TheVariants.{Ber, Der}
use Rattle.yasna_base.specs.declared.tag.PCBit.TheVariants.{Constructed}
use Rattle.yasna_base.specs.declared.tag.Tag.{Tag}
use Rattle.yasna_base.specs.Bits.{IsBits, bits_encoding, bits_depth, AreCanonicalBits}
use Rattle.yasna_base.specs.Canonical.{IsCanonicalMode, HoldsEncoding, canonical_element, enclosed_encoding, enclosed_depth, HasEncoding}
use Rattle.yasna_base.specs.Coding.{IsCoding, Any}
use Rattle.yasna_base.specs.Element.{AnyEnclosed}
use Rattle.yasna_base.specs.Grammar.{Grammar, Members, TaggedGrammar, Encoding, Depth}
use Rattle.yasna_base.specs.Identifier.{AnyTag}
use Rattle.yasna_base.specs.Order.{octets_cmp, in_order}
use Rattle.yasna_base.specs.Pieces.{Each}
use Rattle.yasna_base.specs.Raw.{RawValue, IsRaw, raw_encoding}
use Rattle.yasna_base.specs.SequenceOf.{elements_encoding, elements_depth}
use Rattle.yasna_base.specs.Set.{AreInSetOfOrder, IsSetOf, AnySetOf, AreInSetOrder, IsSet, SetElements, SetOfContents, SetPart, part_cmp, SetContents}
use Rattle.yasna_base.specs.Text.{IsStringOf, IsTextIn, IsUtf8In, utf8_encoding, utf8_depth}

-- the parts make contents, and no others, and b is the element around them
pub record MakeElement (Contents : List (List ℕ) → List ℕ → Type 0) (m : BERMode) (t : Tag) (parts : List (List ℕ)) (b : List ℕ) : Type 0 where
  pub contents : List ℕ
  pub made : Contents parts contents
  pub unique : (c : List ℕ) → Contents parts c → c ≡ contents
  pub around : b ≡ canonical_element m t Constructed contents

-- the encoding of each value
abbrev pub encodings : {A : Type 0} → Encoding A → BERMode → List A → List (List ℕ)
encodings encoding m vs = map (encoding m) vs

-- values in the order of their encodings, those of one encoding as they were
abbrev pub in_encoding_order : {A : Type 0} → Encoding A → BERMode → List A → List A
in_encoding_order encoding m vs = in_order (λ v w. octets_cmp (encoding m v) (encoding m w)) vs

-- each value can be written, and their encodings are in the order that the mode requires of a SET OF
pub record CanSetOf {A : Type 0} (encoding : Encoding A) (Can : A → Type 0) (m : BERMode) (vs : List A) : Type 0 where
  pub each : AllByRecursion Can vs
  pub order : AreInSetOfOrder m (encodings encoding m vs)

-- a SET OF these values, as they are
abbrev pub set_of_encoding : {A : Type 0} → Encoding A → Tag → Encoding (List A)
set_of_encoding encoding t = enclosed_encoding (elements_encoding encoding) t

-- its depth
abbrev pub set_of_depth : {A : Type 0} → Depth A → Depth (List A)
set_of_depth depth = enclosed_depth (elements_depth depth)

-- The laws of the encodings of SET OF under the tag t, whose elements have encodings
pub record SetOfHasEncodings {A : Type 0} (B : Grammar A) (encoding : Encoding A) (depth : Depth A) (Can : A → Type 0) (t : Tag) : Type 0 where
  -- values in the order of their encodings have one encoding: it is read, in its mode and in BER, and a canonical mode reads nothing else
  pub has : HasEncoding (IsSetOf B t) (set_of_encoding encoding t) (set_of_depth depth) (CanSetOf encoding Can)
  -- any values that can be written can be put in that order, with the same depth
  pub ordered : (m : BERMode) (vs : List A) → AllByRecursion Can vs →
      CanSetOf encoding Can m (in_encoding_order encoding m vs) × (set_of_depth depth m (in_encoding_order encoding m vs) ≡ set_of_depth depth m vs)
  -- parts that are the encodings of values, however they are, make the encoding of the values in order
  pub made : (m : BERMode) (vs : List A) (parts : List (List ℕ)) → IsCanonicalMode m → AllByRecursion Can vs →
      length (set_of_encoding encoding t m (in_encoding_order encoding m vs)) < 2 ^ 64 → IsPermutation (encodings encoding m vs) parts →
      MakeElement SetOfContents m t parts (set_of_encoding encoding t m (in_encoding_order encoding m vs))
  -- the encodings of what a canonical mode read, however they are, make the bytes that were read
  pub again : (m : BERMode) (n : ℕ) (vs : List A) (b : List ℕ) (parts : List (List ℕ)) → IsCanonicalMode m → IsSetOf B t m n vs b →
      IsPermutation (encodings encoding m vs) parts → MakeElement SetOfContents m t parts b

-- The laws of writing of SET OF under the tag t, whose elements satisfy those of reading and of writing
pub record SetOfIsWritten {A : Type 0} (E : A → A → Type 0) (B : Grammar A) (encoding : Encoding A)
    (depth : Depth A) (Can : A → Type 0) (t : Tag) : Type 0 where
  pub encodings : SetOfHasEncodings B encoding depth Can t
  -- what BER reads can be written
  pub any : (n : ℕ) (vs : List A) (b : List ℕ) → IsSetOf B t Ber n vs b → AllByRecursion Can vs × (set_of_depth depth Der vs ≤ n)
  -- equal values are written alike
  pub same : (m : BERMode) (vs ws : List A) → Each E vs ws →
      (set_of_encoding encoding t m vs ≡ set_of_encoding encoding t m ws) × (AllByRecursion Can vs → AllByRecursion Can ws) × (set_of_depth depth m vs ≡ set_of_depth depth m ws)

-- SET OF satisfies the laws of reading under any tag, if its elements do
abbrev pub SetOfKeepsReadingLaws : {A : Type 0} → (A → A → Type 0) → Grammar A → Members → Type 0
SetOfKeepsReadingLaws E B S =
    AnyTag (λ t. IsCoding (λ vs ws. Each E vs ws) (IsSetOf B t) (AnySetOf S t))

-- SET OF satisfies the laws of writing under any tag, if its elements satisfy both
abbrev pub SetOfKeepsWritingLaws : {A : Type 0} → (A → A → Type 0) → Grammar A → Encoding A → Depth A → (A → Type 0) → Type 0
SetOfKeepsWritingLaws E B encoding depth Can = AnyTag (λ t. SetOfIsWritten E B encoding depth Can t)

-- SET OF satisfies both, if its elements satisfy them under any tag. B u m n v b says that the bytes b encode one under the tag u
abbrev pub SetOfKeepsLaws : {A : Type 0} → TaggedGrammar A → (Tag → Encoding A) → Depth A → (A → Type 0) → Type 0
SetOfKeepsLaws B encoding depth Can =
    AnyTag (λ u. SetOfKeepsReadingLaws (λ v w. v ≡ w) (B u) (Any (B u))
    × SetOfKeepsWritingLaws (λ v w. v ≡ w) (B u) (encoding u) depth Can)

-- SET OF texts of a class satisfies both
abbrev pub SetOfTextKeepsLaws : (ℕ → Type 0) → Type 0
SetOfTextKeepsLaws In = SetOfKeepsLaws (IsStringOf (IsUtf8In In)) utf8_encoding utf8_depth (IsTextIn In)

-- SET OF bit strings satisfies the laws of reading, and those of the encodings of canonical ones. What BER reads may be written
-- otherwise, as the strings with their unused bits cleared
abbrev pub SetOfBitsKeepLaws : Type 0
SetOfBitsKeepLaws =
    AnyTag (λ u. SetOfKeepsReadingLaws (λ v w. v ≡ w) (IsBits u) (Any (IsBits u))
    × AnyTag (λ t. SetOfHasEncodings (IsBits u) (bits_encoding u) bits_depth AreCanonicalBits t))

-- SET OF satisfies the laws of reading under any tag, where its elements, of which B u m n v b says so under the tag u, have any tag
abbrev pub SetOfKeepsReadingOf : {A : Type 0} → TaggedGrammar A → Type 0
SetOfKeepsReadingOf B =
    AnyTag (λ u. SetOfKeepsReadingLaws (λ v w. v ≡ w) (B u) (Any (B u)))

-- SET OF satisfies the laws of reading under any tag, where its elements are a SET
abbrev pub SetOfSetKeepsReadingLaws : Type 0
SetOfSetKeepsReadingLaws =
    AnyTag (λ u. SetOfKeepsReadingLaws (λ v w. v ≡ w) (IsSet u) (AnyEnclosed (Any SetElements) u))

-- SET OF satisfies the laws of reading under any tag, where its elements are a SET OF elements by B, E and S
abbrev pub SetOfSetOfKeepsReadingLaws : {A : Type 0} → (A → A → Type 0) → Grammar A → Members → Type 0
SetOfSetOfKeepsReadingLaws E B S =
    AnyTag (λ u. SetOfKeepsReadingLaws (λ vs ws. Each E vs ws) (IsSetOf B u) (AnySetOf S u))

-- SET OF raw elements satisfies the laws of reading
abbrev pub SetOfRawKeepsReadingLaws : Type 0
SetOfRawKeepsReadingLaws = SetOfKeepsReadingLaws (λ v w. v ≡ w) IsRaw (Any IsRaw)

-- the encoding of a raw element under its own tag
abbrev pub own_encoding : Encoding RawValue
own_encoding m v = raw_encoding v.tag m v

-- a raw element as a part of a SET
abbrev pub raw_part : BERMode → RawValue → SetPart
raw_part m v = record { tag = v.tag; bytes = own_encoding m v }

-- raw elements in the order of the parts of a SET
abbrev pub in_part_order : BERMode → List RawValue → List RawValue
in_part_order m vs = in_order (λ v w. part_cmp (raw_part m v) (raw_part m w)) vs

-- the encoding of each is a raw element within n levels
abbrev pub AreRaw : ℕ → BERMode → List RawValue → Type 0
AreRaw n m vs = AllByRecursion (λ v. IsRaw m n v (own_encoding m v)) vs

-- their tags are in the order that the mode requires of a SET
pub record CanSet (n : ℕ) (m : BERMode) (vs : List RawValue) : Type 0 where
  pub each : AreRaw n m vs
  pub order : AreInSetOrder m (map (λ (v : RawValue). v.tag) vs)

-- a SET of these elements, as they are
abbrev pub set_encoding : Tag → Encoding (List RawValue)
set_encoding t = enclosed_encoding (elements_encoding own_encoding) t

-- elements of one tag are one, or their number is in the identifier's first byte
abbrev pub TagsKeepOrder : List RawValue → Type 0
TagsKeepOrder vs = (v w : RawValue) → Contains vs v → Contains vs w → v.tag ≡ w.tag → (v ≡ w) ⊎ (v.tag.tag_number < 31)

-- elements of one tag are one
abbrev pub TagsAreUnique : List RawValue → Type 0
TagsAreUnique vs = (v w : RawValue) → Contains vs v → Contains vs w → v.tag ≡ w.tag → v ≡ w

-- The laws of writing of SET under the tag t, with n levels inside
pub record SetIsWritten (t : Tag) (n : ℕ) : Type 0 where
  -- raw elements whose tags are in order are read from their encodings, in their mode and in BER
  pub holds : (m o : BERMode) (vs : List RawValue) → HoldsEncoding m o → CanSet n m vs → length (set_encoding t m vs) < 2 ^ 64 → IsSet t o (suc n) vs (set_encoding t m vs)
  -- a canonical mode reads nothing else
  pub only : (m : BERMode) (vs : List RawValue) (b : List ℕ) → IsCanonicalMode m → IsSet t m (suc n) vs b → (b ≡ set_encoding t m vs) × CanSet n m vs
  -- any raw elements can be put in that order
  pub ordered : (m : BERMode) (vs : List RawValue) → AreRaw n m vs → CanSet n m (in_part_order m vs)
  -- parts that are the encodings of raw elements make the encoding of the elements in order
  pub made : (m : BERMode) (vs : List RawValue) → IsCanonicalMode m → AreRaw n m vs →
      MakeElement SetContents m t (encodings own_encoding m vs) (set_encoding t m (in_part_order m vs))
  -- the encodings of what a canonical mode read make the bytes that were read, where each tag with a number from 31 on has one element
  pub again : (m : BERMode) (vs : List RawValue) (b : List ℕ) → IsCanonicalMode m → IsSet t m (suc n) vs b → TagsKeepOrder vs →
      MakeElement SetContents m t (encodings own_encoding m vs) b
  -- however they are, where each tag has one element
  pub anyhow : (m : BERMode) (vs ws : List RawValue) (b : List ℕ) → IsCanonicalMode m → IsSet t m (suc n) vs b → TagsAreUnique vs → IsPermutation vs ws →
      MakeElement SetContents m t (encodings own_encoding m ws) b

-- SET satisfies the laws of writing under any tag
abbrev pub SetKeepsWritingLaws : Type 0
SetKeepsWritingLaws = AnyTag (λ t. (n : ℕ) → SetIsWritten t n)
