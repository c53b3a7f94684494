-- SET OF and SET (X.690, 8.11, 8.12, 9.3, 10.3 and 11.6).
use Rattle.std.specs.Prelude.{◌≡◌, ℕ, ◌^◌, ◌<◌, List, [], ◌∷◌, map, drop, if◌then◌else◌, nat_lt}
use Rattle.std.specs.List.{AllByRecursion, concat}
use Rattle.std.specs.List.Sorted.{IsSorted}
use Rattle.std.specs.declared.cmp.Ordering.{Ordering}
use Rattle.yasna_base.specs.declared.mode.BERMode.{BERMode}
use Rattle.yasna_base.specs.declared.mode.BERMode.TheVariants.{Ber, Der, Cer}
use Rattle.yasna_base.specs.declared.tag.Tag.{Tag}
use Rattle.yasna_base.specs.Element.{Enclosed, AnyEnclosed}
use Rattle.yasna_base.specs.Grammar.{Grammar, Members}
use Rattle.yasna_base.specs.Identifier.{class_number, universal, BeginsWithTag}
use Rattle.yasna_base.specs.Order.{tag_cmp, octets_cmp, in_order}
use Rattle.yasna_base.specs.Raw.{RawValue, IsRaw}
use Rattle.yasna_base.specs.SequenceOf.{ElementsOf}

-- the type's own tag
abbrev pub set_tag : Tag
set_tag = universal 17

-- the order that a mode requires of the encodings in a SET OF, of which some may be equal
abbrev pub AreInSetOfOrder : BERMode → List (List ℕ) → Type 0
AreInSetOfOrder Ber bs = Unit {0}
AreInSetOfOrder Der bs = IsSorted octets_cmp bs
AreInSetOfOrder Cer bs = IsSorted octets_cmp bs

-- contents that encode these values by B, one after the other, in that order
pub record SetOfElements {A : Type 0} (B : Grammar A) (m : BERMode) (n : ℕ) (vs : List A) (c : List ℕ) : Type 0 where
  pub elements : ElementsOf B m n vs c
  pub order : AreInSetOfOrder m elements.pieces

-- contents that encode some values, in the order that the mode requires
abbrev pub AnySetOfElements : Members → Members
AnySetOfElements S m n c = (us : List (Unit {0})) × SetOfElements {A = Unit {0}} (λ m n u b. S m n b) m n us c

-- an element around them, with one level less inside
abbrev pub IsSetOf : {A : Type 0} → Grammar A → Tag → Grammar (List A)
IsSetOf B t = Enclosed (SetOfElements B) t

-- an element around contents that encode some values in that order
abbrev pub AnySetOf : Members → Tag → Members
AnySetOf S t = AnyEnclosed (AnySetOfElements S) t

-- the order that a mode requires of the tags in a SET, of which some may be equal
abbrev pub AreInSetOrder : BERMode → List Tag → Type 0
AreInSetOrder Ber ts = Unit {0}
AreInSetOrder Der ts = IsSorted tag_cmp ts
AreInSetOrder Cer ts = IsSorted tag_cmp ts

-- contents that are these raw elements, one after the other, their tags in that order
pub record SetElements (m : BERMode) (n : ℕ) (vs : List RawValue) (c : List ℕ) : Type 0 where
  pub elements : ElementsOf IsRaw m n vs c
  pub order : AreInSetOrder m (map (λ (v : RawValue). v.tag) vs)

-- an element around them, with one level less inside
abbrev pub IsSet : Tag → Grammar (List RawValue)
IsSet t = Enclosed SetElements t

-- c is the contents of a SET OF of these parts, none of which is empty: the parts in order
pub record SetOfContents (parts : List (List ℕ)) (c : List ℕ) : Type 0 where
  pub non_empty : AllByRecursion (λ b. b ≡ [] → ⊥) parts
  pub joined : c ≡ concat (in_order octets_cmp parts)

-- a part of a SET, with a tag
pub record SetPart : Type 0 where
  pub tag : Tag
  pub bytes : List ℕ

-- the part begins with an identifier of the tag
pub record HasItsTag (p : SetPart) : Type 0 where
  pub in_range : p.tag.tag_number < 2 ^ 64
  pub begins : BeginsWithTag p.tag p.bytes

-- what parts of a SET go by: the tag's class and number, and where the number is 31 or more the bytes after the first
abbrev pub part_key : SetPart → List ℕ
part_key p = class_number p.tag.tag_class ∷ (p.tag.tag_number ∷ (if nat_lt p.tag.tag_number 31 then [] else drop 1 p.bytes))

-- the order of parts of a SET
abbrev pub part_cmp : SetPart → SetPart → Ordering
part_cmp p q = octets_cmp (part_key p) (part_key q)

-- the bytes of parts
abbrev pub parts_bytes : List SetPart → List (List ℕ)
parts_bytes ps = map (λ (p : SetPart). p.bytes) ps

-- c is what a SET of these parts holds, each of which begins with an identifier: the parts in order
pub record SetContents (parts : List (List ℕ)) (c : List ℕ) : Type 0 where
  pub tagged : List SetPart
  pub tags : AllByRecursion HasItsTag tagged
  pub same : parts_bytes tagged ≡ parts
  pub joined : c ≡ concat (parts_bytes (in_order part_cmp tagged))
