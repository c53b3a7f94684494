-- What holds of sets, as the laws of this crate say it.
use Rattle.std.specs.Prelude.{◌≡◌, ℕ, List}
use Rattle.std.specs.List.{Contains}
use Rattle.std.specs.List.Sorted.{IsPermutation}
use Rattle.yasna_base.specs.declared.tag.Tag.{Tag}
use Rattle.yasna_base.specs.Coding.{IsCoding, Any}
use Rattle.yasna_base.specs.Element.{AnyEnclosed}
use Rattle.yasna_base.specs.Identifier.{BeginsWithTag, AnyTag}
use Rattle.yasna_base.specs.Order.{octets_cmp, in_order}
use Rattle.yasna_base.specs.Set.{SetElements, IsSet, SetPart, part_cmp, SetContents}

-- SET satisfies the laws of reading under any tag
abbrev pub SetKeepsReadingLaws : Type 0
SetKeepsReadingLaws = AnyTag (λ t. IsCoding (λ v w. v ≡ w) (IsSet t) (AnyEnclosed (Any SetElements) t))

-- parts that were otherwise are put in the same order of a SET OF
abbrev pub SetOfOrderIsOne : Type 0
SetOfOrderIsOne = (ps qs : List (List ℕ)) → IsPermutation ps qs → in_order octets_cmp ps ≡ in_order octets_cmp qs

-- parts in another order are put in the same order of a SET, where parts of one tag are equal
abbrev pub SetOrderIsOne : Type 0
SetOrderIsOne =
    (ps qs : List SetPart) → IsPermutation ps qs → ((p q : SetPart) → Contains ps p → Contains ps q → p.tag ≡ q.tag → p ≡ q) →
    in_order part_cmp ps ≡ in_order part_cmp qs

-- parts of which those that begin with one tag are one
abbrev pub HaveOwnTags : List (List ℕ) → Type 0
HaveOwnTags ps = (p q : List ℕ) (t : Tag) → Contains ps p → Contains ps q → BeginsWithTag t p → BeginsWithTag t q → p ≡ q

-- what such parts make is what they make where they were otherwise, and nothing else is
abbrev pub SetContentsAreOne : Type 0
SetContentsAreOne =
    (ps qs : List (List ℕ)) → IsPermutation ps qs → HaveOwnTags ps → (c : List ℕ) → SetContents ps c →
    SetContents qs c × ((d : List ℕ) → SetContents qs d → d ≡ c)
