-- The order of the elements of a SET or a SET OF (X.690, 10.3 and 11.6).
use Rattle.std.specs.Prelude.{◌≡◌, ℕ, true, List, [], ◌∷◌, map}
use Rattle.std.specs.Ordering.{is_lt, ordering_then}
use Rattle.std.specs.declared.cmp.Ordering.{Ordering}
use Rattle.yasna_base.specs.Order.{octets_cmp, tag_cmp, in_order}
use Rattle.yasna_base.specs.Set.{SetPart}
use Rattle.yasna_base.specs.declared.tag.Tag.{Tag}
use Rattle.asn1der_convert.specs.declared.set_order.SetOrder.{SetOrder}
use Rattle.asn1der_convert.specs.declared.set_order.SetOrder.TheVariants.{Tags, Octets}
use Rattle.asn1der_convert.specs.declared.sorting.SortKey.{SortKey}
use Rattle.asn1der_convert.specs.declared.sorting.SortKey.TheVariants.{ByTags, ByOctets}

-- an item with its tag and its encoding
abbrev pub keyed_part : {A : Type 0} → (A → Tag) → (A → List ℕ) → A → SetPart
keyed_part tag f v = record { tag = tag v; bytes = f v }

-- items with their tags and encodings
abbrev pub keyed_parts : {A : Type 0} → (A → Tag) → (A → List ℕ) → List A → List SetPart
keyed_parts tag f vs = map (keyed_part tag f) vs

-- a SET is ordered by tags, and a SET OF by octets
abbrev pub set_order : SetOrder → SetPart → SetPart → Ordering
set_order Tags = λ p q. tag_cmp p.tag q.tag
set_order Octets = λ p q. octets_cmp p.bytes q.bytes

-- the first of these is before p
abbrev pub IsSwapped : SetOrder → SetPart → List SetPart → Type 0
IsSwapped o p [] = ⊥
IsSwapped o p (q ∷ qs) = is_lt (set_order o q p) ≡ true

-- no element is before the one that it follows
abbrev pub InOrder : SetOrder → List SetPart → Type 0
InOrder o [] = Unit {0}
InOrder o (p ∷ ps) = (IsSwapped o p ps → ⊥) × InOrder o ps

-- each element has a lower tag than the next one, as in a SET in DER, in which no tag is twice (X.690, 10.3; X.680, 27.3)
abbrev pub AscendByTags : List SetPart → Type 0
AscendByTags [] = Unit {0}
AscendByTags (p ∷ []) = Unit {0}
AscendByTags (p ∷ q ∷ ps) = (is_lt (tag_cmp p.tag q.tag) ≡ true) × AscendByTags (q ∷ ps)

-- elements in the order of a SET OF
abbrev pub by_octets : List SetPart → List SetPart
by_octets ps = in_order (set_order Octets) ps

-- elements are sorted by octets, or by tags, and those of one tag by octets
abbrev pub sort_order : SortKey → SetPart → SetPart → Ordering
sort_order ByTags = λ p q. ordering_then (tag_cmp p.tag q.tag) (octets_cmp p.bytes q.bytes)
sort_order ByOctets = set_order Octets

-- elements sorted by a key
abbrev pub sorted_by : SortKey → List SetPart → List SetPart
sorted_by key ps = in_order (sort_order key) ps

-- the order of elements in a SET is known without a schema: put in the order of a SET OF, they are in that of a SET too
abbrev pub IsOrderKnown : List SetPart → Type 0
IsOrderKnown ps = InOrder Tags (by_octets ps)
