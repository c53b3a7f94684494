-- Elements in memory, one after the other, with their tags.
use Rattle.std.specs.Borrow.{Bor}
use Rattle.std.specs.Prelude.{◌≡◌, ℕ, ◌≤◌, List, ◌++◌, length, map, drop, true, false, Option, Some, None}
use Rattle.std.specs.List.{AllByRecursion, concat}
use Rattle.std.specs.Ordering.{is_lt}
use Rattle.yasna_base.specs.Grammar.{max_depth}
use Rattle.yasna_base.specs.Raw.{RawValue, IsRaw}
use Rattle.yasna_base.specs.Set.{SetPart, parts_bytes}
use Rattle.yasna_base.specs.declared.mode.BERMode.TheVariants.{Ber}
use Rattle.yasna_base.specs.declared.tag.Tag.{Tag}
use Rattle.yasna_bytes.specs.declared.bytes.walk.RawElement.{RawElement}
use Rattle.asn1der_convert.specs.SetOrder.{sort_order, sorted_by}
use Rattle.asn1der_convert.specs.declared.sorting.SortKey.{SortKey}

-- the tag of each part
abbrev pub part_tags : List SetPart → List Tag
part_tags ps = map (λ (p : SetPart). p.tag) ps

-- p is an element with its tag
pub record IsElementPart (p : SetPart) : Type 0 where
  pub value : RawValue
  pub tag : p.tag ≡ value.tag
  pub raw : IsRaw Ber max_depth value p.bytes

-- s is the elements ps, one after the other
pub record AreElements (ps : List SetPart) (s : List ℕ) : Type 0 where
  pub each : AllByRecursion IsElementPart ps
  pub joined : s ≡ concat (parts_bytes ps)

-- an element that was found, with its tag
abbrev pub part_of : RawElement → SetPart
part_of x = record { tag = x.tag; bytes = x.bytes.now }

-- x is the element at the start of s, which isn't empty, and r follows it
pub record TakesFirst (s : List ℕ) (x : RawElement) (r : List ℕ) : Type 0 where
  pub some : 1 ≤ length x.bytes.now
  pub joined : s ≡ x.bytes.now ++ r
  pub only : (p : SetPart) (q : List ℕ) → IsElementPart p → s ≡ p.bytes ++ q → (p ≡ part_of x) × (q ≡ r)

-- no element is at the start of s
abbrev pub NoFirst : List ℕ → Type 0
NoFirst s = (p : SetPart) (q : List ℕ) → IsElementPart p → s ≡ p.bytes ++ q → ⊥

-- the first element of s and what follows it, or that there is none
abbrev pub FirstAt : List ℕ → Option (RawElement × Bor (List ℕ)) → Type 0
FirstAt s (Some x) = TakesFirst s x.0 x.1.now
FirstAt s None = NoFirst s

-- the element at the start of s is before the element b by the key, and has k bytes
pub record IsSizeBefore (key : SortKey) (s : List ℕ) (b : SetPart) (k : ℕ) : Type 0 where
  pub some : 1 ≤ k
  pub within : k ≤ length s
  pub first : (p : SetPart) (q : List ℕ) → IsElementPart p → s ≡ p.bytes ++ q → (k ≡ length p.bytes) × (is_lt (sort_order key p b) ≡ true)

-- the size of the element at the start of s, if it is before the element b
abbrev pub BeforeAt : SortKey → List ℕ → SetPart → Option ℕ → Type 0
BeforeAt key s b (Some k) = IsSizeBefore key s b k
BeforeAt key s b None = (p : SetPart) (q : List ℕ) → IsElementPart p → s ≡ p.bytes ++ q → is_lt (sort_order key p b) ≡ false

-- Where the elements b and those of s after as many bytes are sorted, t is all of them sorted
abbrev pub Weaves : SortKey → List ℕ → List ℕ → List ℕ → Type 0
Weaves key b s t =
    (us vs : List SetPart) → AreElements (sorted_by key us) b → AreElements (sorted_by key vs) (drop (length b) s) → AreElements (sorted_by key (us ++ vs)) t

-- The first k elements of s are sorted in t, and have n bytes
abbrev pub SortsFirst : SortKey → ℕ → List ℕ → List ℕ → ℕ → Type 0
SortsFirst key k s t n =
    (ps : List SetPart) (a z : List ℕ) → AreElements ps a → length ps ≡ k → s ≡ a ++ z →
    (b : List ℕ) × AreElements (sorted_by key ps) b × (t ≡ b ++ z) × (n ≡ length b)
