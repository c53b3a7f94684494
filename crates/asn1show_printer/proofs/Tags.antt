-- The tags of the elements that contents begin with, and whether two of them are the same.
use Rattle.std.proofs.Common.{◌≡◌, ◌↔◌, ◌<◌, ◌≤◌, ℕ, suc, List, [], ◌∷◌, ◌++◌, length, refl, sym, ap, subst, ◌∙◌, append_assoc, append-nil, arith, inl, inr, Bool, true, false, cond}
use Rattle.std.specs.Prelude.{◌≢◌, ◌&&◌, IsTrue, map}
use Rattle.std.specs.Bool.{Decides, one_answer}
use Rattle.std.specs.Cmp.{IsTotalOrder, nat_cmp_total, on_total, then_total, tied_itself, tied_then, unsigned_ties}
use Rattle.std.specs.List.{AllPairs, IsDistinct, dedup, dedup_from}
use Rattle.std.specs.List.Retain.{DiffersFromLast, IsFiltered}
use Rattle.std.specs.List.Sorted.{IsPermutation, IsSorted, IsStrictlySortedBy}
use Rattle.std.specs.Ordering.{eq_by_cmp, is_eq, nat_cmp}
use Rattle.std.specs.declared.cmp.Ordering.{Ordering}
use Rattle.std.proofs.lemmas.Bool.{cases_lt, eqb-true}
use Rattle.std.proofs.lemmas.List.Filters.{dedup_is}
use Rattle.std.proofs.lemmas.List.Kept.{IsStrictlySortedBy-dedup}
use Rattle.std.proofs.lemmas.List.Sorted.{IsPermutation-sym}
use Rattle.std.proofs.lemmas.Map.Keys.{IsDistinct-IsPermutation, IsDistinct-from_sorted, IsDistinct-head, IsDistinct-tail}
use Rattle.std.proofs.lemmas.Map.Made.{IsDistinct-from_AllPairs, AllPairs-from_IsDistinct}
use Rattle.yasna_base.specs.Identifier.{class_number}
use Rattle.yasna_base.specs.Order.{tag_cmp}
use Rattle.yasna_base.specs.declared.tag.Tag.{Tag}
use Rattle.yasna_base.specs.declared.tag.TagClass.{TagClass}
use Rattle.yasna_base.specs.declared.tag.TagClass.TheVariants.{Universal, Application, ContextSpecific, Private}
use Rattle.asn1show_printer.specs.Pieces.{RawPiece, Begins, BeginsNone, ArePieces, tag_of_piece}
use Rattle.asn1show_printer.proofs.Pieces.{pieces_begin, pieces_end}

-- these tags are those of the pieces, but of those that are left
abbrev pub TagsFrom : List ℕ → List ℕ → List Tag → Type 0
TagsFrom c left ts = (ps : List RawPiece) → ArePieces c ps → (qs : List RawPiece) × ArePieces left qs × (map tag_of_piece ps ≡ ts ++ map tag_of_piece qs)

pub tags_first : (c : List ℕ) → TagsFrom c c []
tags_first c ps are = (ps, are, refl)

pub tags_next : (c left r : List ℕ) (p : RawPiece) (ts : List Tag) → TagsFrom c left ts → Begins left p r → TagsFrom c r (ts ++ (tag_of_piece p ∷ []))
tags_next c left r p ts from x ps are =
    let f = from ps are in
    let k = pieces_begin left r p f.0 x f.1 in
    (k.others, k.are, f.2 ∙ ap (λ z. ts ++ map tag_of_piece z) k.is ∙ sym (append_assoc ts (tag_of_piece p ∷ []) (map tag_of_piece k.others)))

pub tags_end : (c left : List ℕ) (ts : List Tag) → TagsFrom c left ts → BeginsNone left → (ps : List RawPiece) → ArePieces c ps → ts ≡ map tag_of_piece ps
tags_end c left ts from none ps are =
    let f = from ps are in
    sym (f.2 ∙ ap (λ z. ts ++ map tag_of_piece z) (pieces_end left f.0 none f.1) ∙ append-nil ts)

-- ---- elements that are the same

same_answers : (a b : Bool) → (a ≡ true → b ≡ true) → (b ≡ true → a ≡ true) → a ≡ b
same_answers true true f g = refl
same_answers true false f g = sym (f refl)
same_answers false true f g = g refl
same_answers false false f g = refl

module _ {X : Type 0} where
  cond_most : (b : Bool) (xs ys : List X) (n : ℕ) → length xs ≤ n → length ys ≤ n → length (cond b xs ys) ≤ n
  cond_most true xs ys n h k = h
  cond_most false xs ys n h k = k

  -- `dedup` leaves as many at most
  dedup_most : (E : X → X → Bool) (k : X) (xs : List X) → length (dedup_from E k xs) ≤ suc (length xs)
  dedup_most E k [] = omega arith
  dedup_most E k (x ∷ xs) =
      let h = dedup_most E k xs in
      let i = dedup_most E x xs in
      cond_most (E x k) (dedup_from E k xs) (k ∷ dedup_from E x xs) (suc (suc (length xs))) (omega (arith, h)) (omega (arith, i))

  whole_by : (b : Bool) (k x : X) (xs few more : List X) → length few ≤ suc (length xs) → (length more ≡ suc (length xs) → more ≡ x ∷ xs) →
      length (cond b few (k ∷ more)) ≡ suc (suc (length xs)) → cond b few (k ∷ more) ≡ k ∷ x ∷ xs
  whole_by true k x xs few more h same e = absurd (omega (arith, h, e))
  whole_by false k x xs few more h same e = ap (λ z. k ∷ z) (same (omega (arith, e)))

  -- where it leaves as many, it leaves all
  dedup_whole : (E : X → X → Bool) (k : X) (xs : List X) → length (dedup_from E k xs) ≡ suc (length xs) → dedup_from E k xs ≡ k ∷ xs
  dedup_whole E k [] e = refl
  dedup_whole E k (x ∷ xs) e = whole_by (E x k) k x xs (dedup_from E k xs) (dedup_from E x xs) (dedup_most E k xs) (dedup_whole E x xs) e

  -- where all differ, it leaves all
  distinct_whole : (E : X → X → Bool) → ((x y : X) → E x y ≡ E y x) → (k : X) (xs : List X) → IsDistinct E (k ∷ xs) → dedup_from E k xs ≡ k ∷ xs
  distinct_whole E flips k [] d = refl
  distinct_whole E flips k (x ∷ xs) d =
      let first = IsDistinct-head E k (x ∷ xs) d in
      ap (λ b. cond b (dedup_from E k xs) (k ∷ dedup_from E x xs)) (flips x k ∙ first.0) ∙
      ap (λ z. k ∷ z) (distinct_whole E flips x xs (IsDistinct-tail E k (x ∷ xs) d))

  all_whole : (E : X → X → Bool) → ((x y : X) → E x y ≡ E y x) → (xs : List X) → IsDistinct E xs → dedup E xs ≡ xs
  all_whole E flips [] d = refl
  all_whole E flips (x ∷ xs) d = distinct_whole E flips x xs d

  none_dropped : (E : X → X → Bool) (xs : List X) → length xs ≤ length (dedup E xs) → dedup E xs ≡ xs
  none_dropped E [] h = refl
  none_dropped E (x ∷ xs) h = let i = dedup_most E x xs in dedup_whole E x xs (omega (arith, h, i))

  -- `dedup` of a sorted list leaves fewer exactly if two of the elements are the same
  pub fewer_where_equal : {R : X → X → Ordering} (o : IsTotalOrder R) {E : X → X → Bool} (ties : (x y : X) → E x y ≡ eq_by_cmp R x y)
      (same : (x y : X) → Decides (E x y) (x ≡ y)) (xs ys zs : List X) → IsPermutation xs ys → length ys ≡ length xs → IsSorted R ys →
      IsFiltered (DiffersFromLast E) [] ys zs → (said : Bool) → IsTrue said ↔ (length zs < length xs) → IsTrue said ↔ (AllPairs (λ x y. x ≢ y) xs → ⊥)
  fewer_where_equal {R = R} o {E = E} ties same xs ys zs shifted size sorted filtered said x =
      let e : zs ≡ dedup E ys = dedup_is E ys zs filtered in
      let flips : (a b : X) → E a b ≡ E b a =
      λ a b. same_answers (E a b) (E b a) (λ t. (same b a).1 (sym ((same a b).0 t))) (λ t. (same a b).1 (sym ((same b a).0 t))) in (
        λ t all.
            let all_differ = IsDistinct-IsPermutation E flips xs ys shifted (IsDistinct-from_AllPairs same xs all) in
            let as_many : length zs ≡ length ys = ap length (e ∙ all_whole E flips ys all_differ) in
            let fewer = x.0 t in
            omega (arith, as_many, size, fewer),
        λ none. by said x none e,
      )
    where
      by : (b : Bool) → IsTrue b ↔ (length zs < length xs) → (AllPairs (λ x y. x ≢ y) xs → ⊥) → zs ≡ dedup E ys → IsTrue b
      by true y none e = refl
      by false y none e =
          let at_least : (length zs < length xs → ⊥) = λ h. let f = y.1 h in absurd (cc) in
          let as_many : length ys ≤ length (dedup E ys) = at_least_by at_least (ap length e) in
          let whole : dedup E ys ≡ ys = none_dropped E ys as_many in
          let strict : IsStrictlySortedBy R ys = subst (IsStrictlySortedBy R) whole (IsStrictlySortedBy-dedup o ties ys sorted) in
          let tests : E ≡ eq_by_cmp R = λ i a b. ties a b i in
          let differ : IsDistinct E ys = subst (λ z. IsDistinct z ys) (sym tests) (IsDistinct-from_sorted R ys strict) in
          let back = IsDistinct-IsPermutation E flips_back ys xs (IsPermutation-sym xs ys shifted) differ in
          absurd (none (AllPairs-from_IsDistinct same xs back))
        where
          flips_back : (a b : X) → E a b ≡ E b a
          flips_back a b = same_answers (E a b) (E b a) (λ t. (same b a).1 (sym ((same a b).0 t))) (λ t. (same a b).1 (sym ((same b a).0 t)))

          at_least_by : (length zs < length xs → ⊥) → length zs ≡ length (dedup E ys) → length ys ≤ length (dedup E ys)
          at_least_by h f = elim (cases_lt (length zs) (length xs)) [ inl k ↦ absurd (h k) | inr k ↦ omega (arith, k, f, size) ]

-- ---- tags

pub tag_total : IsTotalOrder tag_cmp
tag_total = then_total (on_total (λ (t : Tag). class_number t.tag_class) nat_cmp_total) (on_total (λ (t : Tag). t.tag_number) nat_cmp_total)

class_same : (b d : TagClass) → class_number b ≡ class_number d → b ≡ d
class_same Universal Universal e = refl
class_same Universal Application e = absurd (omega (arith, e))
class_same Universal ContextSpecific e = absurd (omega (arith, e))
class_same Universal Private e = absurd (omega (arith, e))
class_same Application Universal e = absurd (omega (arith, e))
class_same Application Application e = refl
class_same Application ContextSpecific e = absurd (omega (arith, e))
class_same Application Private e = absurd (omega (arith, e))
class_same ContextSpecific Universal e = absurd (omega (arith, e))
class_same ContextSpecific Application e = absurd (omega (arith, e))
class_same ContextSpecific ContextSpecific e = refl
class_same ContextSpecific Private e = absurd (omega (arith, e))
class_same Private Universal e = absurd (omega (arith, e))
class_same Private Application e = absurd (omega (arith, e))
class_same Private ContextSpecific e = absurd (omega (arith, e))
class_same Private Private e = refl

both_so : (a b : Bool) → (a && b) ≡ true → (a ≡ true) × (b ≡ true)
both_so true b e = (refl, e)
both_so false b e = absurd (cc)

number_same : (m n : ℕ) → is_eq (nat_cmp m n) ≡ true → m ≡ n
number_same m n e = eqb-true m n (unsigned_ties m n ∙ e)

tag_same : (t u : Tag) → eq_by_cmp tag_cmp t u ≡ true → t ≡ u
tag_same t u e =
    let first = nat_cmp (class_number t.tag_class) (class_number u.tag_class) in
    let second = nat_cmp t.tag_number u.tag_number in
    let x = both_so (is_eq first) (is_eq second) (tied_then first second ∙ e) in
    let c = class_same t.tag_class u.tag_class (number_same _ _ x.0) in
    let n = number_same _ _ x.1 in
    λ i. record { tag_class = c i; tag_number = n i }

pub tag_decides : (t u : Tag) → Decides (eq_by_cmp tag_cmp t u) (t ≡ u)
tag_decides t u = (tag_same t u, λ e. ap (λ z. eq_by_cmp tag_cmp t z) (sym e) ∙ ap is_eq (tied_itself tag_total t))

-- the same where an equality and an order are that of tags
pub fewer_where_tags : {R : Tag → Tag → Ordering} {E : Tag → Tag → Bool} → ((t u : Tag) → R t u ≡ tag_cmp t u) → ((t u : Tag) → Decides (E t u) (t ≡ u)) →
    (xs ys zs : List Tag) → IsPermutation xs ys → length ys ≡ length xs → IsSorted R ys → IsFiltered (DiffersFromLast E) [] ys zs → (said : Bool) →
    IsTrue said ↔ (length zs < length xs) → IsTrue said ↔ (AllPairs (λ t u. t ≢ u) xs → ⊥)
fewer_where_tags {R = R} {E = E} orders same xs ys zs shifted size sorted filtered said x =
    let order : R ≡ tag_cmp = λ i t u. orders t u i in
    let ties : (t u : Tag) → E t u ≡ eq_by_cmp tag_cmp t u = λ t u. one_answer (E t u) (eq_by_cmp tag_cmp t u) (same t u) (tag_decides t u) in
    fewer_where_equal tag_total ties same xs ys zs shifted size (subst (λ r. IsSorted r ys) order sorted) filtered said x
