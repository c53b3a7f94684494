-- The laws of reading of sets, and the order of their parts.
use Rattle.std.proofs.Common.{◌≡◌, ℕ, List, refl, ap, ap₂, sym, ◌∙◌, true, false}
use Rattle.std.specs.List.Sorted.{ties}
use Rattle.std.specs.Ordering.{is_lt, is_eq, ordering_reverse}
use Rattle.std.specs.declared.cmp.Ordering.{Ordering}
use Rattle.std.specs.declared.cmp.Ordering.TheVariants.{Less, Equal, Greater}
use Rattle.std.proofs.lemmas.Cmp.{nat_list_cmp_total}
use Rattle.std.proofs.lemmas.List.Sorted.{ranks_by}
use Rattle.std.proofs.lemmas.Map.Text.{is_eq-slice_cmp}
use Rattle.std.proofs.lemmas.Slice.Eq.{bytes_eq-Decides}
use Rattle.yasna_base.specs.declared.tag.Tag.{Tag}
use Rattle.yasna_base.specs.Coding.{IsCoding, IsContentsCoding, Any}
use Rattle.yasna_base.specs.Grammar.{Grammar, Members}
use Rattle.yasna_base.specs.Identifier.{end_tag, class_number}
use Rattle.yasna_base.specs.Order.{octets_cmp}
use Rattle.yasna_base.specs.Pieces.{Each}
use Rattle.yasna_base.specs.Set.{SetOfElements, AnySetOfElements, IsSetOf, AnySetOf, SetElements, SetPart, part_key, part_cmp}
use Rattle.yasna_base.specs.SetLaws.{SetKeepsReadingLaws, SetOfOrderIsOne, SetOrderIsOne}
use Rattle.yasna_base.proofs.Coding.{equal_same, enclosed}
use Rattle.yasna_base.proofs.Identifier.{class_same}
use Rattle.yasna_base.proofs.Order.{both_false, in_order_permuted}
use Rattle.yasna_base.proofs.Pieces.{each_equal, each_wider}
use Rattle.yasna_base.proofs.Raw.{raw_coding}
use Rattle.yasna_base.proofs.SequenceOf.{each_any, elements_contents}

-- the elements of a SET OF satisfy the laws of contents
pub set_of_elements : {A : Type 0} {E : A → A → Type 0} {B : Grammar A} {S : Members} → IsCoding E B S →
    IsContentsCoding (λ vs ws. Each E vs ws) (SetOfElements B) (AnySetOfElements S)
set_of_elements {A} {E} {B} {S} x =
    let all = elements_contents x in
    record {
      meaning = record {
        equal = all.meaning.equal;
        among = λ m n vs c p.
            let r = each_any (x.meaning.among m n) vs p.elements.pieces p.elements.each in
            (r.0, record { elements = record { pieces = p.elements.pieces; each = r.1; joined = p.elements.joined }; order = p.order });
        exact = λ m n k vs ws c p q. all.meaning.exact m n k vs ws c p.elements q.elements;
        deeper = λ m n k vs c below p. record {
          elements = record {
            pieces = p.elements.pieces;
            each = each_wider (λ v b h. x.meaning.deeper m n k v b below h) vs p.elements.pieces p.elements.each;
            joined = p.elements.joined;
          };
          order = p.order;
        };
      };
      ends = λ m n k b c r s i j p q e. all.ends m n k b c r s i j (p.0, p.1.elements) (q.0, q.1.elements) e;
    }

-- a SET OF satisfies the laws of reading
pub set_of : {A : Type 0} {E : A → A → Type 0} {B : Grammar A} {S : Members} (t : Tag) → (t ≡ end_tag → ⊥) →
    IsCoding E B S → IsCoding (λ vs ws. Each E vs ws) (IsSetOf B t) (AnySetOf S t)
set_of t not_end x = enclosed t not_end (set_of_elements x)

set_elements : IsContentsCoding (λ vs ws. vs ≡ ws) SetElements (Any SetElements)
set_elements =
    let all = elements_contents raw_coding in
    record {
      meaning = record {
        equal = equal_same;
        among = λ m n vs c p. (vs, p);
        exact = λ m n k vs ws c p q. each_equal vs ws (all.meaning.exact m n k vs ws c p.elements q.elements);
        deeper = λ m n k vs c below p. record { elements = all.meaning.deeper m n k vs c below p.elements; order = p.order };
      };
      ends = λ m n k b c r s i j p q e.
          all.ends m n k b c r s i j (all.meaning.among m n p.0 b p.1.elements) (all.meaning.among m k q.0 c q.1.elements) e;
    }

-- a SET satisfies the laws of reading
pub set_coding : SetKeepsReadingLaws
set_coding = λ t not_end range. enclosed t not_end set_elements

level : (a : Ordering) → is_lt a ≡ false → is_lt (ordering_reverse a) ≡ false → is_eq a ≡ true
level Less e f = absurd (cc)
level Equal e f = refl
level Greater e f = absurd (cc)

-- bytes that tie are equal
pub octets_tie : (b c : List ℕ) → ties (λ x y. is_lt (octets_cmp x y)) b c ≡ true → b ≡ c
octets_tie b c e =
    let h = both_false (is_lt (octets_cmp b c)) (is_lt (octets_cmp c b)) e in
    let back = sym (ap is_lt (nat_list_cmp_total.antisymm c b)) ∙ h.1 in
    (bytes_eq-Decides b c).0 (sym (is_eq-slice_cmp b c) ∙ level (octets_cmp b c) h.0 back)

pub set_of_order_one : SetOfOrderIsOne
set_of_order_one = λ ps qs p.
    in_order_permuted octets_cmp (ranks_by nat_list_cmp_total (λ (b : List ℕ). b)) ps qs p (λ x y a b e. octets_tie x y e)

-- parts that go by one key have one tag
pub tag_of_key : (p q : SetPart) → part_key p ≡ part_key q → p.tag ≡ q.tag
tag_of_key p q e =
    let c : class_number p.tag.tag_class ≡ class_number q.tag.tag_class = cc in
    let n : p.tag.tag_number ≡ q.tag.tag_number = cc in
    ap₂ (λ d k. record { tag_class = d; tag_number = k }) (class_same p.tag.tag_class q.tag.tag_class c) n

pub set_order_one : SetOrderIsOne
set_order_one = λ ps qs p one.
    in_order_permuted part_cmp (ranks_by nat_list_cmp_total part_key) ps qs p
    (λ x y a b e. one x y a b (tag_of_key x y (octets_tie (part_key x) (part_key y) e)))
