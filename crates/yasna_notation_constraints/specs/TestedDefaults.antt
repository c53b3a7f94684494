-- Defaults that are known by a test: the values that pass it are one value.
use Rattle.std.proofs.Common.{◌≡◌, ◌↔◌, ℕ, List, Bool, true, false, Option, Some, None, refl, sym, ap₂, subst, ◌∙◌}
use Rattle.std.proofs.lemmas.Bool.{and_parts, eq-eqb, eqb-true}
use Rattle.std.proofs.lemmas.Slice.Eq.{bytes_eq-Decides}
use Rattle.std.specs.Cmp.Derive.{both_true}
use Rattle.std.specs.Prelude.{◌&&◌, nat_eq}
use Rattle.std.specs.Str.{bytes_eq}
use Rattle.yasna_base.specs.declared.tag.PCBit.{PCBit}
use Rattle.yasna_base.specs.declared.tag.PCBit.TheVariants.{Primitive, Constructed}
use Rattle.yasna_base.specs.declared.tag.Tag.{Tag}
use Rattle.yasna_base.specs.Beginnings.{is_tag}
use Rattle.yasna_base.specs.Coding.{IsSame}
use Rattle.yasna_base.specs.Default.{DetectsDefault}
use Rattle.yasna_base.specs.Identifier.{class_number}
use Rattle.yasna_base.specs.Optional.{SameOption}
use Rattle.yasna_base.specs.Raw.{RawValue}
use Rattle.yasna_base.specs.Sequence.{SamePart, SameNothing}
use Rattle.yasna_base.proofs.Identifier.{class_same}

-- the values that pass a test are equal, and what equals one of them passes too
abbrev pub IsOneValue : {A : Type 0} → (A → A → Type 0) → (A → Bool) → Type 0
IsOneValue {A} E is = (v : A) → is v ≡ true → DetectsDefault E is v

pub true_not_false : (b : Bool) → b ≡ true → b ≡ false → ⊥
true_not_false b e f = absurd (cc)

-- equal values pass such a test alike
pub one_alike : {A : Type 0} {E : A → A → Type 0} (is : A → Bool) → IsOneValue E is → IsSame E → (v w : A) → E v w → is v ≡ is w
one_alike {A} {E} is one equal v w same = by_tests (is v) (is w) refl refl
  where
    by_tests : (a b : Bool) → is v ≡ a → is w ≡ b → is v ≡ is w
    by_tests true b e f = e ∙ sym ((one v e w).1 (equal.symmetric v w same))
    by_tests false true e f = absurd (true_not_false (is v) ((one w f v).1 same) e)
    by_tests false false e f = e ∙ sym f

-- lists of numbers that are k
pub one_list : (k : List ℕ) → IsOneValue (λ v w. v ≡ w) (λ v. bytes_eq v k)
one_list k v e w =
    let is = (bytes_eq-Decides v k).0 e in
    (λ f. (bytes_eq-Decides w k).0 f ∙ sym is, λ f. (bytes_eq-Decides w k).1 (f ∙ is))

-- values of which something is seen by which they are equal
pub one_seen : {A B : Type 0} {E : A → A → Type 0} (view : A → B) → ((v w : A) → E v w ↔ (view v ≡ view w)) → (is : B → Bool) →
    IsOneValue (λ v w. v ≡ w) is → IsOneValue E (λ v. is (view v))
one_seen view seen is one v e w =
    let x = one (view v) e (view w) in
    (λ f. (seen w v).1 (x.0 f), λ f. x.1 ((seen w v).0 f))

-- values that represent others
pub one_represented : {U A : Type 0} {E : A → A → Type 0} {is : A → Bool} (f : U → A) → IsOneValue E is →
    IsOneValue (λ v w. E (f v) (f w)) (λ v. is (f v))
one_represented f one v e w = one (f v) e (f w)

-- a part, and those after it
pub one_part : {A V : Type 0} {E : A → A → Type 0} {F : V → V → Type 0} {is : A → Bool} {others : V → Bool} → IsOneValue E is → IsOneValue F others →
    IsOneValue (SamePart E F) (λ v. is v.0 && others v.1)
one_part {is = is} {others = others} one more v e w =
    let p = and_parts (is v.0) (others v.1) e in (
      λ f. let q = and_parts (is w.0) (others w.1) f in ((one v.0 p.0 w.0).0 q.0, (more v.1 p.1 w.1).0 q.1),
      λ f. both_true ((one v.0 p.0 w.0).1 f.0) ((more v.1 p.1 w.1).1 f.1),
    )

-- a part at the end
pub one_last : {A : Type 0} {E : A → A → Type 0} {is : A → Bool} → IsOneValue E is → IsOneValue (λ v w. SamePart E SameNothing (v, tt) (w, tt)) is
one_last one v e w = (λ f. ((one v e w).0 f, tt), λ f. (one v e w).1 f.0)

-- no parts
pub one_nothing : IsOneValue SameNothing (λ v. true)
one_nothing v e w = (λ f. tt, λ f. refl)

-- the test of a part that may be omitted: it is there, and passes
abbrev pub some_passes : {A : Type 0} → (A → Bool) → Option A → Bool
some_passes is (Some v) = is v
some_passes is None = false

pub one_some : {A : Type 0} {E : A → A → Type 0} {is : A → Bool} → IsOneValue E is → IsOneValue (SameOption E) (some_passes is)
one_some one (Some v) e (Some w) = one v e w
one_some one (Some v) e None = (λ f. absurd (cc), λ f. absurd f)
one_some one None e w = absurd (cc)

-- the test for a part that is omitted
abbrev pub none_passes : {A : Type 0} → Option A → Bool
none_passes (Some v) = false
none_passes None = true

pub one_none : {A : Type 0} (E : A → A → Type 0) → IsOneValue (SameOption E) none_passes
one_none E (Some v) e w = absurd (cc)
one_none E None e (Some w) = (λ f. absurd (cc), λ f. absurd f)
one_none E None e None = (λ f. tt, λ f. refl)

-- the test for one of the two bits
abbrev pub is_bit : PCBit → PCBit → Bool
is_bit Primitive Primitive = true
is_bit Primitive Constructed = false
is_bit Constructed Primitive = false
is_bit Constructed Constructed = true

-- the test for an element
abbrev pub is_element : RawValue → RawValue → Bool
is_element e v = is_tag v.tag e.tag && (is_bit v.bit e.bit && bytes_eq v.payload e.payload)

bit_same : (b c : PCBit) → is_bit b c ≡ true → b ≡ c
bit_same Primitive Primitive e = refl
bit_same Primitive Constructed e = absurd (cc)
bit_same Constructed Primitive e = absurd (cc)
bit_same Constructed Constructed e = refl

bit_itself : (b : PCBit) → is_bit b b ≡ true
bit_itself Primitive = refl
bit_itself Constructed = refl

tag_same : (t u : Tag) → is_tag t u ≡ true → t ≡ u
tag_same t u e =
    let p = and_parts (nat_eq (class_number t.tag_class) (class_number u.tag_class)) (nat_eq t.tag_number u.tag_number) e in
    ap₂ (λ c n. record { tag_class = c; tag_number = n }) (class_same t.tag_class u.tag_class (eqb-true _ _ p.0)) (eqb-true t.tag_number u.tag_number p.1)

tag_itself : (t : Tag) → is_tag t t ≡ true
tag_itself t = both_true (eq-eqb (class_number t.tag_class) (class_number t.tag_class) refl) (eq-eqb t.tag_number t.tag_number refl)

element_itself : (v : RawValue) → is_element v v ≡ true
element_itself v = both_true (tag_itself v.tag) (both_true (bit_itself v.bit) ((bytes_eq-Decides v.payload v.payload).1 refl))

element_same : (e v : RawValue) → is_element e v ≡ true → v ≡ e
element_same e v is =
    let p = and_parts (is_tag v.tag e.tag) (is_bit v.bit e.bit && bytes_eq v.payload e.payload) is in
    let q = and_parts (is_bit v.bit e.bit) (bytes_eq v.payload e.payload) p.1 in
    let bit = bit_same v.bit e.bit q.0 in
    let payload = (bytes_eq-Decides v.payload e.payload).0 q.1 in
    ap₂ (λ (t : Tag) (r : RawValue). record r { tag = t }) (tag_same v.tag e.tag p.0)
    (ap₂ (λ b c. record { tag = v.tag; bit = b; payload = c }) bit payload)

-- an element that is e
pub one_element : (e : RawValue) → IsOneValue (λ v w. v ≡ w) (is_element e)
one_element e v is w = (
  λ f. element_same e w f ∙ sym (element_same e v is),
  λ f. subst (λ u. is_element e u ≡ true) (sym f) is,
)
