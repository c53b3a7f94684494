-- The default of a list that is empty (X.680, 25.9).
use Rattle.std.proofs.Common.{◌≡◌, ◌∷◌, [], Bool, true, false, List, length, refl, ap, arith}
use Rattle.std.proofs.lemmas.List.Sorted.{IsPermutation-refl, length_permutation}
use Rattle.yasna_base.specs.AnyOrder.{SameSetOf}
use Rattle.yasna_base.specs.Pieces.{Each}
use Rattle.yasna_notation_constraints.specs.TestedDefaults.{IsOneValue, one_represented}

-- whether a list has no items
abbrev pub is_empty_list : {A : Type 0} → List A → Bool
is_empty_list [] = true
is_empty_list (x ∷ xs) = false

-- the lists that are empty are equal item by item
empty_each : {A : Type 0} (E : A → A → Type 0) → IsOneValue (Each E) is_empty_list
empty_each E [] e [] = (λ f. tt, λ f. refl)
empty_each E [] e (w ∷ ws) = (λ f. absurd (cc), λ f. absurd f)
empty_each E (v ∷ vs) e ws = absurd (cc)

-- the values of a SEQUENCE OF whose lists are empty are one value
pub one_empty_sequence : {U A : Type 0} (E : A → A → Type 0) (items : U → List A) →
    IsOneValue (λ v w. Each E (items v) (items w)) (λ v. is_empty_list (items v))
one_empty_sequence E items = one_represented items (empty_each E)

same_empty : {A : Type 0} (E : A → A → Type 0) → SameSetOf E [] []
same_empty E = record { items = []; permuted = IsPermutation-refl []; each = tt }

-- what is equal to no items, item by item, is none
no_items : {A : Type 0} (E : A → A → Type 0) (us : List A) → Each E us [] → us ≡ []
no_items E [] same = refl
no_items E (u ∷ us) same = absurd same

-- the lists that are empty are equal in any order
empty_set : {A : Type 0} (E : A → A → Type 0) → IsOneValue (SameSetOf E) is_empty_list
empty_set E [] e [] = (λ f. same_empty E, λ f. refl)
empty_set E [] e (w ∷ ws) = (
  λ f. absurd (cc),
  λ f. absurd (omega (arith, length_permutation (w ∷ ws) f.items f.permuted, ap length (no_items E f.items f.each))),
)
empty_set E (v ∷ vs) e ws = absurd (cc)

-- so are those of a SET OF
pub one_empty_set : {U A : Type 0} (E : A → A → Type 0) (items : U → List A) →
    IsOneValue (λ v w. SameSetOf E (items v) (items w)) (λ v. is_empty_list (items v))
one_empty_set E items = one_represented items (empty_set E)
