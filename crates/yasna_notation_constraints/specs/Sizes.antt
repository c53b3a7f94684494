-- Sizes of values and the sizes that a constraint allows (X.680, 51.5).
use Rattle.std.proofs.Common.{◌≡◌, ◌∷◌, [], ℕ, List, Bool, not, length, suc, refl, sym, ap, ◌∙◌}
use Rattle.std.specs.Prelude.{nat_lt}
use Rattle.std.proofs.lemmas.List.Sorted.{length_permutation}
use Rattle.yasna_base.specs.AnyOrder.{SameSetOf}
use Rattle.yasna_base.specs.Bits.{BitString}
use Rattle.yasna_base.specs.Pieces.{Each}

-- the numbers from low on
abbrev pub from_on : ℕ → ℕ → Bool
from_on low n = not (nat_lt n low)

-- lists whose items are equal one by one have one size
pub list_sizes : {A : Type 0} (E : A → A → Type 0) (vs ws : List A) → Each E vs ws → length vs ≡ length ws
list_sizes E [] [] e = refl
list_sizes E [] (w ∷ ws) e = absurd e
list_sizes E (v ∷ vs) [] e = absurd e
list_sizes E (v ∷ vs) (w ∷ ws) e = ap suc (list_sizes E vs ws e.1)

-- so have lists whose items are equal in some order
pub set_sizes : {A : Type 0} (E : A → A → Type 0) (vs ws : List A) → SameSetOf E vs ws → length vs ≡ length ws
set_sizes E vs ws e = sym (length_permutation vs e.items e.permuted) ∙ list_sizes E e.items ws e.each

-- equal bit strings have one count of bits
pub bit_sizes : (v w : BitString) → v ≡ w → v.count ≡ w.count
bit_sizes v w e = ap (λ (b : BitString). b.count) e
