-- Defaults of types whose values are equal only if they are the same.
use Rattle.std.proofs.Common.{◌≡◌, ℤ, Bool, true, false, ◌↔◌, refl}
use Rattle.std.proofs.lemmas.Bool.Decides.{Decides-int_eq}
use Rattle.std.specs.Bool.{beq}
use Rattle.std.specs.Ordering.{int_eq}
use Rattle.yasna_base.specs.Default.{DetectsDefault}

-- values are equal only if they are the same
abbrev pub IsPlain : {A : Type 0} → (A → A → Type 0) → Type 0
IsPlain {A} E = (v w : A) → E v w ↔ (v ≡ w)

-- a test for a value detects it, where equal values are the same
pub plainly : {A : Type 0} {E : A → A → Type 0} → IsPlain E → (is : A → Bool) (d : A) → DetectsDefault (λ v w. v ≡ w) is d → DetectsDefault E is d
plainly plain is d detects v = (λ e. (plain v d).1 ((detects v).0 e), λ e. (detects v).1 ((plain v d).0 e))

-- the defaults TRUE and z
pub detects_true : DetectsDefault (λ v w. v ≡ w) (λ v. v) true
detects_true v = (λ e. e, λ e. e)

pub tests_true : (v : Bool) → v ≡ beq v true
tests_true true = refl
tests_true false = refl

pub detects_integer : (z : ℤ) → DetectsDefault (λ v w. v ≡ w) (λ v. int_eq v z) z
detects_integer z v = Decides-int_eq v z
