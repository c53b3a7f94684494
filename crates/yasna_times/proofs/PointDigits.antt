-- The point of a fraction and its digits, before others.
use Rattle.std.proofs.Common.{◌≡◌, ◌<◌, ◌==◌, ℕ, false, List, [], ◌∷◌, ◌++◌, length, append_assoc, arith, refl, sym, ap, ◌∙◌}
use Rattle.yasna_times.specs.GeneralizedTime.{point_digits}
use Rattle.yasna_base.proofs.Lists.{append_same}

pub length_positive : (l : List ℕ) → false ≡ (length l == 0) → 0 < length l
length_positive [] e = absurd cc
length_positive (c ∷ l) e = omega arith

pub point_before : (a b : List ℕ) → 0 < length a → point_digits (a ++ b) ≡ 46 ∷ (a ++ b)
point_before [] b h = absurd (omega arith)
point_before (c ∷ a) b h = refl

-- the bytes after the point
pub digits_after : (s d a b r : List ℕ) → 0 < length a → s ≡ 46 ∷ d → s ≡ point_digits (a ++ b) ++ r → d ≡ a ++ (b ++ r)
digits_after s d a b r h e f =
    append_same (46 ∷ []) d ((a ++ b) ++ r) (sym e ∙ f ∙ ap (λ x. x ++ r) (point_before a b h)) ∙ append_assoc a b r
