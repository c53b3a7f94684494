-- Tests made of two others.
use Rattle.std.proofs.Common.{◌≡◌, Bool, ap₂}
use Rattle.std.specs.Prelude.{◌&&◌, ◌||◌}

-- where each of two tests treats two values alike, so do both together
pub both_alike : {a b c d : Bool} → a ≡ b → c ≡ d → a && c ≡ b && d
both_alike e f = ap₂ (λ x y. x && y) e f

-- and so does one or the other
pub any_alike : {a b c d : Bool} → a ≡ b → c ≡ d → a || c ≡ b || d
any_alike e f = ap₂ (λ x y. x || y) e f
