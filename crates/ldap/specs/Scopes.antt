-- The numbers of scopes (RFC 4511, 4.5.1.2).
use Rattle.std.proofs.Common.{◌≡◌, ℤ, true, pos, FitsSigned}
use Rattle.std.specs.Prelude.{◌↔◌}
use Rattle.std.specs.Int.{w64}
use Rattle.yasna_notation.specs.Bounded.{from_zero}
use Rattle.ldap.specs.declared.scope.Scope.{Scope}
use Rattle.ldap.specs.declared.scope.Scope.TheVariants.{BaseObject, SingleLevel, WholeSubtree, Other}

-- the number of each; one that the module doesn't name holds its number
abbrev pub scope_number : Scope → ℤ
scope_number BaseObject = pos 0
scope_number SingleLevel = pos 1
scope_number WholeSubtree = pos 2
scope_number (Other n) = n

-- no number is negative
abbrev pub scope_allowed : Scope → Type 0
scope_allowed v = FitsSigned w64 (scope_number v) × (from_zero (scope_number v) ≡ true)

pub scope_writable : (v : Scope) → scope_allowed v ↔ (FitsSigned w64 (scope_number v) × (from_zero (scope_number v) ≡ true))
scope_writable v = (λ x. x, λ x. x)
