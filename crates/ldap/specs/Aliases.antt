-- The numbers of which aliases a search follows (RFC 4511, 4.5.1.3).
use Rattle.std.proofs.Common.{◌≡◌, ℤ, true, pos, FitsSigned}
use Rattle.std.specs.Prelude.{◌↔◌}
use Rattle.std.specs.Int.{w64}
use Rattle.yasna_notation.specs.Bounded.{from_zero}
use Rattle.ldap.specs.declared.deref_aliases.DerefAliases.{DerefAliases}
use Rattle.ldap.specs.declared.deref_aliases.DerefAliases.TheVariants.{NeverDerefAliases, DerefInSearching, DerefFindingBaseObj, DerefAlways, Other}

-- the number of each; one that the module doesn't name holds its number
abbrev pub aliases_number : DerefAliases → ℤ
aliases_number NeverDerefAliases = pos 0
aliases_number DerefInSearching = pos 1
aliases_number DerefFindingBaseObj = pos 2
aliases_number DerefAlways = pos 3
aliases_number (Other n) = n

-- no number is negative
abbrev pub aliases_allowed : DerefAliases → Type 0
aliases_allowed v = FitsSigned w64 (aliases_number v) × (from_zero (aliases_number v) ≡ true)

pub aliases_writable : (v : DerefAliases) → aliases_allowed v ↔ (FitsSigned w64 (aliases_number v) × (from_zero (aliases_number v) ≡ true))
aliases_writable v = (λ x. x, λ x. x)
