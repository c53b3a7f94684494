-- The numbers of the enums that are examples of ENUMERATED.
use Rattle.std.proofs.Common.{◌≡◌, ◌∷◌, [], ℤ, List, Bool, true, pos, refl, FitsSigned, arith}
use Rattle.std.specs.Prelude.{◌↔◌}
use Rattle.std.specs.Int.{w64}
use Rattle.std.specs.List.{list_any}
use Rattle.std.specs.Ordering.{int_eq}
use Rattle.yasna_notation_types.specs.declared.statuses.ResponseStatus.{ResponseStatus}
use Rattle.yasna_notation_types.specs.declared.statuses.ResponseStatus.TheVariants.{Successful, MalformedRequest, TryLater, SigRequired}
use Rattle.yasna_notation_types.specs.declared.statuses.ResultCode.{ResultCode}
use Rattle.yasna_notation_types.specs.declared.statuses.ResultCode.TheVariants.{Success, Busy, Other}

-- z is one of these numbers
abbrev pub is_one_of : List ℤ → ℤ → Bool
is_one_of ns z = list_any (int_eq z) ns

-- the number of each
abbrev pub response_number : ResponseStatus → ℤ
response_number Successful = pos 0
response_number MalformedRequest = pos 1
response_number TryLater = pos 3
response_number SigRequired = pos 5

abbrev pub is_status : ℤ → Bool
is_status = is_one_of (pos 0 ∷ pos 1 ∷ pos 3 ∷ pos 5 ∷ [])

pub response_writable : (v : ResponseStatus) → Unit {0} ↔ (FitsSigned w64 (response_number v) × (is_status (response_number v) ≡ true))
response_writable Successful = (λ u. (omega arith, refl), λ x. tt)
response_writable MalformedRequest = (λ u. (omega arith, refl), λ x. tt)
response_writable TryLater = (λ u. (omega arith, refl), λ x. tt)
response_writable SigRequired = (λ u. (omega arith, refl), λ x. tt)

-- the number of each; a value that the module doesn't name holds its number
abbrev pub result_number : ResultCode → ℤ
result_number Success = pos 0
result_number Busy = pos 51
result_number (Other n) = n

-- each number is that of a value
abbrev pub any_code : ℤ → Bool
any_code z = true

abbrev pub result_allowed : ResultCode → Type 0
result_allowed v = FitsSigned w64 (result_number v)

pub result_writable : (v : ResultCode) → result_allowed v ↔ (FitsSigned w64 (result_number v) × (any_code (result_number v) ≡ true))
result_writable v = (λ f. (f, refl), λ x. x.0)
