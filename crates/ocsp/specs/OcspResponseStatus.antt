-- The numbers of `OCSPResponseStatus`.
use Rattle.std.proofs.Common.{◌≡◌, ◌∷◌, [], ℤ, List, Bool, true, pos, negsuc, refl, FitsSigned, arith}
use Rattle.std.specs.Prelude.{◌↔◌}
use Rattle.std.specs.Int.{w64}
use Rattle.std.specs.List.{list_any}
use Rattle.std.specs.Ordering.{int_eq}
use Rattle.std.proofs.lemmas.Bool.Decides.{Decides-int_eq}
use Rattle.yasna_base.specs.Default.{DetectsDefault}
use Rattle.ocsp.specs.declared.ocsp_response_status.OcspResponseStatus.{OcspResponseStatus}
use Rattle.ocsp.specs.declared.ocsp_response_status.OcspResponseStatus.TheVariants.{Successful, MalformedRequest, InternalError, TryLater, SigRequired, Unauthorized}

-- the number of each
abbrev pub ocsp_response_status_number : OcspResponseStatus → ℤ
ocsp_response_status_number Successful = (pos 0)
ocsp_response_status_number MalformedRequest = (pos 1)
ocsp_response_status_number InternalError = (pos 2)
ocsp_response_status_number TryLater = (pos 3)
ocsp_response_status_number SigRequired = (pos 5)
ocsp_response_status_number Unauthorized = (pos 6)

-- it is one of these numbers
abbrev pub ocsp_response_status_named : ℤ → Bool
ocsp_response_status_named z = list_any (int_eq z) ((pos 0) ∷ (pos 1) ∷ (pos 2) ∷ (pos 3) ∷ (pos 5) ∷ (pos 6) ∷ [])

-- each value can be written
abbrev pub ocsp_response_status_allowed : OcspResponseStatus → Type 0
ocsp_response_status_allowed v = Unit {0}

pub ocsp_response_status_writable : (v : OcspResponseStatus) → ocsp_response_status_allowed v ↔ (FitsSigned w64 (ocsp_response_status_number v) × (ocsp_response_status_named (ocsp_response_status_number v) ≡ true))
ocsp_response_status_writable Successful = (λ u. (omega arith, refl), λ x. tt)
ocsp_response_status_writable MalformedRequest = (λ u. (omega arith, refl), λ x. tt)
ocsp_response_status_writable InternalError = (λ u. (omega arith, refl), λ x. tt)
ocsp_response_status_writable TryLater = (λ u. (omega arith, refl), λ x. tt)
ocsp_response_status_writable SigRequired = (λ u. (omega arith, refl), λ x. tt)
ocsp_response_status_writable Unauthorized = (λ u. (omega arith, refl), λ x. tt)

-- values with the number of a value are equal to it
pub ocsp_response_status_detects : (d : OcspResponseStatus) → DetectsDefault (λ v w. ocsp_response_status_number v ≡ ocsp_response_status_number w) (λ v. int_eq (ocsp_response_status_number v) (ocsp_response_status_number d)) d
ocsp_response_status_detects d v = Decides-int_eq (ocsp_response_status_number v) (ocsp_response_status_number d)
