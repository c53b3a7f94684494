-- The numbers of `CRLReason`.
use Rattle.std.proofs.Common.{◌≡◌, ◌∷◌, [], ℤ, List, Bool, true, pos, negsuc, refl, FitsSigned, arith}
use Rattle.std.specs.Prelude.{◌↔◌}
use Rattle.std.specs.Int.{w64}
use Rattle.std.specs.List.{list_any}
use Rattle.std.specs.Ordering.{int_eq}
use Rattle.std.proofs.lemmas.Bool.Decides.{Decides-int_eq}
use Rattle.yasna_base.specs.Default.{DetectsDefault}
use Rattle.pkix_implicit.specs.declared.crl_reason.CrlReason.{CrlReason}
use Rattle.pkix_implicit.specs.declared.crl_reason.CrlReason.TheVariants.{Unspecified, KeyCompromise, CaCompromise, AffiliationChanged, Superseded, CessationOfOperation, CertificateHold, RemoveFromCrl, PrivilegeWithdrawn, AaCompromise}

-- the number of each
abbrev pub crl_reason_number : CrlReason → ℤ
crl_reason_number Unspecified = (pos 0)
crl_reason_number KeyCompromise = (pos 1)
crl_reason_number CaCompromise = (pos 2)
crl_reason_number AffiliationChanged = (pos 3)
crl_reason_number Superseded = (pos 4)
crl_reason_number CessationOfOperation = (pos 5)
crl_reason_number CertificateHold = (pos 6)
crl_reason_number RemoveFromCrl = (pos 8)
crl_reason_number PrivilegeWithdrawn = (pos 9)
crl_reason_number AaCompromise = (pos 10)

-- it is one of these numbers
abbrev pub crl_reason_named : ℤ → Bool
crl_reason_named z = list_any (int_eq z) ((pos 0) ∷ (pos 1) ∷ (pos 2) ∷ (pos 3) ∷ (pos 4) ∷ (pos 5) ∷ (pos 6) ∷ (pos 8) ∷ (pos 9) ∷ (pos 10) ∷ [])

-- each value can be written
abbrev pub crl_reason_allowed : CrlReason → Type 0
crl_reason_allowed v = Unit {0}

pub crl_reason_writable : (v : CrlReason) → crl_reason_allowed v ↔ (FitsSigned w64 (crl_reason_number v) × (crl_reason_named (crl_reason_number v) ≡ true))
crl_reason_writable Unspecified = (λ u. (omega arith, refl), λ x. tt)
crl_reason_writable KeyCompromise = (λ u. (omega arith, refl), λ x. tt)
crl_reason_writable CaCompromise = (λ u. (omega arith, refl), λ x. tt)
crl_reason_writable AffiliationChanged = (λ u. (omega arith, refl), λ x. tt)
crl_reason_writable Superseded = (λ u. (omega arith, refl), λ x. tt)
crl_reason_writable CessationOfOperation = (λ u. (omega arith, refl), λ x. tt)
crl_reason_writable CertificateHold = (λ u. (omega arith, refl), λ x. tt)
crl_reason_writable RemoveFromCrl = (λ u. (omega arith, refl), λ x. tt)
crl_reason_writable PrivilegeWithdrawn = (λ u. (omega arith, refl), λ x. tt)
crl_reason_writable AaCompromise = (λ u. (omega arith, refl), λ x. tt)

-- values with the number of a value are equal to it
pub crl_reason_detects : (d : CrlReason) → DetectsDefault (λ v w. crl_reason_number v ≡ crl_reason_number w) (λ v. int_eq (crl_reason_number v) (crl_reason_number d)) d
crl_reason_detects d v = Decides-int_eq (crl_reason_number v) (crl_reason_number d)
