-- The numbers of results (RFC 4511, 4.1.9).
use Rattle.std.proofs.Common.{◌≡◌, ℤ, true, pos, FitsSigned}
use Rattle.std.specs.Prelude.{◌↔◌}
use Rattle.std.specs.Int.{w64}
use Rattle.yasna_notation.specs.Bounded.{from_zero}
use Rattle.ldap.specs.declared.result_code.ResultCode.{ResultCode}
use Rattle.ldap.specs.declared.result_code.ResultCode.TheVariants.{Success, OperationsError, ProtocolError, TimeLimitExceeded, SizeLimitExceeded}
use Rattle.ldap.specs.declared.result_code.ResultCode.TheVariants.{CompareFalse, CompareTrue, AuthMethodNotSupported, StrongerAuthRequired, Referral}
use Rattle.ldap.specs.declared.result_code.ResultCode.TheVariants.{AdminLimitExceeded, UnavailableCriticalExtension, ConfidentialityRequired}
use Rattle.ldap.specs.declared.result_code.ResultCode.TheVariants.{SaslBindInProgress, NoSuchAttribute, UndefinedAttributeType, InappropriateMatching}
use Rattle.ldap.specs.declared.result_code.ResultCode.TheVariants.{ConstraintViolation, AttributeOrValueExists, InvalidAttributeSyntax, NoSuchObject}
use Rattle.ldap.specs.declared.result_code.ResultCode.TheVariants.{AliasProblem, InvalidDnSyntax, AliasDereferencingProblem}
use Rattle.ldap.specs.declared.result_code.ResultCode.TheVariants.{InappropriateAuthentication, InvalidCredentials, InsufficientAccessRights, Busy}
use Rattle.ldap.specs.declared.result_code.ResultCode.TheVariants.{Unavailable, UnwillingToPerform, LoopDetect, NamingViolation, ObjectClassViolation}
use Rattle.ldap.specs.declared.result_code.ResultCode.TheVariants.{NotAllowedOnNonLeaf, NotAllowedOnRdn, EntryAlreadyExists, ObjectClassModsProhibited}
use Rattle.ldap.specs.declared.result_code.ResultCode.TheVariants.{AffectsMultipleDsas, OtherError, Other}

-- the number of each; one that the module doesn't name holds its number
abbrev pub code_number : ResultCode → ℤ
code_number Success = pos 0
code_number OperationsError = pos 1
code_number ProtocolError = pos 2
code_number TimeLimitExceeded = pos 3
code_number SizeLimitExceeded = pos 4
code_number CompareFalse = pos 5
code_number CompareTrue = pos 6
code_number AuthMethodNotSupported = pos 7
code_number StrongerAuthRequired = pos 8
code_number Referral = pos 10
code_number AdminLimitExceeded = pos 11
code_number UnavailableCriticalExtension = pos 12
code_number ConfidentialityRequired = pos 13
code_number SaslBindInProgress = pos 14
code_number NoSuchAttribute = pos 16
code_number UndefinedAttributeType = pos 17
code_number InappropriateMatching = pos 18
code_number ConstraintViolation = pos 19
code_number AttributeOrValueExists = pos 20
code_number InvalidAttributeSyntax = pos 21
code_number NoSuchObject = pos 32
code_number AliasProblem = pos 33
code_number InvalidDnSyntax = pos 34
code_number AliasDereferencingProblem = pos 36
code_number InappropriateAuthentication = pos 48
code_number InvalidCredentials = pos 49
code_number InsufficientAccessRights = pos 50
code_number Busy = pos 51
code_number Unavailable = pos 52
code_number UnwillingToPerform = pos 53
code_number LoopDetect = pos 54
code_number NamingViolation = pos 64
code_number ObjectClassViolation = pos 65
code_number NotAllowedOnNonLeaf = pos 66
code_number NotAllowedOnRdn = pos 67
code_number EntryAlreadyExists = pos 68
code_number ObjectClassModsProhibited = pos 69
code_number AffectsMultipleDsas = pos 71
code_number OtherError = pos 80
code_number (Other n) = n

-- no number is negative
abbrev pub code_allowed : ResultCode → Type 0
code_allowed v = FitsSigned w64 (code_number v) × (from_zero (code_number v) ≡ true)

pub code_writable : (v : ResultCode) → code_allowed v ↔ (FitsSigned w64 (code_number v) × (from_zero (code_number v) ≡ true))
code_writable v = (λ x. x, λ x. x)
