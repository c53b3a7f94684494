-- The numbers of errors of SNMPv1 (RFC 1157, 4.1.1).
use Rattle.std.proofs.Common.{ℤ, pos}
use Rattle.snmp.specs.declared.v1.error_status.ErrorStatus.{ErrorStatus}
use Rattle.snmp.specs.declared.v1.error_status.ErrorStatus.TheVariants.{NoError, TooBig, NoSuchName, BadValue, ReadOnly, GenErr, Other}

-- the number of each; one without a name holds its number
abbrev pub error_number : ErrorStatus → ℤ
error_number NoError = pos 0
error_number TooBig = pos 1
error_number NoSuchName = pos 2
error_number BadValue = pos 3
error_number ReadOnly = pos 4
error_number GenErr = pos 5
error_number (Other n) = n
