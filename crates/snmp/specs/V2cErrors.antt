-- The numbers of errors of SNMPv2 (RFC 3416, 3).
use Rattle.std.proofs.Common.{ℤ, pos}
use Rattle.snmp.specs.declared.v2c.error_status.ErrorStatus.{ErrorStatus}
use Rattle.snmp.specs.declared.v2c.error_status.ErrorStatus.TheVariants.{NoError, TooBig, NoSuchName, BadValue, ReadOnly, GenErr, NoAccess, WrongType}
use Rattle.snmp.specs.declared.v2c.error_status.ErrorStatus.TheVariants.{WrongLength, WrongEncoding, WrongValue, NoCreation, InconsistentValue}
use Rattle.snmp.specs.declared.v2c.error_status.ErrorStatus.TheVariants.{ResourceUnavailable, CommitFailed, UndoFailed, AuthorizationError}
use Rattle.snmp.specs.declared.v2c.error_status.ErrorStatus.TheVariants.{NotWritable, InconsistentName, Other}

-- the number of each; one without a name holds its number
abbrev pub status_number : ErrorStatus → ℤ
status_number NoError = pos 0
status_number TooBig = pos 1
status_number NoSuchName = pos 2
status_number BadValue = pos 3
status_number ReadOnly = pos 4
status_number GenErr = pos 5
status_number NoAccess = pos 6
status_number WrongType = pos 7
status_number WrongLength = pos 8
status_number WrongEncoding = pos 9
status_number WrongValue = pos 10
status_number NoCreation = pos 11
status_number InconsistentValue = pos 12
status_number ResourceUnavailable = pos 13
status_number CommitFailed = pos 14
status_number UndoFailed = pos 15
status_number AuthorizationError = pos 16
status_number NotWritable = pos 17
status_number InconsistentName = pos 18
status_number (Other n) = n
