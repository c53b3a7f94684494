-- The numbers of kinds of traps (RFC 1157, 4.1.6).
use Rattle.std.proofs.Common.{ℤ, pos}
use Rattle.snmp.specs.declared.v1.generic_trap.GenericTrap.{GenericTrap}
use Rattle.snmp.specs.declared.v1.generic_trap.GenericTrap.TheVariants.{ColdStart, WarmStart, LinkDown, LinkUp, AuthenticationFailure, EgpNeighborLoss, EnterpriseSpecific, Other}

-- the number of each; one without a name holds its number
abbrev pub trap_number : GenericTrap → ℤ
trap_number ColdStart = pos 0
trap_number WarmStart = pos 1
trap_number LinkDown = pos 2
trap_number LinkUp = pos 3
trap_number AuthenticationFailure = pos 4
trap_number EgpNeighborLoss = pos 5
trap_number EnterpriseSpecific = pos 6
trap_number (Other n) = n
