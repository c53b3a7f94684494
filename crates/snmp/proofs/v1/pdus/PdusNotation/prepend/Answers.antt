use Rattle.yasna_notation.proofs.Chosen.{can_as, prepended_as}
use Rattle.snmp.specs.contracts.v1.pdus.PdusNotation.TheImpl.{ghosts as choice}
use Rattle.snmp.proofs.v1.pdus.PdusNotation.prepend.Goals as goal

pub prepend-requires : goal.prepend-requires
prepend-requires c = can_as choice.means c.in-GetRequest.is c.requires

pub returns-in-GetRequest : goal.returns-in-GetRequest
returns-in-GetRequest c = prepended_as choice.means c.in-GetRequest.is c.args.under c.args.out.now _ _ c.prepend.ensures

pub prepend-requires-in-GetNextRequest : goal.prepend-requires-in-GetNextRequest
prepend-requires-in-GetNextRequest c = can_as choice.means c.in-GetNextRequest.is c.requires

pub returns-in-GetNextRequest : goal.returns-in-GetNextRequest
returns-in-GetNextRequest c = prepended_as choice.means c.in-GetNextRequest.is c.args.under c.args.out.now _ _ c.prepend-in-GetNextRequest.ensures

pub prepend-requires-in-GetResponse : goal.prepend-requires-in-GetResponse
prepend-requires-in-GetResponse c = can_as choice.means c.in-GetResponse.is c.requires

pub returns-in-GetResponse : goal.returns-in-GetResponse
returns-in-GetResponse c = prepended_as choice.means c.in-GetResponse.is c.args.under c.args.out.now _ _ c.prepend-in-GetResponse.ensures

pub prepend-requires-in-SetRequest : goal.prepend-requires-in-SetRequest
prepend-requires-in-SetRequest c = can_as choice.means c.in-SetRequest.is c.requires

pub returns-in-SetRequest : goal.returns-in-SetRequest
returns-in-SetRequest c = prepended_as choice.means c.in-SetRequest.is c.args.under c.args.out.now _ _ c.prepend-in-SetRequest.ensures

pub prepend-requires-in-Trap : goal.prepend-requires-in-Trap
prepend-requires-in-Trap c = can_as choice.means c.in-Trap.is c.requires

pub returns-in-Trap : goal.returns-in-Trap
returns-in-Trap c = prepended_as choice.means c.in-Trap.is c.args.under c.args.out.now _ _ c.prepend-in-Trap.ensures
