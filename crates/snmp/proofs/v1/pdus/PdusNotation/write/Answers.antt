use Rattle.yasna_notation.proofs.Chosen.{can_as, written_as}
use Rattle.snmp.specs.contracts.v1.pdus.PdusNotation.TheImpl.{ghosts as choice}
use Rattle.snmp.proofs.v1.pdus.PdusNotation.write.Goals as goal

pub write-requires : goal.write-requires
write-requires c = can_as choice.means c.in-GetRequest.is c.requires

pub returns-in-GetRequest : goal.returns-in-GetRequest
returns-in-GetRequest c = written_as choice.means c.in-GetRequest.is c.args.writer.now _ _ c.write.ensures

pub write-requires-in-GetNextRequest : goal.write-requires-in-GetNextRequest
write-requires-in-GetNextRequest c = can_as choice.means c.in-GetNextRequest.is c.requires

pub returns-in-GetNextRequest : goal.returns-in-GetNextRequest
returns-in-GetNextRequest c = written_as choice.means c.in-GetNextRequest.is c.args.writer.now _ _ c.write-in-GetNextRequest.ensures

pub write-requires-in-GetResponse : goal.write-requires-in-GetResponse
write-requires-in-GetResponse c = can_as choice.means c.in-GetResponse.is c.requires

pub returns-in-GetResponse : goal.returns-in-GetResponse
returns-in-GetResponse c = written_as choice.means c.in-GetResponse.is c.args.writer.now _ _ c.write-in-GetResponse.ensures

pub write-requires-in-SetRequest : goal.write-requires-in-SetRequest
write-requires-in-SetRequest c = can_as choice.means c.in-SetRequest.is c.requires

pub returns-in-SetRequest : goal.returns-in-SetRequest
returns-in-SetRequest c = written_as choice.means c.in-SetRequest.is c.args.writer.now _ _ c.write-in-SetRequest.ensures

pub write-requires-in-Trap : goal.write-requires-in-Trap
write-requires-in-Trap c = can_as choice.means c.in-Trap.is c.requires

pub returns-in-Trap : goal.returns-in-Trap
returns-in-Trap c = written_as choice.means c.in-Trap.is c.args.writer.now _ _ c.write-in-Trap.ensures
