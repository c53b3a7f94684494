use Rattle.yasna_notation.proofs.Chosen.{can_as, written_as}
use Rattle.snmp.specs.contracts.v2c.pdus.PdusNotation.TheImpl.{ghosts as choice}
use Rattle.snmp.proofs.v2c.pdus.PdusNotation.write.Goals as goal

pub write-requires : goal.write-requires
write-requires c = can_as choice.means c.in-GetRequest.is c.requires

pub returns-in-GetRequest : goal.returns-in-GetRequest
returns-in-GetRequest c = written_as choice.means c.in-GetRequest.is c.args.writer.now _ _ c.write.ensures

pub write-requires-in-GetNextRequest : goal.write-requires-in-GetNextRequest
write-requires-in-GetNextRequest c = can_as choice.means c.in-GetNextRequest.is c.requires

pub returns-in-GetNextRequest : goal.returns-in-GetNextRequest
returns-in-GetNextRequest c = written_as choice.means c.in-GetNextRequest.is c.args.writer.now _ _ c.write-in-GetNextRequest.ensures

pub write-requires-in-GetBulkRequest : goal.write-requires-in-GetBulkRequest
write-requires-in-GetBulkRequest c = can_as choice.means c.in-GetBulkRequest.is c.requires

pub returns-in-GetBulkRequest : goal.returns-in-GetBulkRequest
returns-in-GetBulkRequest c = written_as choice.means c.in-GetBulkRequest.is c.args.writer.now _ _ c.write-in-GetBulkRequest.ensures

pub write-requires-in-Response : goal.write-requires-in-Response
write-requires-in-Response c = can_as choice.means c.in-Response.is c.requires

pub returns-in-Response : goal.returns-in-Response
returns-in-Response c = written_as choice.means c.in-Response.is c.args.writer.now _ _ c.write-in-Response.ensures

pub write-requires-in-SetRequest : goal.write-requires-in-SetRequest
write-requires-in-SetRequest c = can_as choice.means c.in-SetRequest.is c.requires

pub returns-in-SetRequest : goal.returns-in-SetRequest
returns-in-SetRequest c = written_as choice.means c.in-SetRequest.is c.args.writer.now _ _ c.write-in-SetRequest.ensures

pub write-requires-in-InformRequest : goal.write-requires-in-InformRequest
write-requires-in-InformRequest c = can_as choice.means c.in-InformRequest.is c.requires

pub returns-in-InformRequest : goal.returns-in-InformRequest
returns-in-InformRequest c = written_as choice.means c.in-InformRequest.is c.args.writer.now _ _ c.write-in-InformRequest.ensures

pub write-requires-in-SnmpV2Trap : goal.write-requires-in-SnmpV2Trap
write-requires-in-SnmpV2Trap c = can_as choice.means c.in-SnmpV2Trap.is c.requires

pub returns-in-SnmpV2Trap : goal.returns-in-SnmpV2Trap
returns-in-SnmpV2Trap c = written_as choice.means c.in-SnmpV2Trap.is c.args.writer.now _ _ c.write-in-SnmpV2Trap.ensures

pub write-requires-in-Report : goal.write-requires-in-Report
write-requires-in-Report c = can_as choice.means c.in-Report.is c.requires

pub returns-in-Report : goal.returns-in-Report
returns-in-Report c = written_as choice.means c.in-Report.is c.args.writer.now _ _ c.write-in-Report.ensures
