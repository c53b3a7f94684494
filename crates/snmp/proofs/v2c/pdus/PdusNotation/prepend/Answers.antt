use Rattle.yasna_notation.proofs.Chosen.{can_as, prepended_as}
use Rattle.snmp.specs.contracts.v2c.pdus.PdusNotation.TheImpl.{ghosts as choice}
use Rattle.snmp.proofs.v2c.pdus.PdusNotation.prepend.Goals as goal

pub prepend-requires : goal.prepend-requires
prepend-requires c = can_as choice.means c.in-GetRequest.is c.requires

pub returns-in-GetRequest : goal.returns-in-GetRequest
returns-in-GetRequest c = prepended_as choice.means c.in-GetRequest.is c.args.under c.args.out.now _ _ c.prepend.ensures

pub prepend-requires-in-GetNextRequest : goal.prepend-requires-in-GetNextRequest
prepend-requires-in-GetNextRequest c = can_as choice.means c.in-GetNextRequest.is c.requires

pub returns-in-GetNextRequest : goal.returns-in-GetNextRequest
returns-in-GetNextRequest c = prepended_as choice.means c.in-GetNextRequest.is c.args.under c.args.out.now _ _ c.prepend-in-GetNextRequest.ensures

pub prepend-requires-in-GetBulkRequest : goal.prepend-requires-in-GetBulkRequest
prepend-requires-in-GetBulkRequest c = can_as choice.means c.in-GetBulkRequest.is c.requires

pub returns-in-GetBulkRequest : goal.returns-in-GetBulkRequest
returns-in-GetBulkRequest c = prepended_as choice.means c.in-GetBulkRequest.is c.args.under c.args.out.now _ _ c.prepend-in-GetBulkRequest.ensures

pub prepend-requires-in-Response : goal.prepend-requires-in-Response
prepend-requires-in-Response c = can_as choice.means c.in-Response.is c.requires

pub returns-in-Response : goal.returns-in-Response
returns-in-Response c = prepended_as choice.means c.in-Response.is c.args.under c.args.out.now _ _ c.prepend-in-Response.ensures

pub prepend-requires-in-SetRequest : goal.prepend-requires-in-SetRequest
prepend-requires-in-SetRequest c = can_as choice.means c.in-SetRequest.is c.requires

pub returns-in-SetRequest : goal.returns-in-SetRequest
returns-in-SetRequest c = prepended_as choice.means c.in-SetRequest.is c.args.under c.args.out.now _ _ c.prepend-in-SetRequest.ensures

pub prepend-requires-in-InformRequest : goal.prepend-requires-in-InformRequest
prepend-requires-in-InformRequest c = can_as choice.means c.in-InformRequest.is c.requires

pub returns-in-InformRequest : goal.returns-in-InformRequest
returns-in-InformRequest c = prepended_as choice.means c.in-InformRequest.is c.args.under c.args.out.now _ _ c.prepend-in-InformRequest.ensures

pub prepend-requires-in-SnmpV2Trap : goal.prepend-requires-in-SnmpV2Trap
prepend-requires-in-SnmpV2Trap c = can_as choice.means c.in-SnmpV2Trap.is c.requires

pub returns-in-SnmpV2Trap : goal.returns-in-SnmpV2Trap
returns-in-SnmpV2Trap c = prepended_as choice.means c.in-SnmpV2Trap.is c.args.under c.args.out.now _ _ c.prepend-in-SnmpV2Trap.ensures

pub prepend-requires-in-Report : goal.prepend-requires-in-Report
prepend-requires-in-Report c = can_as choice.means c.in-Report.is c.requires

pub returns-in-Report : goal.returns-in-Report
returns-in-Report c = prepended_as choice.means c.in-Report.is c.args.under c.args.out.now _ _ c.prepend-in-Report.ensures
