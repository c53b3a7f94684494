use Rattle.yasna_notation.proofs.Chosen.{can_as, known_as}
use Rattle.snmp.specs.contracts.v2c.pdus.PdusNotation.TheImpl.{ghosts as choice}
use Rattle.snmp.proofs.v2c.pdus.PdusNotation.encoded_len.Goals as goal

pub encoded_len-requires : goal.encoded_len-requires
encoded_len-requires c = can_as choice.means c.in-GetRequest.is c.requires

pub returns-in-GetRequest : goal.returns-in-GetRequest
returns-in-GetRequest c = known_as choice.means c.in-GetRequest.is c.args.under c.args.mode _ c.encoded_len.ensures

pub encoded_len-requires-in-GetNextRequest : goal.encoded_len-requires-in-GetNextRequest
encoded_len-requires-in-GetNextRequest c = can_as choice.means c.in-GetNextRequest.is c.requires

pub returns-in-GetNextRequest : goal.returns-in-GetNextRequest
returns-in-GetNextRequest c = known_as choice.means c.in-GetNextRequest.is c.args.under c.args.mode _ c.encoded_len-in-GetNextRequest.ensures

pub encoded_len-requires-in-GetBulkRequest : goal.encoded_len-requires-in-GetBulkRequest
encoded_len-requires-in-GetBulkRequest c = can_as choice.means c.in-GetBulkRequest.is c.requires

pub returns-in-GetBulkRequest : goal.returns-in-GetBulkRequest
returns-in-GetBulkRequest c = known_as choice.means c.in-GetBulkRequest.is c.args.under c.args.mode _ c.encoded_len-in-GetBulkRequest.ensures

pub encoded_len-requires-in-Response : goal.encoded_len-requires-in-Response
encoded_len-requires-in-Response c = can_as choice.means c.in-Response.is c.requires

pub returns-in-Response : goal.returns-in-Response
returns-in-Response c = known_as choice.means c.in-Response.is c.args.under c.args.mode _ c.encoded_len-in-Response.ensures

pub encoded_len-requires-in-SetRequest : goal.encoded_len-requires-in-SetRequest
encoded_len-requires-in-SetRequest c = can_as choice.means c.in-SetRequest.is c.requires

pub returns-in-SetRequest : goal.returns-in-SetRequest
returns-in-SetRequest c = known_as choice.means c.in-SetRequest.is c.args.under c.args.mode _ c.encoded_len-in-SetRequest.ensures

pub encoded_len-requires-in-InformRequest : goal.encoded_len-requires-in-InformRequest
encoded_len-requires-in-InformRequest c = can_as choice.means c.in-InformRequest.is c.requires

pub returns-in-InformRequest : goal.returns-in-InformRequest
returns-in-InformRequest c = known_as choice.means c.in-InformRequest.is c.args.under c.args.mode _ c.encoded_len-in-InformRequest.ensures

pub encoded_len-requires-in-SnmpV2Trap : goal.encoded_len-requires-in-SnmpV2Trap
encoded_len-requires-in-SnmpV2Trap c = can_as choice.means c.in-SnmpV2Trap.is c.requires

pub returns-in-SnmpV2Trap : goal.returns-in-SnmpV2Trap
returns-in-SnmpV2Trap c = known_as choice.means c.in-SnmpV2Trap.is c.args.under c.args.mode _ c.encoded_len-in-SnmpV2Trap.ensures

pub encoded_len-requires-in-Report : goal.encoded_len-requires-in-Report
encoded_len-requires-in-Report c = can_as choice.means c.in-Report.is c.requires

pub returns-in-Report : goal.returns-in-Report
returns-in-Report c = known_as choice.means c.in-Report.is c.args.under c.args.mode _ c.encoded_len-in-Report.ensures
