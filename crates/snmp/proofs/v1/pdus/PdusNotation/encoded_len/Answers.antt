use Rattle.yasna_notation.proofs.Chosen.{can_as, known_as}
use Rattle.snmp.specs.contracts.v1.pdus.PdusNotation.TheImpl.{ghosts as choice}
use Rattle.snmp.proofs.v1.pdus.PdusNotation.encoded_len.Goals as goal

pub encoded_len-requires : goal.encoded_len-requires
encoded_len-requires c = can_as choice.means c.in-GetRequest.is c.requires

pub returns-in-GetRequest : goal.returns-in-GetRequest
returns-in-GetRequest c = known_as choice.means c.in-GetRequest.is c.args.under c.args.mode _ c.encoded_len.ensures

pub encoded_len-requires-in-GetNextRequest : goal.encoded_len-requires-in-GetNextRequest
encoded_len-requires-in-GetNextRequest c = can_as choice.means c.in-GetNextRequest.is c.requires

pub returns-in-GetNextRequest : goal.returns-in-GetNextRequest
returns-in-GetNextRequest c = known_as choice.means c.in-GetNextRequest.is c.args.under c.args.mode _ c.encoded_len-in-GetNextRequest.ensures

pub encoded_len-requires-in-GetResponse : goal.encoded_len-requires-in-GetResponse
encoded_len-requires-in-GetResponse c = can_as choice.means c.in-GetResponse.is c.requires

pub returns-in-GetResponse : goal.returns-in-GetResponse
returns-in-GetResponse c = known_as choice.means c.in-GetResponse.is c.args.under c.args.mode _ c.encoded_len-in-GetResponse.ensures

pub encoded_len-requires-in-SetRequest : goal.encoded_len-requires-in-SetRequest
encoded_len-requires-in-SetRequest c = can_as choice.means c.in-SetRequest.is c.requires

pub returns-in-SetRequest : goal.returns-in-SetRequest
returns-in-SetRequest c = known_as choice.means c.in-SetRequest.is c.args.under c.args.mode _ c.encoded_len-in-SetRequest.ensures

pub encoded_len-requires-in-Trap : goal.encoded_len-requires-in-Trap
encoded_len-requires-in-Trap c = can_as choice.means c.in-Trap.is c.requires

pub returns-in-Trap : goal.returns-in-Trap
returns-in-Trap c = known_as choice.means c.in-Trap.is c.args.under c.args.mode _ c.encoded_len-in-Trap.ensures
