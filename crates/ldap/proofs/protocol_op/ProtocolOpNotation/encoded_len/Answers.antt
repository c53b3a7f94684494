use Rattle.yasna_notation.proofs.Chosen.{can_as, known_as}
use Rattle.ldap.specs.contracts.protocol_op.ProtocolOpNotation.TheImpl.{ghosts as choice}
use Rattle.ldap.proofs.protocol_op.ProtocolOpNotation.encoded_len.Goals as goal

pub encoded_len-requires : goal.encoded_len-requires
encoded_len-requires c = can_as choice.means c.in-BindRequest.is c.requires

pub returns-in-BindRequest : goal.returns-in-BindRequest
returns-in-BindRequest c = known_as choice.means c.in-BindRequest.is c.args.under c.args.mode _ c.encoded_len.ensures

pub encoded_len-requires-in-BindResponse : goal.encoded_len-requires-in-BindResponse
encoded_len-requires-in-BindResponse c = can_as choice.means c.in-BindResponse.is c.requires

pub returns-in-BindResponse : goal.returns-in-BindResponse
returns-in-BindResponse c = known_as choice.means c.in-BindResponse.is c.args.under c.args.mode _ c.encoded_len-in-BindResponse.ensures

pub encoded_len-requires-in-UnbindRequest : goal.encoded_len-requires-in-UnbindRequest
encoded_len-requires-in-UnbindRequest c = can_as choice.means c.in-UnbindRequest.is c.requires

pub returns-in-UnbindRequest : goal.returns-in-UnbindRequest
returns-in-UnbindRequest c = known_as choice.means c.in-UnbindRequest.is c.args.under c.args.mode _ c.encoded_len-in-UnbindRequest.ensures

pub encoded_len-requires-in-SearchRequest : goal.encoded_len-requires-in-SearchRequest
encoded_len-requires-in-SearchRequest c = can_as choice.means c.in-SearchRequest.is c.requires

pub returns-in-SearchRequest : goal.returns-in-SearchRequest
returns-in-SearchRequest c = known_as choice.means c.in-SearchRequest.is c.args.under c.args.mode _ c.encoded_len-in-SearchRequest.ensures

pub encoded_len-requires-in-SearchResultEntry : goal.encoded_len-requires-in-SearchResultEntry
encoded_len-requires-in-SearchResultEntry c = can_as choice.means c.in-SearchResultEntry.is c.requires

pub returns-in-SearchResultEntry : goal.returns-in-SearchResultEntry
returns-in-SearchResultEntry c = known_as choice.means c.in-SearchResultEntry.is c.args.under c.args.mode _ c.encoded_len-in-SearchResultEntry.ensures

pub encoded_len-requires-in-SearchResultDone : goal.encoded_len-requires-in-SearchResultDone
encoded_len-requires-in-SearchResultDone c = can_as choice.means c.in-SearchResultDone.is c.requires

pub returns-in-SearchResultDone : goal.returns-in-SearchResultDone
returns-in-SearchResultDone c = known_as choice.means c.in-SearchResultDone.is c.args.under c.args.mode _ c.encoded_len-in-SearchResultDone.ensures

pub encoded_len-requires-in-SearchResultReference : goal.encoded_len-requires-in-SearchResultReference
encoded_len-requires-in-SearchResultReference c = can_as choice.means c.in-SearchResultReference.is c.requires

pub returns-in-SearchResultReference : goal.returns-in-SearchResultReference
returns-in-SearchResultReference c = known_as choice.means c.in-SearchResultReference.is c.args.under c.args.mode _ c.encoded_len-in-SearchResultReference.ensures

pub returns-in-Unknown : goal.returns-in-Unknown
returns-in-Unknown c = known_as choice.means c.in-Unknown.is c.args.under c.args.mode _ c.encoded_len-in-Unknown.ensures
