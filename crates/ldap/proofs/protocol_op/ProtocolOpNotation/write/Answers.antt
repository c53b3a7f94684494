use Rattle.yasna_notation.proofs.Chosen.{can_as, written_as}
use Rattle.ldap.specs.contracts.protocol_op.ProtocolOpNotation.TheImpl.{ghosts as choice}
use Rattle.ldap.proofs.protocol_op.ProtocolOpNotation.write.Goals as goal

pub write-requires : goal.write-requires
write-requires c = can_as choice.means c.in-BindRequest.is c.requires

pub returns-in-BindRequest : goal.returns-in-BindRequest
returns-in-BindRequest c = written_as choice.means c.in-BindRequest.is c.args.writer.now _ _ c.write.ensures

pub write-requires-in-BindResponse : goal.write-requires-in-BindResponse
write-requires-in-BindResponse c = can_as choice.means c.in-BindResponse.is c.requires

pub returns-in-BindResponse : goal.returns-in-BindResponse
returns-in-BindResponse c = written_as choice.means c.in-BindResponse.is c.args.writer.now _ _ c.write-in-BindResponse.ensures

pub write-requires-in-UnbindRequest : goal.write-requires-in-UnbindRequest
write-requires-in-UnbindRequest c = can_as choice.means c.in-UnbindRequest.is c.requires

pub returns-in-UnbindRequest : goal.returns-in-UnbindRequest
returns-in-UnbindRequest c = written_as choice.means c.in-UnbindRequest.is c.args.writer.now _ _ c.write-in-UnbindRequest.ensures

pub write-requires-in-SearchRequest : goal.write-requires-in-SearchRequest
write-requires-in-SearchRequest c = can_as choice.means c.in-SearchRequest.is c.requires

pub returns-in-SearchRequest : goal.returns-in-SearchRequest
returns-in-SearchRequest c = written_as choice.means c.in-SearchRequest.is c.args.writer.now _ _ c.write-in-SearchRequest.ensures

pub write-requires-in-SearchResultEntry : goal.write-requires-in-SearchResultEntry
write-requires-in-SearchResultEntry c = can_as choice.means c.in-SearchResultEntry.is c.requires

pub returns-in-SearchResultEntry : goal.returns-in-SearchResultEntry
returns-in-SearchResultEntry c = written_as choice.means c.in-SearchResultEntry.is c.args.writer.now _ _ c.write-in-SearchResultEntry.ensures

pub write-requires-in-SearchResultDone : goal.write-requires-in-SearchResultDone
write-requires-in-SearchResultDone c = can_as choice.means c.in-SearchResultDone.is c.requires

pub returns-in-SearchResultDone : goal.returns-in-SearchResultDone
returns-in-SearchResultDone c = written_as choice.means c.in-SearchResultDone.is c.args.writer.now _ _ c.write-in-SearchResultDone.ensures

pub write-requires-in-SearchResultReference : goal.write-requires-in-SearchResultReference
write-requires-in-SearchResultReference c = can_as choice.means c.in-SearchResultReference.is c.requires

pub returns-in-SearchResultReference : goal.returns-in-SearchResultReference
returns-in-SearchResultReference c = written_as choice.means c.in-SearchResultReference.is c.args.writer.now _ _ c.write-in-SearchResultReference.ensures

pub returns-in-Unknown : goal.returns-in-Unknown
returns-in-Unknown c = written_as choice.means c.in-Unknown.is c.args.writer.now _ _ c.write-in-Unknown.ensures
