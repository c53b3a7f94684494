use Rattle.yasna_notation.proofs.Chosen.{can_as, prepended_as}
use Rattle.ldap.specs.contracts.protocol_op.ProtocolOpNotation.TheImpl.{ghosts as choice}
use Rattle.ldap.proofs.protocol_op.ProtocolOpNotation.prepend.Goals as goal

pub prepend-requires : goal.prepend-requires
prepend-requires c = can_as choice.means c.in-BindRequest.is c.requires

pub returns-in-BindRequest : goal.returns-in-BindRequest
returns-in-BindRequest c = prepended_as choice.means c.in-BindRequest.is c.args.under c.args.out.now _ _ c.prepend.ensures

pub prepend-requires-in-BindResponse : goal.prepend-requires-in-BindResponse
prepend-requires-in-BindResponse c = can_as choice.means c.in-BindResponse.is c.requires

pub returns-in-BindResponse : goal.returns-in-BindResponse
returns-in-BindResponse c = prepended_as choice.means c.in-BindResponse.is c.args.under c.args.out.now _ _ c.prepend-in-BindResponse.ensures

pub prepend-requires-in-UnbindRequest : goal.prepend-requires-in-UnbindRequest
prepend-requires-in-UnbindRequest c = can_as choice.means c.in-UnbindRequest.is c.requires

pub returns-in-UnbindRequest : goal.returns-in-UnbindRequest
returns-in-UnbindRequest c = prepended_as choice.means c.in-UnbindRequest.is c.args.under c.args.out.now _ _ c.prepend-in-UnbindRequest.ensures

pub prepend-requires-in-SearchRequest : goal.prepend-requires-in-SearchRequest
prepend-requires-in-SearchRequest c = can_as choice.means c.in-SearchRequest.is c.requires

pub returns-in-SearchRequest : goal.returns-in-SearchRequest
returns-in-SearchRequest c = prepended_as choice.means c.in-SearchRequest.is c.args.under c.args.out.now _ _ c.prepend-in-SearchRequest.ensures

pub prepend-requires-in-SearchResultEntry : goal.prepend-requires-in-SearchResultEntry
prepend-requires-in-SearchResultEntry c = can_as choice.means c.in-SearchResultEntry.is c.requires

pub returns-in-SearchResultEntry : goal.returns-in-SearchResultEntry
returns-in-SearchResultEntry c = prepended_as choice.means c.in-SearchResultEntry.is c.args.under c.args.out.now _ _ c.prepend-in-SearchResultEntry.ensures

pub prepend-requires-in-SearchResultDone : goal.prepend-requires-in-SearchResultDone
prepend-requires-in-SearchResultDone c = can_as choice.means c.in-SearchResultDone.is c.requires

pub returns-in-SearchResultDone : goal.returns-in-SearchResultDone
returns-in-SearchResultDone c = prepended_as choice.means c.in-SearchResultDone.is c.args.under c.args.out.now _ _ c.prepend-in-SearchResultDone.ensures

pub prepend-requires-in-SearchResultReference : goal.prepend-requires-in-SearchResultReference
prepend-requires-in-SearchResultReference c = can_as choice.means c.in-SearchResultReference.is c.requires

pub returns-in-SearchResultReference : goal.returns-in-SearchResultReference
returns-in-SearchResultReference c = prepended_as choice.means c.in-SearchResultReference.is c.args.under c.args.out.now _ _ c.prepend-in-SearchResultReference.ensures

pub returns-in-Unknown : goal.returns-in-Unknown
returns-in-Unknown c = prepended_as choice.means c.in-Unknown.is c.args.under c.args.out.now _ _ c.prepend-in-Unknown.ensures
