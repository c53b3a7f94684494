use Rattle.yasna_notation.proofs.Chosen.{can_as, known_as}
use Rattle.cms.specs.contracts.revocation_info_choice.RevocationInfoChoiceNotation.TheImpl.{ghosts as choice}
use Rattle.cms.proofs.revocation_info_choice.RevocationInfoChoiceNotation.encoded_len.Goals as goal

pub encoded_len-requires : goal.encoded_len-requires
encoded_len-requires c = can_as choice.means c.in-Crl.is c.requires

pub returns-in-Crl : goal.returns-in-Crl
returns-in-Crl c = known_as choice.means c.in-Crl.is c.args.under c.args.mode _ c.encoded_len.ensures

pub encoded_len-requires-in-Other : goal.encoded_len-requires-in-Other
encoded_len-requires-in-Other c = can_as choice.means c.in-Other.is c.requires

pub returns-in-Other : goal.returns-in-Other
returns-in-Other c = known_as choice.means c.in-Other.is c.args.under c.args.mode _ c.encoded_len-in-Other.ensures
