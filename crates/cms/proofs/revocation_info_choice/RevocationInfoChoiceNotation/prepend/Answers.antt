use Rattle.yasna_notation.proofs.Chosen.{can_as, prepended_as}
use Rattle.cms.specs.contracts.revocation_info_choice.RevocationInfoChoiceNotation.TheImpl.{ghosts as choice}
use Rattle.cms.proofs.revocation_info_choice.RevocationInfoChoiceNotation.prepend.Goals as goal

pub prepend-requires : goal.prepend-requires
prepend-requires c = can_as choice.means c.in-Crl.is c.requires

pub returns-in-Crl : goal.returns-in-Crl
returns-in-Crl c = prepended_as choice.means c.in-Crl.is c.args.under c.args.out.now _ _ c.prepend.ensures

pub prepend-requires-in-Other : goal.prepend-requires-in-Other
prepend-requires-in-Other c = can_as choice.means c.in-Other.is c.requires

pub returns-in-Other : goal.returns-in-Other
returns-in-Other c = prepended_as choice.means c.in-Other.is c.args.under c.args.out.now _ _ c.prepend-in-Other.ensures
