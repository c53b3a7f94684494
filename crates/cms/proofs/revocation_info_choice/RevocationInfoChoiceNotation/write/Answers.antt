use Rattle.yasna_notation.proofs.Chosen.{can_as, written_as}
use Rattle.cms.specs.contracts.revocation_info_choice.RevocationInfoChoiceNotation.TheImpl.{ghosts as choice}
use Rattle.cms.proofs.revocation_info_choice.RevocationInfoChoiceNotation.write.Goals as goal

pub write-requires : goal.write-requires
write-requires c = can_as choice.means c.in-Crl.is c.requires

pub returns-in-Crl : goal.returns-in-Crl
returns-in-Crl c = written_as choice.means c.in-Crl.is c.args.writer.now _ _ c.write.ensures

pub write-requires-in-Other : goal.write-requires-in-Other
write-requires-in-Other c = can_as choice.means c.in-Other.is c.requires

pub returns-in-Other : goal.returns-in-Other
returns-in-Other c = written_as choice.means c.in-Other.is c.args.writer.now _ _ c.write-in-Other.ensures
