use Rattle.cms.proofs.revocation_info_choice.RevocationInfoChoiceNotation.has_tag.Goals as goal

pub returns : goal.returns
returns c = c.has_tag.ensures
