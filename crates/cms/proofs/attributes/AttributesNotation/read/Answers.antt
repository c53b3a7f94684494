use Rattle.cms.proofs.attributes.AttributesNotation.read.Goals as goal

pub returns : goal.returns
returns c = c.read_as.ensures
