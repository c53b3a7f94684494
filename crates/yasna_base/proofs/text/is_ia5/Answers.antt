use Rattle.yasna_base.proofs.Texts.{ascii_is}
use Rattle.yasna_base.proofs.text.is_ia5.Goals as goal

pub returns : goal.returns
returns c = ascii_is c.args.bytes.now c.is_ascii.result c.is_ascii.ensures.cases
