use Rattle.yasna_base.proofs.Texts.{printable_mark}
use Rattle.yasna_base.proofs.text.is_printable_byte.Goals as goal

pub returns : goal.returns
returns c = printable_mark c.args.byte c.contains.result c.if-is_ascii_alphanumeric.ensures.cases c.contains.ensures.value
