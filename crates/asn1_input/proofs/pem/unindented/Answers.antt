use Rattle.std.proofs.lemmas.Str.Ascii.{trim_ascii_start_is}
use Rattle.asn1_input.proofs.pem.unindented.Goals as goal

pub returns : goal.returns
returns c = trim_ascii_start_is c.args.line.now c.trim_ascii_start.result.now c.trim_ascii_start.ensures.value
