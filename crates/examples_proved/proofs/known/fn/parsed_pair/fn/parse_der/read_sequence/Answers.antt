use Rattle.std.proofs.Common.{rules}
use Rattle.examples_proved.proofs.known.fn.parsed_pair.fn.parse_der.read_sequence.Goals as goal

pub returns : goal.returns
returns c = search rules
