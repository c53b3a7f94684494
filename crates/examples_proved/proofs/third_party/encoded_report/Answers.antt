use Rattle.std.proofs.Common.{rules}
use Rattle.examples_proved.proofs.third_party.encoded_report.Goals as goal

pub returns : goal.returns
returns c = search rules
