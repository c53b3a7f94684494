use Rattle.std.proofs.Common.{rules}
use Rattle.examples_proved.proofs.third_party.normalized.Goals as goal

pub returns-in_err-value-clause-rejected : goal.returns-in_err-value-clause-rejected
returns-in_err-value-clause-rejected g c = search rules

pub returns-clause-encoding : goal.returns-clause-encoding
returns-clause-encoding g c = search rules
