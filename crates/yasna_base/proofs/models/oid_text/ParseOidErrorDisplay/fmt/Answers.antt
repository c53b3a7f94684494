-- The result is here so that the other text is rejected at once.
use Rattle.std.proofs.Common.{rules}
use Rattle.yasna_base.proofs.models.oid_text.ParseOidErrorDisplay.fmt.Goals as goal

pub returns-then-self-clause-writes : goal.returns-then-self-clause-writes
returns-then-self-clause-writes c = search rules
