use Rattle.std.proofs.Common.{rules}
use Rattle.yasna_times.proofs.models.utc_time.year.Goals as goal

pub returns-then-year-lt50-clause-value : goal.returns-then-year-lt50-clause-value
returns-then-year-lt50-clause-value c = search rules
