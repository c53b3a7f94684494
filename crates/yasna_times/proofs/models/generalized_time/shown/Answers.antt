use Rattle.std.proofs.Common.{sym}
use Rattle.yasna_times.proofs.PointDigits.{length_positive}
use Rattle.yasna_times.proofs.Fraction.{append_trimmed}
use Rattle.yasna_times.proofs.models.generalized_time.shown.Goals as goal

pub returns-else-is_empty-clause-all : goal.returns-else-is_empty-clause-all
returns-else-is_empty-clause-all c =
    sym (append_trimmed c.args.nine.now c.args.sub_nano.now (length_positive c.args.sub_nano.now c.if-is_empty.ensures) c.requires.trimmed)
