use Rattle.std.proofs.Common.{length, ap, arith}
use Rattle.std.proofs.lemmas.Bool.Decides.{nat_tests}
use Rattle.yasna_times.specs.Models.{utc_of}
use Rattle.yasna_times.proofs.UtcTime.{utc_thirteen}
use Rattle.yasna_times.proofs.models.utc_time.UTCTime.is_canonical.Goals as goal

pub returns-clause-length : goal.returns-clause-length
returns-clause-length c = (λ h. grind (arith, nat_tests), λ e. grind (arith, nat_tests))

pub returns-clause-canonical : goal.returns-clause-canonical
returns-clause-canonical c =
    λ t. (
      λ h. utc_thirteen c.args.text.now (utc_of c.args.self.now) t (grind (arith, nat_tests)),
      λ e. let l = ap length e in grind (arith, nat_tests),
    )
