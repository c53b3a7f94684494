use Rattle.std.proofs.Common.{ap}
use Rattle.jiff.specs.Words.{civil_nanos}
use Rattle.yasna_times.proofs.OneMoment.{same_moment}
use Rattle.yasna_times.proofs.laws.time_hashes.Goals as goal

pub returns-clause-general_moments : goal.returns-clause-general_moments
returns-clause-general_moments c =
    λ a b e.
    let same = same_moment a b e in
    let datetime = ap civil_nanos same.datetime in
    let digits = same.digits in
    let flag = same.flag in
    cc
