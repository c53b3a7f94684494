use Rattle.std.proofs.Common.{arith, FitsSigned, w32, w64}
use Rattle.std.proofs.lemmas.Int.{to_z-of_z}
use Rattle.jiff.proofs.Family.{civil_nanos_range}
use Rattle.jiff.proofs.SpanFacts.{signed_arith}
use Rattle.yasna_times.proofs.models.civil.in_utc.Goals as goal

pub returns-in-Err : goal.returns-in-Err
returns-in-Err c =
    λ utc less.
    let f4 : FitsSigned w32 c.seconds-seconds.result = omega (arith, signed_arith, c.args.offset.in_range, c.seconds-seconds.ensures) in
    let f8 : FitsSigned w64 c.seconds-seconds.result = omega (arith, signed_arith, c.args.offset.in_range, c.seconds-seconds.ensures) in
    let d = simp to_z-of_z at c.from_secs.ensures in
    let r = civil_nanos_range utc in
    let none = c.in-Err.ensures.succeeds.1
    (omega (arith, signed_arith, d, less, r, c.seconds-seconds.ensures), omega (arith, signed_arith, d, less, r, c.seconds-seconds.ensures)) in
    cc
