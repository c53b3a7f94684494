use Rattle.std.proofs.Common.{arith}
use Rattle.yasna_times.specs.GeneralizedTime.{SpellsGeneralizedTime}
use Rattle.yasna_times.specs.Models.{moment_of}
use Rattle.yasna_base.specs.Text.{IsStringOf}
use Rattle.yasna.proofs.Closures.{string_by}
use Rattle.yasna_reader.proofs.Sticky.{seen_repeats_error}
use Rattle.yasna.proofs.times.GeneralizedTimeBERDecodable.decode_ber.Goals as goal

pub returns-clause-decodes : goal.returns-clause-decodes
returns-clause-decodes c failed =
    (string_by (IsStringOf SpellsGeneralizedTime) moment_of 24 (λ e. omega arith)).decodes c.args.reader.now c.read_generalized_time.result
    c.read_generalized_time.new.self (failed, c.requires) c.read_generalized_time.ensures

pub returns-clause-failed : goal.returns-clause-failed
returns-clause-failed c = seen_repeats_error c.read_generalized_time.ensures
