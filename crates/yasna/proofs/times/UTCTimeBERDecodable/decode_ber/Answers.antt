use Rattle.std.proofs.Common.{arith}
use Rattle.yasna_times.specs.Models.{utc_of}
use Rattle.yasna_base.specs.Text.{IsStringOf}
use Rattle.yasna_times.specs.UtcTime.{SpellsUtcTime}
use Rattle.yasna.proofs.Closures.{string_by}
use Rattle.yasna_reader.proofs.Sticky.{seen_repeats_error}
use Rattle.yasna.proofs.times.UTCTimeBERDecodable.decode_ber.Goals as goal

pub returns-clause-decodes : goal.returns-clause-decodes
returns-clause-decodes c failed =
    (string_by (IsStringOf SpellsUtcTime) utc_of 23 (λ e. omega arith)).decodes c.args.reader.now c.read_utctime.result c.read_utctime.new.self
    (failed, c.requires) c.read_utctime.ensures

pub returns-clause-failed : goal.returns-clause-failed
returns-clause-failed c = seen_repeats_error c.read_utctime.ensures
