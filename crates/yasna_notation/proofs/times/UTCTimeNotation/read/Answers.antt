use Rattle.std.proofs.Common.{arith}
use Rattle.yasna_base.specs.Octets.{IsDeepOctets, octets_segmentation}
use Rattle.yasna_base.specs.Text.{IsStringOf}
use Rattle.yasna_base.proofs.Segmented.{deep_begins}
use Rattle.yasna_times.specs.Models.{utc_of}
use Rattle.yasna_times.specs.UtcTime.{SpellsUtcTime, utc_time_tag}
use Rattle.yasna_base.proofs.Identifier.{not_end}
use Rattle.yasna_notation.proofs.OneTag.{allocating_read}
use Rattle.yasna_notation.proofs.times.UTCTimeNotation.read.Goals as goal

pub returns : goal.returns
returns c =
    allocating_read (IsStringOf SpellsUtcTime) utc_of IsDeepOctets utc_time_tag (not_end 23 (λ e. omega arith))
    (λ t n m s. deep_begins octets_segmentation n m t s) c.args.reader.now
    c.read_utctime.result c.read_utctime.new.self c.read_utctime.ensures
