use Rattle.std.proofs.Common.{◌≡◌, subst, rules}
use Rattle.yasna_base.specs.declared.tag.Tag.{Tag}
use Rattle.yasna_base.specs.Identifier.{tag_or}
use Rattle.yasna_times.specs.Models.{utc_of}
use Rattle.yasna_times.specs.UtcTime.{utc_time_tag, utc_time_encoding}
use Rattle.yasna_writer.specs.Prepend.{KnownLength}
use Rattle.yasna_notation.proofs.times.UTCTimeNotation.encoded_len.Goals as goal

pub returns : goal.returns
returns c =
    let tag : c.unwrap_or.result ≡ tag_or c.args.under utc_time_tag = search rules in
    subst (λ (t : Tag). KnownLength (utc_time_encoding t c.args._mode (utc_of c.args.value.now)) c.utctime_len.result) tag
    (c.utctime_len.ensures c.args._mode)
