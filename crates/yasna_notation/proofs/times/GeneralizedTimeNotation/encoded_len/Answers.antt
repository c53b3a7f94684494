use Rattle.std.proofs.Common.{◌≡◌, subst, rules}
use Rattle.yasna_base.specs.declared.tag.Tag.{Tag}
use Rattle.yasna_base.specs.Identifier.{tag_or}
use Rattle.yasna_times.specs.Models.{moment_of}
use Rattle.yasna_times.specs.GeneralizedTime.{generalized_time_tag, generalized_time_encoding}
use Rattle.yasna_writer.specs.Prepend.{KnownLength}
use Rattle.yasna_notation.proofs.times.GeneralizedTimeNotation.encoded_len.Goals as goal

pub returns : goal.returns
returns c =
    let tag : c.unwrap_or.result ≡ tag_or c.args.under generalized_time_tag = search rules in
    subst (λ (t : Tag). KnownLength (generalized_time_encoding t c.args._mode (moment_of c.args.value.now)) c.generalized_time_len.result) tag
    (c.generalized_time_len.ensures c.args._mode)
