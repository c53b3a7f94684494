use Rattle.std.proofs.Common.{◌∙◌}
use Rattle.yasna_writer.proofs.SortKeys.{by_key}
use Rattle.yasna_writer.proofs.ordered_part.OrderedPart.compare.Goals as goal

pub returns : goal.returns
returns c =
    let part = c.args.self.now in
    let other = c.args.other.now in
    c.cmp-2.ensures ∙ by_key part.key other.key part.bytes.now other.bytes.now part.spelled other.spelled c.if-self-other.false
