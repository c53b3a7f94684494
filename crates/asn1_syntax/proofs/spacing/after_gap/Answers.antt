use Rattle.std.proofs.Common.{sym}
use Rattle.asn1_syntax.proofs.Spacings.{longer_gap, spacing_shortens}
use Rattle.asn1_syntax.proofs.spacing.after_gap.Goals as goal

pub loop-more-smaller : goal.loop-more-smaller
loop-more-smaller c = spacing_shortens _ _ (sym c.in-Some.ensures)

pub loop-more-preserved : goal.loop-more-preserved
loop-more-preserved c = λ after gap. c.loop-more.invariant after (longer_gap _ _ after (sym c.in-Some.ensures) gap)
