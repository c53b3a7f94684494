use Rattle.std.proofs.Common.{◌∙◌, sym, arith}
use Rattle.asn1_syntax.proofs.Spacings.{character_goes_on}
use Rattle.asn1_syntax.proofs.spacing.after_comment.Goals as goal

pub loop-more-preserved : goal.loop-more-preserved
loop-more-preserved c = record {
  same = sym (character_goes_on _ _ _ c.in-Character.ensures.value) ∙ c.loop-more.invariant.same;
  room = omega (arith, c.in-Character.ensures.shorter);
}
