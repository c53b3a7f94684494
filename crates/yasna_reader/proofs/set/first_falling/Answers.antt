use Rattle.std.proofs.Common.{arith, sym, ◌∙◌}
use Rattle.yasna_reader.proofs.SetListing.{ascend_more_at, ascend_not_at}
use Rattle.yasna_reader.proofs.set.first_falling.Goals as goal

pub returns-then-tag_goes_before : goal.returns-then-tag_goes_before
returns-then-tag_goes_before c =
    ascend_not_at c.args.list.now c.loop-place.place _ _ c.loop-place.invariant.0 (omega arith)
    (sym c.tag_goes_before.ensures ∙ c.if-tag_goes_before.true)

pub loop-place-preserved : goal.loop-place-preserved
loop-place-preserved c = (
  omega arith,
  ascend_more_at c.args.list.now c.loop-place.place _ _ c.loop-place.invariant.0 (omega arith) c.loop-place.invariant.1
      (sym c.tag_goes_before.ensures ∙ c.if-tag_goes_before.false),
)
