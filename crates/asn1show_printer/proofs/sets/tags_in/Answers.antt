use Rattle.std.proofs.Common.{subst, sym}
use Rattle.asn1show_printer.proofs.Pieces.{piece_shorter}
use Rattle.asn1show_printer.proofs.Tags.{TagsFrom, tags_first, tags_next, tags_end}
use Rattle.asn1show_printer.proofs.sets.tags_in.Goals as goal

pub loop-element-init : goal.loop-element-init
loop-element-init c = subst (TagsFrom c.args.contents.now c.args.contents.now) (sym c.new-tags.ensures.items) (tags_first c.args.contents.now)

pub loop-element-smaller : goal.loop-element-smaller
loop-element-smaller c = piece_shorter _ _ _ (c.in-Some.ensures {u = tt})

pub loop-element-preserved : goal.loop-element-preserved
loop-element-preserved c =
    subst (TagsFrom c.args.contents.now c.in-Some.rest.now) (sym (c.in_ok-push.ensures {u = tt}).items)
    (tags_next c.args.contents.now _ _ _ _ c.loop-element.invariant (c.in-Some.ensures {u = tt}))

pub returns : goal.returns
returns c = tags_end c.args.contents.now _ _ c.loop-element.invariant (c.in_default.ensures {u = tt})
