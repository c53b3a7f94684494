use Rattle.std.proofs.Common.{◌≡◌, ◌∙◌, false, true, sym}
use Rattle.asn1show_printer.proofs.Pieces.{cut_first, cut_next, cut_not, cut_end, cut_once, cut_none, piece_shorter}
use Rattle.asn1show_printer.proofs.sets.are_cer_segments.Goals as goal

pub loop-next-init : goal.loop-next-init
loop-next-init c = cut_first c.args.contents.now _ _ (c.in-Some.ensures {u = tt})

pub loop-next-smaller : goal.loop-next-smaller
loop-next-smaller c = piece_shorter _ _ _ (c.in-Some-first_element.ensures {u = tt})

pub loop-next-preserved : goal.loop-next-preserved
loop-next-preserved c =
    cut_next c.args.contents.now _ _ _ _ _ c.loop-next.invariant (c.in-Some-first_element.ensures {u = tt})
    (c.is_full.ensures.0 c.if-not-is_full.false)

pub returns-then-not-is_full : goal.returns-then-not-is_full
returns-then-not-is_full c =
    cut_not c.args.contents.now _ _ _ _ _ c.loop-next.invariant (c.in-Some-first_element.ensures {u = tt})
    (λ full. let e : false ≡ true = sym c.if-not-is_full.true ∙ c.is_full.ensures.1 full in absurd (cc))

pub returns-then-not-is_cut : goal.returns-then-not-is_cut
returns-then-not-is_cut c = cut_once c.args.contents.now _ _ _ c.loop-next.invariant (c.in_default-first_element.ensures {u = tt}) c.if-not-is_cut.true

pub returns : goal.returns
returns c =
    cut_end c.args.contents.now _ _ _ _ c.loop-next.invariant (c.in_default-first_element.ensures {u = tt}) c.if-not-is_cut.false c.is_last.ensures

pub returns-in_default : goal.returns-in_default
returns-in_default c = cut_none c.args.contents.now (c.in_default.ensures {u = tt})
