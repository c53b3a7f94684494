use Rattle.std.proofs.Common.{rules, ◌≡◌, ◌∙◌, ◌∷◌, ap, sym, subst}
use Rattle.asn1_input.specs.Blocks.{lines_left}
use Rattle.asn1_input.specs.Input.{HasBoundary}
use Rattle.asn1_input.proofs.Detected.{boundary_here, boundary_beyond, boundary_hidden, boundary_nowhere}
use Rattle.asn1_input.proofs.input_format.has_block.Goals as goal

pub returns-then-begins_as_block : goal.returns-then-begins_as_block
returns-then-begins_as_block c =
    let line = c.cut_line.result.0.now in
    let rest = lines_left c.cut_line.result.1 in
    let e : lines_left c.loop-left.left ≡ line ∷ rest = ap lines_left c.in-Some.is ∙ c.cut_line.ensures.lines in (
      λ u. c.loop-left.invariant.1 (subst HasBoundary (sym e)
          (boundary_here line rest (c.begins_as_block.ensures.0 (search rules)))),
      λ x. search rules,
    )

pub returns-then-not-is_text : goal.returns-then-not-is_text
returns-then-not-is_text c =
    let line = c.cut_line.result.0.now in
    let rest = lines_left c.cut_line.result.1 in
    let e : lines_left c.loop-left.left ≡ line ∷ rest = ap lines_left c.in-Some.is ∙ c.cut_line.ensures.lines in (
      λ u. absurd (cc),
      λ x. absurd (boundary_hidden line rest (λ begins. let w = c.begins_as_block.ensures.1 begins in absurd (cc))
          (λ text. let w = c.is_text.ensures.1 text in absurd (cc)) (subst HasBoundary e (c.loop-left.invariant.0 x))),
    )

pub loop-left-preserved : goal.loop-left-preserved
loop-left-preserved c =
    let line = c.cut_line.result.0.now in
    let rest = lines_left c.cut_line.result.1 in
    let e : lines_left c.loop-left.left ≡ line ∷ rest = ap lines_left c.in-Some.is ∙ c.cut_line.ensures.lines in
    let on = boundary_beyond line rest (λ begins. let w = c.begins_as_block.ensures.1 begins in absurd (cc))
    (c.is_text.ensures.0 (search rules)) in
    let i = c.loop-left.invariant in ((λ x. on.0 (subst HasBoundary e (i.0 x))), (λ x. i.1 (subst HasBoundary (sym e) (on.1 x))))

pub returns : goal.returns
returns c = (
  λ u. absurd (cc),
  λ x. absurd (boundary_nowhere (subst HasBoundary (ap lines_left c.in_default.is) (c.loop-left.invariant.0 x))),
)
