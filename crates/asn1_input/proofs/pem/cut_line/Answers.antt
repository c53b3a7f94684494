use Rattle.std.proofs.Common.{rules, tests, ◌∙◌, ◌==◌, ◌-◌, ◌+◌, ◌∷◌, length, take, drop, ap, sym, arith, length-drop, subst}
use Rattle.std.proofs.lemmas.Iterator.{YieldsList-from_slice}
use Rattle.std.proofs.lemmas.Iterator.Search.{position_from_yields_List}
use Rattle.std.proofs.lemmas.List.{take_all}
use Rattle.asn1_input.specs.Blocks.{lines_of}
use Rattle.asn1_input.proofs.Cut.{IsFirstEnd, cut_lines, last_line}
use Rattle.asn1_input.proofs.pem.cut_line.Goals as goal

pub returns-in-Some-clause-lines : goal.returns-in-Some-clause-lines
returns-in-Some-clause-lines c =
    let text = c.args.text.now in
    let n = c.in-Some.end in
    let first : IsFirstEnd text c.position.result =
    position_from_yields_List (λ x. x == 10) _ _ c.position.result c.position.ensures.ran (YieldsList-from_slice text c.iter.ensures.rest)
    (λ x b q k. search (rules, tests)) in
    cut_lines text n (subst (IsFirstEnd text) c.in-Some.is first)
    ∙ ap (λ z. take n text ∷ lines_of z) (sym (take_all (length text - (n + 1)) (drop (n + 1) text) (omega (arith, length-drop (n + 1) text))))

pub returns-in-None-clause-lines : goal.returns-in-None-clause-lines
returns-in-None-clause-lines c =
    let text = c.args.text.now in
    let first : IsFirstEnd text c.position.result =
    position_from_yields_List (λ x. x == 10) _ _ c.position.result c.position.ensures.ran (YieldsList-from_slice text c.iter.ensures.rest)
    (λ x b q k. search (rules, tests)) in
    last_line text (subst (IsFirstEnd text) c.in-None.is first)
