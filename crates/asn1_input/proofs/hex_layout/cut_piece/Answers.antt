use Rattle.std.proofs.Common.{rules, tests, ◌∙◌, ◌-◌, ◌+◌, ◌∷◌, length, take, drop, ap, sym, arith, length-drop, subst}
use Rattle.std.proofs.lemmas.Iterator.{YieldsList-from_slice}
use Rattle.std.proofs.lemmas.Iterator.Search.{position_from_yields_List}
use Rattle.std.proofs.lemmas.List.{take_all}
use Rattle.asn1_input.specs.Hex.{ends_piece, pieces_of}
use Rattle.asn1_input.proofs.Cut.{Finds}
use Rattle.asn1_input.proofs.HexPieces.{cut_pieces, last_piece}
use Rattle.asn1_input.proofs.hex_layout.cut_piece.Goals as goal

pub returns-in-Some-clause-pieces : goal.returns-in-Some-clause-pieces
returns-in-Some-clause-pieces c =
    let text = c.args.text.now in
    let layout = c.args.layout in
    let n = c.in-Some.end in
    let first : Finds (ends_piece layout) text c.position.result =
    position_from_yields_List (ends_piece layout) _ _ c.position.result c.position.ensures.ran (YieldsList-from_slice text c.iter.ensures.rest)
    (λ x b q k. search (rules, tests)) in
    cut_pieces (ends_piece layout) text n (subst (Finds (ends_piece layout) text) c.in-Some.is first)
    ∙ ap (λ z. take n text ∷ pieces_of layout z) (sym (take_all (length text - (n + 1)) (drop (n + 1) text) (omega (arith, length-drop (n + 1) text))))

pub returns-in-None-clause-pieces : goal.returns-in-None-clause-pieces
returns-in-None-clause-pieces c =
    let text = c.args.text.now in
    let layout = c.args.layout in
    let first : Finds (ends_piece layout) text c.position.result =
    position_from_yields_List (ends_piece layout) _ _ c.position.result c.position.ensures.ran (YieldsList-from_slice text c.iter.ensures.rest)
    (λ x b q k. search (rules, tests)) in
    last_piece (ends_piece layout) text (subst (Finds (ends_piece layout) text) c.in-None.is first)
