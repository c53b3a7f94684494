use Rattle.std.proofs.Common.{◌≡◌, ◌∙◌, ◌∷◌, ◌++◌, ap, length, sym}
use Rattle.asn1_input.specs.Hex.{bare_pieces, pieces_left, pieces_of}
use Rattle.asn1_input.proofs.HexPieces.{aligned, joined_on, nothing_after}
use Rattle.asn1_input.proofs.hex_layout.bare_text.Goals as goal

pub loop-left-preserved : goal.loop-left-preserved
loop-left-preserved c =
    let layout = c.args.layout in
    let piece = c.cut_piece.result.0.now in
    let after = c.cut_piece.result.1 in
    let old = c.loop-left.bare.items in
    let whole = bare_pieces layout (pieces_of layout c.args.text.now) in
    let e : pieces_left layout c.loop-left.left ≡ piece ∷ pieces_left layout after = ap (pieces_left layout) c.in-Some.is ∙ c.cut_piece.ensures.pieces in
    let all : old ++ bare_pieces layout (piece ∷ pieces_left layout after) ≡ whole =
    ap (λ z. old ++ bare_pieces layout z) (sym e) ∙ c.loop-left.invariant in
    joined_on layout old c.push_piece.new.bare.items c.push_separator.new.bare.items whole piece after c.in_ok-push_piece.ensures
    c.in_ok-push_separator.ensures all

pub returns-clause-bare : goal.returns-clause-bare
returns-clause-bare c =
    let layout = c.args.layout in
    let items = c.loop-left.bare.items in
    sym (nothing_after items) ∙ ap (λ z. items ++ bare_pieces layout (pieces_left layout z)) (sym c.in_default.is) ∙ c.loop-left.invariant

pub returns-clause-aligned : goal.returns-clause-aligned
returns-clause-aligned c =
    let layout = c.args.layout in
    let items = c.loop-left.bare.items in
    let all : items ≡ bare_pieces layout (pieces_of layout c.args.text.now) =
    sym (nothing_after items) ∙ ap (λ z. items ++ bare_pieces layout (pieces_left layout z)) (sym c.in_default.is) ∙ c.loop-left.invariant in
    ap length all ∙ aligned layout c.args.text.now
