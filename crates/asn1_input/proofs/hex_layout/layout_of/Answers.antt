use Rattle.std.proofs.Common.{◌∙◌, [], ap, get_or, sym}
use Rattle.asn1_input.specs.Blocks.{lines_of}
use Rattle.asn1_input.specs.Hex.{layout_of_line}
use Rattle.asn1_input.proofs.hex_layout.layout_of.Goals as goal

pub returns : goal.returns
returns c =
    let line = ap (λ z. get_or z 0 []) c.cut_line.ensures.lines in
    c.layout_of_line.ensures
    ∙ ap layout_of_line (sym line)
    ∙ ap (λ z. layout_of_line (get_or (lines_of z) 0 [])) c.unindented.ensures
