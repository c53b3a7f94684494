use Rattle.std.proofs.Common.{◌∙◌, ◌-◌, length, drop, ap, arith, length-drop}
use Rattle.std.proofs.lemmas.List.{take_all}
use Rattle.asn1_input.proofs.hex_layout.after_offset.Goals as goal

pub returns : goal.returns
returns c =
    let line = c.args.line.now in
    let n = c.offset_len.result in
    take_all (length line - n) (drop n line) (omega (arith, length-drop n line)) ∙ ap (λ k. drop k line) c.offset_len.ensures.count
