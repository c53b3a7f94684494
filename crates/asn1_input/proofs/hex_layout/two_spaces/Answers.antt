use Rattle.std.proofs.Common.{rules, ◌≡◌, ◌∙◌, ◌<◌, false, length, sym, arith}
use Rattle.asn1_input.proofs.HexPieces.{spaces_past}
use Rattle.asn1_input.proofs.hex_layout.two_spaces.Goals as goal

pub loop-index-preserved : goal.loop-index-preserved
loop-index-preserved c =
    let text = c.args.text.now in
    let i = c.loop-index.index in
    let within : i < length text = search rules in
    let other : c.starts_with.result ≡ false = search rules in
    omega (arith, c.loop-index.invariant, spaces_past i text within (sym c.starts_with.ensures.value ∙ other))
