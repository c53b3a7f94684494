use Rattle.std.proofs.Common.{◌≡◌, ◌+◌, drop}
use Rattle.asn1_input.specs.Hex.{two_spaces}
use Rattle.asn1_input.proofs.hex_layout.two_spaces.Given as goal

-- there are none before the index
abbrev pub invariant-loop-index : goal.invariant-loop-index
invariant-loop-index l = two_spaces l.text ≡ l.index + two_spaces (drop l.index l.text)
