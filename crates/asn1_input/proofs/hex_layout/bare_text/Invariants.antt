use Rattle.std.proofs.Common.{◌≡◌, ◌++◌}
use Rattle.asn1_input.specs.Hex.{bare_pieces, pieces_left, pieces_of}
use Rattle.asn1_input.proofs.Cut.{size_left}
use Rattle.asn1_input.proofs.hex_layout.bare_text.Given as goal

-- what is appended, and the pieces that are left, are all
abbrev pub invariant-loop-left : goal.invariant-loop-left
invariant-loop-left l = l.bare.items ++ bare_pieces l.layout (pieces_left l.layout l.left) ≡ bare_pieces l.layout (pieces_of l.layout l.text)

abbrev pub decreases-loop-left : goal.decreases-loop-left
decreases-loop-left l = size_left l.left
