use Rattle.std.proofs.Common.{◌≡◌, ◌++◌}
use Rattle.std.specs.Prelude.{replicate}
use Rattle.asn1_input.proofs.hex_layout.push_copies.Given as goal

-- as many are appended as turns were taken
abbrev pub invariant-loop : goal.invariant-loop
invariant-loop l = l.bare.items ≡ l.initial.bare.items ++ replicate l.counter l.octet
