use Rattle.std.proofs.Common.{◌≡◌, ◌++◌, drop}
use Rattle.asn1_input.specs.Hex.{digits_of}
use Rattle.asn1_input.proofs.digits.push_digits.Given as goal

-- what is taken, and the digits that are left, are all
abbrev pub invariant-loop-octet : goal.invariant-loop-octet
invariant-loop-octet l = l.digits.items ++ digits_of (drop l.octet-index l.text) ≡ l.initial.digits.items ++ digits_of l.text
