use Rattle.std.proofs.Common.{◌≡◌, ◌++◌, drop}
use Rattle.asn1_input.specs.Text.{base64_of_text}
use Rattle.asn1_input.proofs.digits.push_base64.Given as goal

-- what is taken, and the octets that are left, are all
abbrev pub invariant-loop-octet : goal.invariant-loop-octet
invariant-loop-octet l = l.digits.items ++ base64_of_text (drop l.octet-index l.text) ≡ l.initial.digits.items ++ base64_of_text l.text
