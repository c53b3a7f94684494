use Rattle.std.proofs.Common.{◌≡◌, ◌++◌, drop}
use Rattle.asn1show_html.specs.Escape.{escaped}
use Rattle.asn1show_html.proofs.escape.push_octets.Given as goal

-- what is written, and the octets that are left, are all
abbrev pub invariant-loop-octet : goal.invariant-loop-octet
invariant-loop-octet l = l.html.items ++ escaped (drop l.octet-index l.text) ≡ l.initial.html.items ++ escaped l.text
