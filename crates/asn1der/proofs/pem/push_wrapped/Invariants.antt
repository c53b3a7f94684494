use Rattle.std.proofs.Common.{◌≡◌, ◌++◌, ◌≤◌, drop}
use Rattle.asn1der.specs.Pem.{wrapped}
use Rattle.asn1der.proofs.pem.push_wrapped.Given as goal

-- what is written, and the characters that are left, are all
abbrev pub invariant-loop-octet : goal.invariant-loop-octet
invariant-loop-octet l = (l.out.items ++ wrapped l.column (drop l.octet-index l.text) ≡ l.initial.out.items ++ wrapped 0 l.text) × (l.column ≤ 64)
