use Rattle.std.proofs.Common.{◌↔◌, drop}
use Rattle.asn1_contents.proofs.Subidentifiers.{AreLeft, AreNumbers}
use Rattle.asn1_contents.proofs.plain.are_subidentifiers.Given as goal

-- all are numbers exactly if those are that are left
abbrev pub invariant-loop-octet : goal.invariant-loop-octet
invariant-loop-octet l = AreNumbers l.contents ↔ AreLeft l.begins (drop l.octet-index l.contents)
