use Rattle.std.proofs.Common.{◌↔◌, drop}
use Rattle.asn1show_printer.proofs.Components.{AreLeft, AreNumbers}
use Rattle.asn1show_printer.proofs.value.arcs.are_components.Given as goal

-- all are numbers exactly if those are that are left
abbrev pub invariant-loop-octet : goal.invariant-loop-octet
invariant-loop-octet l = AreNumbers l.contents ↔ AreLeft l.begins (drop l.octet-index l.contents)
