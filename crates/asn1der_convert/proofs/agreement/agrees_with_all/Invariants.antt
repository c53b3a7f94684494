use Rattle.std.proofs.Common.{◌↔◌, drop}
use Rattle.asn1der_convert.specs.Agreement.{AgreesWithAll}
use Rattle.asn1der_convert.specs.Rows.{part_of}
use Rattle.asn1der_convert.proofs.agreement.agrees_with_all.Given as goal

abbrev pub invariant-loop-bounds : goal.invariant-loop-bounds
invariant-loop-bounds l = AgreesWithAll (part_of l.element) l.all ↔ AgreesWithAll (part_of l.element) (drop l.bounds-index l.all)
