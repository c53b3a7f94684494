use Rattle.yasna.specs.base.Oid.{IsEncodableOid}
use Rattle.yasna_bench.proofs.oid.write_identifiers.Given as goal

abbrev pub invariant-loop : goal.invariant-loop
invariant-loop l = IsEncodableOid l.identifier
