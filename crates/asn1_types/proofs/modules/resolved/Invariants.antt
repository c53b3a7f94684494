use Rattle.std.proofs.Common.{◌≡◌}
use Rattle.asn1_types.specs.Context.{context_of}
use Rattle.asn1_types.specs.Definitions.{AreResolved}
use Rattle.asn1_types.proofs.modules.resolved.Given as goal

abbrev pub invariant-loop-index : goal.invariant-loop-index
invariant-loop-index l = record {
  resolved : AreResolved (context_of l.r);
  modules : l.r.scope.modules.now ≡ l.scope.modules.now;
  known : l.r.scope.known.now ≡ l.scope.known.now;
  incomplete : l.r.is_incomplete ≡ l.is_incomplete;
}
