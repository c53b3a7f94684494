use Rattle.std.proofs.Common.{ap}
use Rattle.asn1_types.specs.declared.scope.Scope.{Scope}
use Rattle.asn1_types.proofs.Steps.{resolved_at_first}
use Rattle.asn1_types.proofs.modules.resolved.Goals as goal

pub loop-index-init : goal.loop-index-init
loop-index-init c = record {
  resolved = resolved_at_first c.in_ok-r.r c.in_ok-r.ensures.definitions c.in_ok-r.ensures.sets;
  modules = ap (λ (s : Scope). s.modules.now) c.in_ok-r.ensures.scope;
  known = ap (λ (s : Scope). s.known.now) c.in_ok-r.ensures.scope;
  incomplete = c.in_ok-r.ensures.incomplete;
}
