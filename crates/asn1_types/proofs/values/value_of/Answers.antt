use Rattle.std.proofs.Common.{◌≡◌, Some, ap, refl, subst, sym}
use Rattle.asn1_types.specs.declared.scope.Meaning.{Meaning}
use Rattle.asn1_types.specs.Names.{Means}
use Rattle.asn1_types.specs.Values.{value_assigned}
use Rattle.asn1_types.proofs.values.value_of.Goals as goal
use Rattle.asn1_syntax.specs.declared.tree.Assignment.{Assignment}

pub returns-in-Some-Value : goal.returns-in-Some-Value
returns-in-Some-Value c = record {
  place = c.in-Assigned.place;
  means = subst (λ (x : Meaning). Means c.args.scope.modules.now c.args.scope.known.now c.args.name.text.now c.args.«module» x) c.in-Assigned.is
      (c.in_ok-place.ensures {u = tt});
  there = c.in-Some-Value.field-0.now;
  is = c.in-Some-Value.ensures {u = tt};
  assigns = subst (λ (a : Assignment). value_assigned a ≡ Some c.as_slice.result.now) (sym c.in-Some-Value.field-0-is)
      (ap Some (sym c.as_slice.ensures.value));
  at = refl;
}
