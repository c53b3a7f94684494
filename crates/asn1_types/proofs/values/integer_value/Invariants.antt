use Rattle.asn1_types.specs.declared.model.Integer.{Integer}
use Rattle.asn1_types.specs.Values.{MeansInteger}
use Rattle.asn1_types.proofs.values.integer_value.Given as goal

abbrev pub invariant-loop : goal.invariant-loop
invariant-loop l = (x : Integer) → MeansInteger l.scope.modules.now l.scope.known.now x l.at.«module» l.at.value.now →
    MeansInteger l.scope.modules.now l.scope.known.now x l.«module» l.value
