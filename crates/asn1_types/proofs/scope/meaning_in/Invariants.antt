use Rattle.asn1_types.specs.declared.scope.Meaning.{Meaning}
use Rattle.asn1_types.specs.Names.{Means}
use Rattle.asn1_types.proofs.scope.meaning_in.Given as goal

abbrev pub invariant-loop : goal.invariant-loop
invariant-loop l = (x : Meaning) → Means l.scope.modules.now l.scope.known.now l.name.text.now l.at x →
    Means l.scope.modules.now l.scope.known.now l.name.text.now l.«module» x
