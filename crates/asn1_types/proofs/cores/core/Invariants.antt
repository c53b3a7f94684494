use Rattle.std.proofs.Common.{ℕ}
use Rattle.asn1_types.specs.Cores.{MeansType}
use Rattle.asn1_types.proofs.cores.core.Given as goal
use Rattle.asn1_syntax.specs.declared.tree.TypeNotation.{TypeNotation}

abbrev pub invariant-loop : goal.invariant-loop
invariant-loop l = (n : ℕ) (u : TypeNotation) → MeansType l.scope.modules.now l.scope.known.now l.at.«module» l.at.notation.now n u →
    MeansType l.scope.modules.now l.scope.known.now l.start.«module» l.start.notation.now n u
