use Rattle.std.proofs.Common.{◌≡◌, subst, sym}
use Rattle.asn1_types.specs.Trees.{IsWithin, itself, past_constraints}
use Rattle.asn1_types.proofs.cores.unconstrained.Goals as goal
use Rattle.asn1_syntax.specs.declared.tree.TypeNotation.{TypeNotation}

pub loop-at-init : goal.loop-at-init
loop-at-init c = itself

pub loop-at-preserved : goal.loop-at-preserved
loop-at-preserved c =
    let at_inner : c.deref-at.result.now ≡ c.in-Constrained.inner.value = cc (c.deref-at.ensures) in
    subst (λ (u : TypeNotation). IsWithin c.args.notation.now u) (sym at_inner) (past_constraints c.loop-at.invariant c.in-Constrained.is)
