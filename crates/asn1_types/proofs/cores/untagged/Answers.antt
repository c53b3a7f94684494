use Rattle.std.proofs.Common.{◌≡◌, subst, sym}
use Rattle.asn1_types.specs.Trees.{IsWithin, itself, past_constraints, past_tag}
use Rattle.asn1_types.proofs.cores.untagged.Goals as goal
use Rattle.asn1_syntax.specs.declared.tree.TypeNotation.{TypeNotation}

pub loop-at-init : goal.loop-at-init
loop-at-init c = itself

pub loop-at-preserved-in-Tagged : goal.loop-at-preserved-in-Tagged
loop-at-preserved-in-Tagged c =
    let at_inner : c.deref.result.now ≡ c.in-Tagged.inner.value = cc (c.deref.ensures) in
    subst (λ (u : TypeNotation). IsWithin c.args.notation.now u) (sym at_inner) (past_tag c.loop-at.invariant c.in-Tagged.is)

pub loop-at-preserved : goal.loop-at-preserved
loop-at-preserved c =
    let at_inner : c.deref-in-Constrained.result.now ≡ c.in-Constrained.inner.value = cc (c.deref-in-Constrained.ensures) in
    subst (λ (u : TypeNotation). IsWithin c.args.notation.now u) (sym at_inner) (past_constraints c.loop-at.invariant c.in-Constrained.is)
