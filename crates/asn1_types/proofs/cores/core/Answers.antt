use Rattle.std.proofs.Common.{Option, subst}
use Rattle.std.specs.Option.{IfSome}
use Rattle.asn1_types.specs.declared.cores.TypeAt.{TypeAt}
use Rattle.asn1_types.specs.Cores.{IsNameOf, within}
use Rattle.asn1_types.proofs.Meaning.{means_name}
use Rattle.asn1_types.proofs.cores.core.Goals as goal

pub returns-then-not-is_reference : goal.returns-then-not-is_reference
returns-then-not-is_reference c = c.loop.invariant c.loop.at.«module» c.stripped-notation.result.now (within c.stripped-notation.ensures)

pub returns-in-None : goal.returns-in-None
returns-in-None c = c.loop.invariant c.loop.at.«module» c.stripped-notation.result.now (within c.stripped-notation.ensures)

pub loop-preserved : goal.loop-preserved
loop-preserved c =
    let names = subst (λ (found : Option TypeAt). IfSome found (λ next. IsNameOf c.args.scope.modules.now c.args.scope.known.now c.loop.at.«module»
    c.stripped-notation.result.now next.«module» next.notation.now)) c.in-Some.is c.in_ok-next.ensures in
    λ n u means. c.loop.invariant n u (means_name c.args.scope.modules.now c.args.scope.known.now c.stripped-notation.ensures names means)
