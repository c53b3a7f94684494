use Rattle.asn1_types.proofs.Meaning.{as_alternative}
use Rattle.asn1_types.proofs.types.selected.Goals as goal

pub returns-in-Some : goal.returns-in-Some
returns-in-Some c =
    as_alternative c.args.r.now.scope.modules.now c.args.r.now.scope.known.now c.args.choice.«module» c.in_ok-found.found.«module» c.inside.result.«module»
    c.args.choice.notation.now c.in_ok-found.found.notation.now c.in-Some.notation.now c.inside.result.notation.now c.in-Constructed.word
    c.in-Constructed.components c.as_slice.result.now c.args.name c.is.result c.in_ok-found.ensures c.in-Constructed.is c.is.ensures c.if-not-is.false
    c.as_slice.ensures.value (c.in-Some.ensures {u = tt}) c.inside.ensures.«module» c.inside.ensures.notation
