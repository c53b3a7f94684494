use Rattle.std.proofs.Common.{◌≤◌, ◌<◌, length, rules}
use Rattle.asn1_types.proofs.Numerals.{as_digits, as_named, as_negative, as_value}
use Rattle.asn1_types.proofs.values.integer_value.Goals as goal

pub returns-in-len1 : goal.returns-in-len1
returns-in-len1 c =
    as_value c.args.scope.modules.now c.args.scope.known.now c.args.«module» c.literal.result
    (as_digits c.args.scope.modules.now c.args.scope.known.now c.loop.at.«module» c.loop.at.value.now _ c.literal.result c.in-len1.len_at_least
    c.in-len1.len_below c.literal.ensures) c.loop.invariant

pub returns-in-len2 : goal.returns-in-len2
returns-in-len2 c =
    let low : 2 ≤ length c.loop.at.value.now = search rules in
    let high : length c.loop.at.value.now < 3 = search rules in
    as_value c.args.scope.modules.now c.args.scope.known.now c.args.«module» c.literal-in-len2.result
    (as_negative c.args.scope.modules.now c.args.scope.known.now c.loop.at.«module» c.loop.at.value.now _ c.is.result c.literal-in-len2.result low high
    c.is.ensures c.if-is.true c.literal-in-len2.ensures) c.loop.invariant

pub loop-preserved : goal.loop-preserved
loop-preserved c =
    λ x is. c.loop.invariant x
    (as_named c.args.scope.modules.now c.args.scope.known.now c.loop.at.«module» c.loop.at.value.now _ c.in-len1.len_at_least c.in-len1.len_below
    c.in_ok-at-in-len1-2.ensures x is)
