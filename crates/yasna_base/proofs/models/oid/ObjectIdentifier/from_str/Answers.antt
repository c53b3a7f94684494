use Rattle.std.proofs.Common.{rules, inr}
use Rattle.yasna_base.proofs.OidText.{rest_more, rest_last, no_first, no_last, begins_more, begins_last}
use Rattle.yasna_base.proofs.models.oid.ObjectIdentifier.from_str.Goals as goal

pub returns-in-Err-clause-exact : goal.returns-in-Err-clause-exact
returns-in-Err-clause-exact c =
    let f = c.in-Some.ensures {u = tt} in
    let p = (c.in-Err.ensures {u = tt}).exact in
    λ e. no_first c.args.text.now c.loop-part.components.items c.loop-part.rest.now c.in-Some.part.now c.loop-part.invariant.1 f.0 f.1 (p e)

pub returns-in-Err-clause-memory : goal.returns-in-Err-clause-memory
returns-in-Err-clause-memory c =
    let f = c.in-Some.ensures {u = tt} in
    let p = (c.in-Err.ensures {u = tt}).memory in
    λ e. begins_more c.args.text.now c.loop-part.rest.now c.in-Some.part.now (p e).0 c.loop-part.invariant.2 f.0 f.1 (p e).1

pub loop-part-preserved : goal.loop-part-preserved
loop-part-preserved c =
    let f = c.in-Some.ensures {u = tt} in
    let p = (c.in_default-push_component.ensures {u = tt}).exact in
    let i = rest_more c.args.text.now c.loop-part.components.items c.loop-part.rest.now c.in-Some.part.now c.in-Some.further.now p.0
    c.loop-part.invariant.1 f.0 f.1 f.2 p.1 in
    let t = c.cut.type_inv in
    let a = c.cut.auto in
    (search rules, rw p.2 i, inr (begins_more c.args.text.now c.loop-part.rest.now c.in-Some.part.now p.0 c.loop-part.invariant.2 f.0 f.1 p.1))

pub returns-in-Ok-clause-exact : goal.returns-in-Ok-clause-exact
returns-in-Ok-clause-exact c =
    let f = c.in_default.ensures {u = tt} in
    let p = (c.in-Ok.ensures {u = tt}).exact in
    let i = rest_last c.args.text.now c.loop-part.components.items c.loop-part.rest.now p.0 c.loop-part.invariant.1 f p.1 in
    rw (c.new.ensures, p.2) i

pub returns-in-Err-push_component-clause-exact : goal.returns-in-Err-push_component-clause-exact
returns-in-Err-push_component-clause-exact c =
    let f = c.in_default.ensures {u = tt} in
    let p = (c.in-Err-push_component.ensures {u = tt}).exact in
    λ e. no_last c.args.text.now c.loop-part.components.items c.loop-part.rest.now c.loop-part.invariant.1 f (p e)

pub returns-in-Err-push_component-clause-memory : goal.returns-in-Err-push_component-clause-memory
returns-in-Err-push_component-clause-memory c =
    let f = c.in_default.ensures {u = tt} in
    let p = (c.in-Err-push_component.ensures {u = tt}).memory in
    λ e. begins_last c.args.text.now c.loop-part.rest.now (p e).0 c.loop-part.invariant.2 f (p e).1
