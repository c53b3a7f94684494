use Rattle.asn1_types.proofs.Layered.{constrained_goes, tagged_goes}
use Rattle.asn1_types.proofs.bodies.+push_layers.Goals as goal

pub returns-in_ok-push_layers-in-Tagged : goal.returns-in_ok-push_layers-in-Tagged
returns-in_ok-push_layers-in-Tagged t c =
    tagged_goes _ c.args.is_choice c.is_before_choice.result c.args.layers.now.items c.push.new.self.items c.push_layers.new.layers.items
    c.args.notation.now c.deref-in-Tagged.result.now c.deref.result.now c.in-Tagged.tag c.in-Tagged.inner c.in_ok-next-in-Tagged.next
    c.in-Tagged.is (cc (c.deref-in-Tagged.ensures)) (cc (c.deref.ensures)) c.in_ok-push-in-Tagged.ensures.items c.is_before_choice.ensures
    c.in_ok-next-in-Tagged.ensures (c.in_ok-push_layers-in-Tagged.ensures {u = tt})

pub returns-in_ok-push_layers-in-Constrained : goal.returns-in_ok-push_layers-in-Constrained
returns-in_ok-push_layers-in-Constrained t c =
    constrained_goes _ c.args.is_choice c.args.layers.now.items c.push_layers-in-Constrained.new.layers.items c.args.notation.now
    c.deref-in-Constrained.result.now c.in-Constrained.inner c.in-Constrained.field-1 c.in-Constrained.is (cc (c.deref-in-Constrained.ensures))
    (c.in_ok-push_layers-in-Constrained.ensures {u = tt})
