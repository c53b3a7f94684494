use Rattle.std.proofs.Common.{sym, ◌∙◌, ap, map}
use Rattle.asn1_syntax.specs.Tree.{component_texts, components_then, left}
use Rattle.asn1_syntax.proofs.Texts.{one_more_component}
use Rattle.asn1_syntax.proofs.types.+types.Goals as goal

pub components-loop-preserved : goal.components-loop-preserved
components-loop-preserved t c =
    c.loop.invariant
    ∙ ap (components_then (map component_texts c.loop.components.items)) c.in_ok-component.ensures
    ∙ sym (one_more_component c.loop.components.items c.in_ok-component.component (left c.component.new.cursor))
    ∙ ap (λ cs. components_then (map component_texts cs) (left c.component.new.cursor)) (sym c.in_ok-push.ensures.items)
