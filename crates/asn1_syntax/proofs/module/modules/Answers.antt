use Rattle.std.proofs.Common.{refl, sym, ◌∙◌, ap}
use Rattle.asn1_syntax.specs.Tree.{modules_then, left}
use Rattle.asn1_syntax.proofs.Texts.{one_more_module}
use Rattle.asn1_syntax.proofs.module.modules.Goals as goal

pub loop-preserved : goal.loop-preserved
loop-preserved c =
    c.loop.invariant
    ∙ ap (modules_then c.loop.modules.items) c.in_ok-module.ensures
    ∙ sym (one_more_module c.loop.modules.items c.in_ok-module.module (left c.module.new.cursor))
    ∙ ap (λ l. modules_then l (left c.module.new.cursor)) (sym c.in_ok-push.ensures.items)

pub returns-then-is_at_end : goal.returns-then-is_at_end
returns-then-is_at_end c =
    c.loop.invariant
    ∙ ap (modules_then c.loop.modules.items) c.in_ok-module.ensures
    ∙ sym (one_more_module c.loop.modules.items c.in_ok-module.module (left c.module.new.cursor))
    ∙ ap (λ l. modules_then l (left c.module.new.cursor)) (sym c.in_ok-push.ensures.items)
    ∙ ap (modules_then c.push.new.self.items) (c.if-is_at_end.ensures refl)
