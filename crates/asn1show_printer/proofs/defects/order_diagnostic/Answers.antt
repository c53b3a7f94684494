use Rattle.std.proofs.Common.{sym, ◌∙◌}
use Rattle.std.proofs.lemmas.Result.{IfOk-weaker}
use Rattle.asn1show_printer.proofs.Modes.{order_primitive, order_in_set}
use Rattle.asn1show_printer.proofs.defects.order_diagnostic.Goals as goal

pub returns-in-Primitive : goal.returns-in-Primitive
returns-in-Primitive c = order_primitive c.args.item.now.bit c.args.kind c.args.item.now.contents.now c.in-Primitive.is

pub returns-then-is_set : goal.returns-then-is_set
returns-then-is_set c =
    let i = c.args.item.now in
    IfOk-weaker c.order_of.result _ _
    (λ said x. order_in_set i.bit c.args.kind i.contents.now said c.in-Constructed.is (sym c.is_set.ensures ∙ c.if-is_set.true) x) c.order_of.ensures
