use Rattle.std.proofs.Common.{refl, sym}
use Rattle.asn1der_convert.proofs.Weaving.{no_size, size_of_first, not_before_first}
use Rattle.asn1der_convert.proofs.sorting.size_before.Goals as goal

pub returns-in_default : goal.returns-in_default
returns-in_default c = no_size c.args.key c.args.elements.now _ (c.in_default.ensures {u = tt})

pub returns-then-comes_before : goal.returns-then-comes_before
returns-then-comes_before c =
    size_of_first c.args.key c.args.elements.now _ _ _ _ (c.in-Some.ensures {u = tt}) (sym (c.if-comes_before.ensures {u = tt})) refl

pub returns-else-comes_before : goal.returns-else-comes_before
returns-else-comes_before c =
    not_before_first c.args.key c.args.elements.now _ _ _ (c.in-Some.ensures {u = tt}) (sym (c.if-comes_before.ensures {u = tt}))
