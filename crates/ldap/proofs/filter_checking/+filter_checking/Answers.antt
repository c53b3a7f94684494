use Rattle.std.proofs.Common.{◌≡◌, ◌↔◌, IsTrue, length, nat_lt, true, arith, subst}
use Rattle.std.specs.List.{AllByRecursion}
use Rattle.yasna_notation.specs.declared.choices.Either.TheVariants.{First, Second}
use Rattle.ldap.specs.Filters.{the_filter, depth_of}
use Rattle.ldap.proofs.FilterWriting.{in_and, in_or, in_not, in_item, parts_tested, within_largest}
use Rattle.ldap.proofs.filter_checking.+filter_checking.Goals as goal

pub accepts_each-accepts_filter-requires : goal.accepts_each-accepts_filter-requires
accepts_each-accepts_filter-requires t c =
    let deep = within_largest depth_of c.args.filters.now c.loop-filter.filter-index c.filter-item.result c.loop-filter-test.true c.filter-item.is in
    (omega (arith, deep, c.decreases), tt)

pub accepts_filter-returns-in-And : goal.accepts_filter-returns-in-And
accepts_filter-returns-in-And t c =
    let v = c.args.value.now in
    let fs = c.in-And.filters in
    parts_tested v (First fs) (in_and v fs c.in-And.is) c.accepts_group.result
    (subst (λ vs. IsTrue c.accepts_group.result ↔ (AllByRecursion the_filter.can vs × (nat_lt 0 (length vs) ≡ true))) c.as_slice.ensures.value
    c.accepts_group.ensures)

pub accepts_filter-returns-in-Or : goal.accepts_filter-returns-in-Or
accepts_filter-returns-in-Or t c =
    let v = c.args.value.now in
    let fs = c.in-Or.filters in
    parts_tested v (Second (First fs)) (in_or v fs c.in-Or.is) c.accepts_group-in-Or.result
    (subst (λ vs. IsTrue c.accepts_group-in-Or.result ↔ (AllByRecursion the_filter.can vs × (nat_lt 0 (length vs) ≡ true)))
    c.as_slice-in-Or.ensures.value c.accepts_group-in-Or.ensures)

pub accepts_filter-returns-in-Not : goal.accepts_filter-returns-in-Not
accepts_filter-returns-in-Not t c =
    let v = c.args.value.now in
    let f = c.in-Not.negated in
    parts_tested v (Second (Second (First f))) (in_not v f c.in-Not.is) c.accepts_filter.result
    (subst (λ z. IsTrue c.accepts_filter.result ↔ the_filter.can z) c.deref.ensures c.accepts_filter.ensures)

pub accepts_filter-returns-in-Item : goal.accepts_filter-returns-in-Item
accepts_filter-returns-in-Item t c =
    let v = c.args.value.now in
    let i = c.in-Item.item in
    parts_tested v (Second (Second (Second i))) (in_item v i c.in-Item.is) c.accepts.result c.accepts.ensures
