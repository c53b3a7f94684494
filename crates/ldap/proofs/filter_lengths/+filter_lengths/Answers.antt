use Rattle.std.proofs.Common.{◌≡◌, None, length, map, rules, arith, ap, sym, subst, ◌∙◌}
use Rattle.std.specs.List.{AllByRecursion}
use Rattle.std.proofs.lemmas.List.{take_all}
use Rattle.yasna_base.specs.declared.tag.Tag.{Tag}
use Rattle.yasna_base.specs.AnyOrder.{sorted_set_of_encoding}
use Rattle.yasna_base.specs.Canonical.{enclosed_encoding}
use Rattle.yasna_base.specs.Identifier.{context, tag_or}
use Rattle.yasna_base.specs.Order.{octets_cmp}
use Rattle.yasna_base.specs.SequenceOf.{elements_encoding}
use Rattle.yasna_base.specs.SetWriting.{in_encoding_order}
use Rattle.yasna_writer.specs.Prepend.{KnownLength}
use Rattle.yasna_writer.proofs.KnownLengths.{items_length_more, in_order_length}
use Rattle.yasna_notation.specs.declared.choices.Either.TheVariants.{First, Second}
use Rattle.ldap.specs.Filters.{the_filter, depth_of, largest}
use Rattle.ldap.proofs.FilterWriting.{in_and, in_or, in_not, in_item, parts_can, parts_deep, parts_known, within_largest, so_of_item}
use Rattle.ldap.proofs.filter_lengths.+filter_lengths.Goals as goal

pub filter_len-group_len-requires : goal.filter_len-group_len-requires
filter_len-group_len-requires t c =
    let v = c.args.value.now in
    let fs = c.in-And.filters in
    let is = in_and v fs c.in-And.is in
    let d = parts_deep v (First fs) is in
    let same = c.as_slice.ensures.value in (
      omega (arith, d, c.decreases, ap (λ z. largest (map depth_of z)) same),
      subst (λ z. AllByRecursion the_filter.can z) (sym same) (parts_can v (First fs) is c.requires).0,
    )

pub filter_len-group_len-requires-in-Or : goal.filter_len-group_len-requires-in-Or
filter_len-group_len-requires-in-Or t c =
    let v = c.args.value.now in
    let fs = c.in-Or.filters in
    let is = in_or v fs c.in-Or.is in
    let d = parts_deep v (Second (First fs)) is in
    let same = c.as_slice-in-Or.ensures.value in (
      omega (arith, d, c.decreases, ap (λ z. largest (map depth_of z)) same),
      subst (λ z. AllByRecursion the_filter.can z) (sym same) (parts_can v (Second (First fs)) is c.requires).0,
    )

pub filter_len-negated_len-requires : goal.filter_len-negated_len-requires
filter_len-negated_len-requires t c =
    let v = c.args.value.now in
    let f = c.in-Not.negated in
    let is = in_not v f c.in-Not.is in
    let d = parts_deep v (Second (Second (First f))) is in (
      omega (arith, d, c.decreases, ap depth_of c.deref.ensures),
      subst (λ z. the_filter.can z) (sym c.deref.ensures) (parts_can v (Second (Second (First f))) is c.requires),
    )

pub filter_len-encoded_len-requires : goal.filter_len-encoded_len-requires
filter_len-encoded_len-requires t c =
    let v = c.args.value.now in
    let i = c.in-Item.item in
    parts_can v (Second (Second (Second i))) (in_item v i c.in-Item.is) c.requires

pub filter_len-returns-in-And : goal.filter_len-returns-in-And
filter_len-returns-in-And t c =
    let v = c.args.value.now in
    let fs = c.in-And.filters in
    let m = c.args.mode in
    let tag : c.unwrap_or.result ≡ tag_or c.args.under (context 0) = search rules in
    parts_known v (First fs) (in_and v fs c.in-And.is) c.args.under m c.group_len.result
    (subst (λ (u : Tag). KnownLength (sorted_set_of_encoding (the_filter.encoding_under None) u m fs.items) c.group_len.result) tag
    (subst (λ vs. KnownLength (sorted_set_of_encoding (the_filter.encoding_under None) c.unwrap_or.result m vs) c.group_len.result)
    c.as_slice.ensures.value c.group_len.ensures))

pub filter_len-returns-in-Or : goal.filter_len-returns-in-Or
filter_len-returns-in-Or t c =
    let v = c.args.value.now in
    let fs = c.in-Or.filters in
    let m = c.args.mode in
    let tag : c.unwrap_or-in-Or.result ≡ tag_or c.args.under (context 1) = search rules in
    parts_known v (Second (First fs)) (in_or v fs c.in-Or.is) c.args.under m c.group_len-in-Or.result
    (subst (λ (u : Tag). KnownLength (sorted_set_of_encoding (the_filter.encoding_under None) u m fs.items) c.group_len-in-Or.result) tag
    (subst (λ vs. KnownLength (sorted_set_of_encoding (the_filter.encoding_under None) c.unwrap_or-in-Or.result m vs) c.group_len-in-Or.result)
    c.as_slice-in-Or.ensures.value c.group_len-in-Or.ensures))

pub filter_len-returns-in-Not : goal.filter_len-returns-in-Not
filter_len-returns-in-Not t c =
    let v = c.args.value.now in
    let f = c.in-Not.negated in
    let m = c.args.mode in
    let tag : c.unwrap_or-in-Not.result ≡ tag_or c.args.under (context 2) = search rules in
    parts_known v (Second (Second (First f))) (in_not v f c.in-Not.is) c.args.under m c.negated_len.result
    (subst (λ (u : Tag). KnownLength (enclosed_encoding (the_filter.encoding_under None) u m f.value) c.negated_len.result) tag
    (subst (λ z. KnownLength (enclosed_encoding (the_filter.encoding_under None) c.unwrap_or-in-Not.result m z) c.negated_len.result)
    c.deref.ensures c.negated_len.ensures))

pub filter_len-returns-in-Item : goal.filter_len-returns-in-Item
filter_len-returns-in-Item t c =
    let v = c.args.value.now in
    let i = c.in-Item.item in
    parts_known v (Second (Second (Second i))) (in_item v i c.in-Item.is) c.args.under c.args.mode c.encoded_len.result c.encoded_len.ensures

pub group_len-returns : goal.group_len-returns
group_len-returns t c =
    let m = c.args.mode in
    let encoding = the_filter.encoding_under None in
    let vs = c.args.filters.now in
    c.constructed_len.ensures (elements_encoding encoding m (in_encoding_order encoding m vs))
    (c.in_ok-filters_len.ensures {u = tt} ∙ sym (in_order_length (encoding m) (λ v w. octets_cmp (encoding m v) (encoding m w)) vs))

pub filters_len-filter_len-requires : goal.filters_len-filter_len-requires
filters_len-filter_len-requires t c =
    let deep = within_largest depth_of c.args.filters.now c.loop-filter.filter-index c.filter-item.result c.loop-filter-test.true c.filter-item.is in (
      omega (arith, deep, c.decreases),
      so_of_item the_filter.can c.args.filters.now c.loop-filter.filter-index c.filter-item.result c.requires c.loop-filter-test.true c.filter-item.is,
    )

pub filters_len-loop-filter-preserved : goal.filters_len-loop-filter-preserved
filters_len-loop-filter-preserved t c =
    let more = items_length_more (the_filter.encoding_under None c.args.mode) c.args.filters.now c.loop-filter.filter-index c.filter-item.result
    c.loop-filter-test.true c.filter-item.is in
    search (rules, more)

pub filters_len-returns : goal.filters_len-returns
filters_len-returns t c =
    c.loop-filter.invariant ∙ ap (λ vs. length (elements_encoding (the_filter.encoding_under None) c.args.mode vs))
    (take_all c.loop-filter.filter-index c.args.filters.now c.loop-filter-test.false)
