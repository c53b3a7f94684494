use Rattle.std.proofs.Common.{◌≡◌, ◌≤◌, ◌+◌, ◌-◌, ◌++◌, ◌∷◌, [], None, length, map, rules, arith, ap, sym, subst, ◌∙◌}
use Rattle.std.proofs.lemmas.List.{append-nil, nil_from_length}
use Rattle.std.specs.List.{AllByRecursion}
use Rattle.yasna_base.specs.declared.tag.Tag.{Tag}
use Rattle.yasna_base.specs.AnyOrder.{sorted_set_of_encoding}
use Rattle.yasna_base.specs.Canonical.{enclosed_encoding}
use Rattle.yasna_base.specs.Identifier.{context, tag_or}
use Rattle.yasna_base.specs.SequenceOf.{elements_encoding}
use Rattle.yasna_base.specs.SetWriting.{in_encoding_order}
use Rattle.yasna_writer.specs.Prepend.{Prepends, with_prefix}
use Rattle.yasna_writer.specs.PartOrder.{OrdersParts, AreLengths, part_lens}
use Rattle.yasna_writer.proofs.PartOrders.{part_noted, encodings_begin, values_ordered}
use Rattle.yasna_writer.proofs.Prepends.{item_prepended, all_before_last, element_prepended}
use Rattle.yasna_notation.specs.declared.choices.Either.TheVariants.{First, Second}
use Rattle.ldap.specs.Filters.{the_filter, depth_of, largest}
use Rattle.ldap.proofs.FilterWriting.{in_and, in_or, in_not, in_item, parts_can, parts_deep, parts_prepended, all_within_largest}
use Rattle.ldap.proofs.filter_prepending.+filter_prepending.Goals as goal

pub prepend_filter-prepend_group-requires : goal.prepend_filter-prepend_group-requires
prepend_filter-prepend_group-requires t c =
    let v = c.args.value.now in
    let fs = c.in-And.filters in
    let is = in_and v fs c.in-And.is in
    let d = parts_deep v (First fs) is in
    let same = c.as_slice.ensures.value in (
      omega (arith, d, c.decreases, ap (λ z. largest (map depth_of z)) same),
      subst (λ z. AllByRecursion the_filter.can z) (sym same) (parts_can v (First fs) is c.requires).0,
    )

pub prepend_filter-prepend_group-requires-in-Or : goal.prepend_filter-prepend_group-requires-in-Or
prepend_filter-prepend_group-requires-in-Or t c =
    let v = c.args.value.now in
    let fs = c.in-Or.filters in
    let is = in_or v fs c.in-Or.is in
    let d = parts_deep v (Second (First fs)) is in
    let same = c.as_slice-in-Or.ensures.value in (
      omega (arith, d, c.decreases, ap (λ z. largest (map depth_of z)) same),
      subst (λ z. AllByRecursion the_filter.can z) (sym same) (parts_can v (Second (First fs)) is c.requires).0,
    )

pub prepend_filter-prepend_negated-requires : goal.prepend_filter-prepend_negated-requires
prepend_filter-prepend_negated-requires t c =
    let v = c.args.value.now in
    let f = c.in-Not.negated in
    let is = in_not v f c.in-Not.is in
    let d = parts_deep v (Second (Second (First f))) is in (
      omega (arith, d, c.decreases, ap depth_of c.deref.ensures),
      subst (λ z. the_filter.can z) (sym c.deref.ensures) (parts_can v (Second (Second (First f))) is c.requires),
    )

pub prepend_filter-prepend-requires : goal.prepend_filter-prepend-requires
prepend_filter-prepend-requires t c =
    let v = c.args.value.now in
    let i = c.in-Item.item in
    parts_can v (Second (Second (Second i))) (in_item v i c.in-Item.is) c.requires

pub prepend_filter-returns-in-And : goal.prepend_filter-returns-in-And
prepend_filter-returns-in-And t c =
    let v = c.args.value.now in
    let fs = c.in-And.filters in
    let old = c.args.out.now in
    let new = c.prepend_group.new.out in
    let r = c.prepend_group.result in
    let tag : c.unwrap_or.result ≡ tag_or c.args.under (context 0) = search rules in
    parts_prepended v (First fs) (in_and v fs c.in-And.is) c.args.under old new r
    (subst (λ (u : Tag). Prepends (sorted_set_of_encoding (the_filter.encoding_under None) u old.mode fs.items) old new r) tag
    (subst (λ vs. Prepends (sorted_set_of_encoding (the_filter.encoding_under None) c.unwrap_or.result old.mode vs) old new r)
    c.as_slice.ensures.value c.prepend_group.ensures))

pub prepend_filter-returns-in-Or : goal.prepend_filter-returns-in-Or
prepend_filter-returns-in-Or t c =
    let v = c.args.value.now in
    let fs = c.in-Or.filters in
    let old = c.args.out.now in
    let new = c.prepend_group-in-Or.new.out in
    let r = c.prepend_group-in-Or.result in
    let tag : c.unwrap_or-in-Or.result ≡ tag_or c.args.under (context 1) = search rules in
    parts_prepended v (Second (First fs)) (in_or v fs c.in-Or.is) c.args.under old new r
    (subst (λ (u : Tag). Prepends (sorted_set_of_encoding (the_filter.encoding_under None) u old.mode fs.items) old new r) tag
    (subst (λ vs. Prepends (sorted_set_of_encoding (the_filter.encoding_under None) c.unwrap_or-in-Or.result old.mode vs) old new r)
    c.as_slice-in-Or.ensures.value c.prepend_group-in-Or.ensures))

pub prepend_filter-returns-in-Not : goal.prepend_filter-returns-in-Not
prepend_filter-returns-in-Not t c =
    let v = c.args.value.now in
    let f = c.in-Not.negated in
    let old = c.args.out.now in
    let new = c.prepend_negated.new.out in
    let r = c.prepend_negated.result in
    let tag : c.unwrap_or-in-Not.result ≡ tag_or c.args.under (context 2) = search rules in
    parts_prepended v (Second (Second (First f))) (in_not v f c.in-Not.is) c.args.under old new r
    (subst (λ (u : Tag). Prepends (enclosed_encoding (the_filter.encoding_under None) u old.mode f.value) old new r) tag
    (subst (λ z. Prepends (enclosed_encoding (the_filter.encoding_under None) c.unwrap_or-in-Not.result old.mode z) old new r)
    c.deref.ensures c.prepend_negated.ensures))

pub prepend_filter-returns-in-Item : goal.prepend_filter-returns-in-Item
prepend_filter-returns-in-Item t c =
    let v = c.args.value.now in
    let i = c.in-Item.item in
    parts_prepended v (Second (Second (Second i))) (in_item v i c.in-Item.is) c.args.under c.args.out.now c.prepend.new.out c.prepend.result c.prepend.ensures

pub prepend_negated-returns : goal.prepend_negated-returns
prepend_negated-returns t c =
    let begun = c.in_ok-after.ensures {u = tt} in
    element_prepended c.args.tag (λ m. the_filter.encoding_under None m c.args.negated.now) c.args.out.now c.begin_contents.new.self
    c.prepend_filter.new.out c.enclose.new.self c.in_ok-after.after c.enclose.result begun.0 begun.1 (c.in_ok-prepend_filter.ensures {u = tt})
    c.enclose.ensures

pub prepend_group-returns : goal.prepend_group-returns
prepend_group-returns t c =
    let begun = c.in_ok-after.ensures {u = tt} in
    let encoding = the_filter.encoding_under None in
    element_prepended c.args.tag (λ m. elements_encoding encoding m (in_encoding_order encoding m c.args.filters.now)) c.args.out.now c.begin_contents.new.self
    c.prepend_ordered.new.out c.enclose.new.self c.in_ok-after.after c.enclose.result begun.0 begun.1 (c.in_ok-prepend_ordered.ensures {u = tt})
    c.enclose.ensures

pub prepend_ordered-order_parts-requires : goal.prepend_ordered-order_parts-requires
prepend_ordered-order_parts-requires t c =
    let encoding = the_filter.encoding_under None in
    let old = c.args.out.now in
    let mid = c.prepend_elements.new.out in
    let made = c.in_ok-lens.ensures {u = tt} in
    subst (λ ns. AreLengths ns mid.bytes) (sym c.deref.ensures.value)
    (map (encoding old.mode) c.args.filters.now, old.bytes, encodings_begin encoding c.args.filters.now old mid c.in_ok-lens.lens.items made.0 made.1)

pub prepend_ordered-returns : goal.prepend_ordered-returns
prepend_ordered-returns t c =
    let made = c.in_ok-lens.ensures {u = tt} in
    values_ordered (the_filter.encoding_under None) c.args.filters.now c.args.out.now c.prepend_elements.new.out c.order_parts.new.self c.in_ok-lens.lens.items
    c.order_parts.result made.0 made.1
    (subst (λ ns. OrdersParts ns c.prepend_elements.new.out c.order_parts.new.self c.order_parts.result) c.deref.ensures.value c.order_parts.ensures)

pub prepend_elements-loop-last-init : goal.prepend_elements-loop-last-init
prepend_elements-loop-last-init t c =
    let none : c.in_ok-lens.lens.items ≡ [] = search rules in
    record {
      can = c.requires;
      deep = all_within_largest depth_of c.args.filters.now;
      all = search rules;
      noted = search rules;
    }

pub prepend_elements-prepend_filter-requires : goal.prepend_elements-prepend_filter-requires
prepend_elements-prepend_filter-requires t c =
    let rest = c.loop-last.rest.now in
    let others = c.in-Some.others.now in
    let last = c.in-Some.last.now in
    let split = c.in-Some.ensures.cases.0 in
    let deep = (all_before_last (λ f. depth_of f ≤ largest (map depth_of c.args.filters.now)) rest others last split c.loop-last.invariant.deep).1 in (
      omega (arith, deep, c.decreases),
      (all_before_last the_filter.can rest others last split c.loop-last.invariant.can).1,
    )

pub prepend_elements-loop-last-preserved : goal.prepend_elements-loop-last-preserved
prepend_elements-loop-last-preserved t c =
    let encoding = the_filter.encoding_under None in
    let rest = c.loop-last.rest.now in
    let others = c.in-Some.others.now in
    let last = c.in-Some.last.now in
    let split = c.in-Some.ensures.cases.0 in
    let old = c.loop-last.out in
    let new = c.prepend_filter.new.out in
    let lens = c.loop-last.lens.items in
    let prepended = c.in_ok-prepend_filter.ensures {u = tt} in
    let pushed : c.push.new.self.items ≡ lens ++ (length new.bytes - length old.bytes) ∷ [] = search rules in
    record {
      can = (all_before_last the_filter.can rest others last split c.loop-last.invariant.can).0;
      deep = (all_before_last (λ f. depth_of f ≤ largest (map depth_of c.args.filters.now)) rest others last split c.loop-last.invariant.deep).0;
      all = item_prepended encoding rest others last old new _ split prepended c.loop-last.invariant.all;
      noted = ap (λ ns. ns ++ part_lens encoding new.mode others) pushed
          ∙ part_noted encoding rest others last old new lens _ split prepended c.loop-last.invariant.noted;
    }

pub prepend_elements-returns : goal.prepend_elements-returns
prepend_elements-returns t c =
    let encoding = the_filter.encoding_under None in
    let old = c.args.out.now in
    let out = c.loop-last.out in
    let lens = c.loop-last.lens.items in
    let none : c.loop-last.rest.now ≡ [] = nil_from_length c.loop-last.rest.now (search rules) in (
      subst (λ vs. with_prefix (elements_encoding encoding out.mode vs) out ≡ with_prefix (elements_encoding encoding old.mode c.args.filters.now) old) none
          c.loop-last.invariant.all,
      sym (append-nil lens)
          ∙ subst (λ vs. lens ++ part_lens encoding out.mode vs ≡ part_lens encoding old.mode c.args.filters.now) none c.loop-last.invariant.noted,
    )
