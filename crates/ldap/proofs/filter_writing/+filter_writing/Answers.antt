use Rattle.std.proofs.Common.{rules, arith, map, ap, sym, subst, None}
use Rattle.std.specs.List.{AllByRecursion}
use Rattle.yasna_base.specs.declared.tag.PCBit.TheVariants.{Constructed}
use Rattle.yasna_base.specs.Canonical.{canonical_element, enclosed_encoding}
use Rattle.yasna_base.specs.Identifier.{context, tag_or}
use Rattle.yasna_base.specs.Null.{null_tag, null_encoding}
use Rattle.yasna_writer.specs.View.{Writes, Written, Wrote}
use Rattle.yasna_notation.specs.declared.choices.Either.TheVariants.{First, Second}
use Rattle.yasna_notation.proofs.Around.{around_one}
use Rattle.yasna_notation.proofs.SetParts.{after_null}
use Rattle.ldap.specs.Filters.{the_filter, depth_of, largest}
use Rattle.ldap.specs.FilterLaws.{each_less}
use Rattle.ldap.proofs.FilterWriting.{in_and, in_or, in_not, in_item, parts_can, parts_deep, parts_written}
use Rattle.ldap.proofs.filter_writing.+filter_writing.Goals as goal

pub write_element-returns-in_ok-write_null-in-Err : goal.write_element-returns-in_ok-write_null-in-Err
write_element-returns-in_ok-write_null-in-Err t c =
    let old = c.args.writer.now in
    let mid = c.write_filter.new.writer in
    let new = c.write_null.new.self in
    let encoding = the_filter.encoding_under in
    let b = encoding None old.mode c.args.item.now in
    let d = encoding old.tag old.mode c.args.item.now in
    let u = tag_or mid.tag null_tag in
    after_null b d u mid.mode old mid new c.in-Err.error c.in_ok-write_null-in-Err.field-0
    (subst (λ r. Writes d old mid r) c.in-Err.is c.write_filter.ensures)
    (subst (λ r. Wrote (null_encoding u mid.mode tt) mid new r) c.in_ok-write_null-in-Err.was c.write_null.ensures)

pub write_filter-write_filters-requires : goal.write_filter-write_filters-requires
write_filter-write_filters-requires t c =
    let v = c.args.value.now in
    let fs = c.in-And.filters in
    let is = in_and v fs c.in-And.is in
    let d = parts_deep v (First fs) is in
    let same = c.as_slice.ensures.value in (
      omega (arith, d, c.decreases, ap (λ z. largest (map depth_of z)) same),
      subst (λ z. AllByRecursion the_filter.can z) (sym same) (parts_can v (First fs) is c.requires).0,
    )

pub write_filter-write_filters-requires-in-Or : goal.write_filter-write_filters-requires-in-Or
write_filter-write_filters-requires-in-Or t c =
    let v = c.args.value.now in
    let fs = c.in-Or.filters in
    let is = in_or v fs c.in-Or.is in
    let d = parts_deep v (Second (First fs)) is in
    let same = c.as_slice-in-Or.ensures.value in (
      omega (arith, d, c.decreases, ap (λ z. largest (map depth_of z)) same),
      subst (λ z. AllByRecursion the_filter.can z) (sym same) (parts_can v (Second (First fs)) is c.requires).0,
    )

pub write_filter-write_negated-requires : goal.write_filter-write_negated-requires
write_filter-write_negated-requires t c =
    let v = c.args.value.now in
    let f = c.in-Not.negated in
    let is = in_not v f c.in-Not.is in
    let d = parts_deep v (Second (Second (First f))) is in (
      omega (arith, d, c.decreases, ap depth_of c.deref.ensures),
      subst (λ z. the_filter.can z) (sym c.deref.ensures) (parts_can v (Second (Second (First f))) is c.requires),
    )

pub write_filter-returns-in-And : goal.write_filter-returns-in-And
write_filter-returns-in-And t c =
    let v = c.args.value.now in
    let fs = c.in-And.filters in
    parts_written v (First fs) (in_and v fs c.in-And.is) c.args.writer.now c.write_filters.new.writer c.write_filters.result (search rules)

pub write_filter-returns-in-Or : goal.write_filter-returns-in-Or
write_filter-returns-in-Or t c =
    let v = c.args.value.now in
    let fs = c.in-Or.filters in
    parts_written v (Second (First fs)) (in_or v fs c.in-Or.is) c.args.writer.now c.write_filters-in-Or.new.writer c.write_filters-in-Or.result (search rules)

pub write_filter-write-requires : goal.write_filter-write-requires
write_filter-write-requires t c =
    let v = c.args.value.now in
    let i = c.in-Item.item in
    parts_can v (Second (Second (Second i))) (in_item v i c.in-Item.is) c.requires

pub write_filter-returns-in-Not : goal.write_filter-returns-in-Not
write_filter-returns-in-Not t c =
    let v = c.args.value.now in
    let f = c.in-Not.negated in
    let old = c.args.writer.now in
    let new = c.write_negated.new.writer in
    parts_written v (Second (Second (First f))) (in_not v f c.in-Not.is) old new c.write_negated.result
    (subst (λ z. Writes (enclosed_encoding (the_filter.encoding_under None) (tag_or old.tag (context 2)) old.mode z) old new c.write_negated.result)
    c.deref.ensures c.write_negated.ensures)

pub write_filter-returns-in-Item : goal.write_filter-returns-in-Item
write_filter-returns-in-Item t c =
    let v = c.args.value.now in
    let i = c.in-Item.item in
    parts_written v (Second (Second (Second i))) (in_item v i c.in-Item.is) c.args.writer.now c.write.new.writer c.write.result c.write.ensures

pub write_filters-returns : goal.write_filters-returns
write_filters-returns t c = c.write_group.ensures

pub write_filters-write_group-requires-clause-takes : goal.write_filters-write_group-requires-clause-takes
write_filters-write_group-requires-clause-takes t c =
    each_less depth_of _ the_filter.can c.args.filters.now c.requires (λ v can less f p w is begins failed. (
      omega (arith, less, c.decreases, ap depth_of is),
      (subst (λ z. the_filter.can z) (sym is) can, (begins, failed)),
    ))

pub write_negated-returns : goal.write_negated-returns
write_negated-returns t c =
    let old : Written = c.args.writer.now in
    let new : Written = c.write_tagged.new.self in
    let encoding = the_filter.encoding_under None in
    let v = c.args.negated.now in
    subst (λ t. Writes (canonical_element old.mode (tag_or old.tag t) Constructed (encoding old.mode v)) old new c.write_tagged.result) c.context.ensures
    (around_one _ _ _ (λ k e h. h) (canonical_element old.mode (tag_or old.tag c.context.result) Constructed) (λ u m. encoding m v)
    old new c.write_tagged.result c.write_tagged.ensures (λ p q x h. search rules))
