use Rattle.std.proofs.Common.{None, Ok, take, subst, rules, ◌≡◌}
use Rattle.std.proofs.lemmas.List.{take_all}
use Rattle.std.specs.Prelude.{IsErrAnd}
use Rattle.yasna_base.specs.SetWriting.{encodings}
use Rattle.yasna_notation.specs.Sets.{WroteElement, WroteElements}
use Rattle.yasna_notation.proofs.SetParts.{encodings_non_empty, part_failed, item_written}
use Rattle.ldap.specs.Filters.{the_filter}
use Rattle.ldap.specs.TheFilter.{the_filter_non_empty}
use Rattle.ldap.proofs.filter_writing.write_elements.Goals as goal

pub returns-in_err-write : goal.returns-in_err-write
returns-in_err-write g c =
    let encoding = the_filter.encoding_under None in
    let s = c.loop-item.set in
    let w = c.next.result.now in
    let left = c.write.new.arg3 in
    let m = c.args.set.now.mode in
    let before = take c.loop-item.item-index c.args.items.now in
    part_failed (encodings encoding m before) (encodings encoding m c.args.items.now) (encoding w.mode c.item-item.result) s.mode s w left
    c.in_err-write.field-0.0 c.from_residual.result
    (encodings_non_empty encoding m (the_filter_non_empty None m) before) c.loop-item.invariant.1 c.next.ensures.value
    (subst (λ r. WroteElement (encoding w.mode c.item-item.result) w left r) c.in_err-write.was
    (c.requires.writes _ _ _ _ _ c.write.result c.write.ensures))
    (let x : IsErrAnd c.from_residual.result (λ e. e ≡ c.in_err-write.field-0.0) = search rules in x)

pub loop-item-preserved : goal.loop-item-preserved
loop-item-preserved g c =
    item_written (the_filter.encoding_under None) c.args.items.now c.loop-item.item-index c.item-item.result c.args.set.now.mode c.loop-item.set
    c.next.result.now c.write.new.arg3 c.write.result c.in_ok-write.field-0 c.loop-item.invariant c.next.ensures.value
    (c.requires.writes _ _ _ _ _ c.write.result c.write.ensures) c.in_ok-write.was c.loop-item-test.true c.item-item.is

pub returns : goal.returns
returns g c =
    subst (λ vs. WroteElements (encodings (the_filter.encoding_under None) c.args.set.now.mode vs) c.loop-item.set (Ok tt))
    (take_all c.loop-item.item-index c.args.items.now c.loop-item-test.false) c.loop-item.invariant.1
