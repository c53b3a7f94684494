use Rattle.std.proofs.Common.{◌≡◌, ◌<◌, ◌^◌, length, refl, ap, subst, sym, ◌∙◌, rules, IsTrue}
use Rattle.yasna_base.specs.Bits.{bits_tag}
use Rattle.yasna_base.specs.Boolean.{boolean_tag}
use Rattle.yasna_base.specs.Header.{OpensAt}
use Rattle.yasna_base.specs.Identifier.{begins}
use Rattle.yasna_bytes.specs.Opening.{Opening, end_found}
use Rattle.asn1der_convert.proofs.Ambiguities.{constructed_meets, kind_meets, primitive_meets, if_ok_any, written_none, written_next, written_end, walked_end}
use Rattle.asn1der_convert.proofs.Appends.{enclosed, enclosed_added}
use Rattle.asn1der_convert.specs.declared.contents_class.ContentsClass.TheVariants.{Boolean, Bits, Octets}
use Rattle.asn1der_convert.proofs.Parts.{constructed_taken, taken_shorter}
use Rattle.asn1der_convert.proofs.Rejections.{no_constructed_at, no_trees_at, no_identifier, no_end, not_held, begins_of, no_primitive_type, no_constructed_type}
use Rattle.asn1der_convert.proofs.conversion.+conversion.Goals as goal

pub convert_constructed-returns-in-Ok-enclose-clause-part : goal.convert_constructed-returns-in-Ok-enclose-clause-part
convert_constructed-returns-in-Ok-enclose-clause-part t c =
    let inside = c.inside-contents in
    let mid = c.convert_contents.new.out.items in
    let short : length mid < 2 ^ 64 = search rules in
    let start : c.len-start.result ≡ length c.args.out.now.items = search rules in
    let x = c.in-Ok.ensures.parts in
    let y = enclosed inside.result.levels inside.result.mode inside.result.left.now (end_found c.opened.inside.end) c.in-Ok.rest.now c.args.tag c.len-start.result c.args.out.now.items mid
    c.enclose.new.out.items c.convert_contents.new.ambiguities c.enclose.new.ambiguities (inside.ensures.mode ∙ c.requires.mode) x start short
    (c.in-Ok-enclose.ensures {u = tt}) in
    record {
      part = y.part;
      taken = constructed_taken c.args.cursor.levels inside.result.levels c.args.cursor.mode inside.result.mode c.args.tag c.args.cursor.left.now
          c.args.opened.now.contents inside.result.left.now c.in-Ok.rest.now c.args.opened.now.end _ x.parts y.part c.requires.mode
          inside.ensures.mode c.requires.level inside.ensures.levels inside.ensures.left (ap (λ (o : Opening). o.end) c.opened.view_is) c.requires.other
          c.requires.opens x.taken y.encloses.part;
      added = enclosed_added inside.result.levels inside.result.mode inside.result.left.now (end_found c.opened.inside.end) c.in-Ok.rest.now c.args.tag c.len-start.result
          c.args.out.now.items mid c.enclose.new.out.items c.convert_contents.new.ambiguities c.enclose.new.ambiguities x start y;
    }

pub convert_contents-loop-after-smaller : goal.convert_contents-loop-after-smaller
convert_contents-loop-after-smaller t c =
    taken_shorter c.loop-after.place.levels c.loop-after.place.mode c.loop-after.place.left.now c.in-Ok.ensures.part.part c.in-Ok.rest.now
    c.further-place.result.left.now c.in-Ok.ensures.part.taken c.further-place.ensures.left

pub convert_contents-loop-after-preserved : goal.convert_contents-loop-after-preserved
convert_contents-loop-after-preserved t c =
    let before = c.loop-after.invariant in
    record {
      mode = c.further-place.ensures.mode ∙ before.mode;
      levels = c.further-place.ensures.levels ∙ before.levels;
      written = written_next c.args.contents.levels c.loop-after.place.levels c.args.contents.mode c.loop-after.place.mode c.args.contents.left.now
          c.loop-after.place.left.now c.in-Ok.rest.now c.further-place.result.left.now c.args.out.now.items c.loop-after.out.items c.convert_element.new.out.items
          c.args.ambiguities.now c.loop-after.ambiguities c.convert_element.new.ambiguities
          before.levels before.mode before.written c.in-Ok.ensures.part c.in-Ok.ensures.met c.further-place.ensures.left;
    }

pub convert_constructed-returns-in-Err-clause-part : goal.convert_constructed-returns-in-Err-clause-part
convert_constructed-returns-in-Err-clause-part t c = λ known.
    let inside = c.inside-contents in
    no_constructed_at c.args.cursor.levels inside.result.levels c.args.cursor.mode inside.result.mode c.args.tag c.args.cursor.left.now
    c.args.opened.now.contents inside.result.left.now c.args.opened.now.end _ inside.ensures.mode c.requires.level inside.ensures.levels inside.ensures.left
    (ap (λ (o : Opening). o.end) c.opened.view_is) c.requires.other.other c.requires.opens (c.in-Err.ensures.parts known)

pub convert_contents-returns-in-Err-clause-parts : goal.convert_contents-returns-in-Err-clause-parts
convert_contents-returns-in-Err-clause-parts t c = λ known.
    let before = c.loop-after.invariant in
    no_trees_at c.args.contents.levels c.loop-after.place.levels c.args.contents.mode c.loop-after.place.mode c.args.contents.left.now
    c.loop-after.place.left.now (end_found c.args.end) before.written.parts before.levels before.mode before.written.walked.reached (c.in_default.ensures {u = tt})
    (c.in-Err.ensures.part known)

pub convert_element-returns-in-Err-clause-part : goal.convert_element-returns-in-Err-clause-part
convert_element-returns-in-Err-clause-part t c = λ known.
    no_identifier c.args.cursor.levels c.args.cursor.mode c.args.cursor.left.now ((c.in-Err.ensures {u = tt}).1)

pub convert_element-convert_boolean-requires : goal.convert_element-convert_boolean-requires
convert_element-convert_boolean-requires t c =
    begins_of c.in-Ok.identifier.0 boolean_tag c.in-Ok.identifier.1 c.args.cursor.left.now c.in-Ok.identifier.2.now (c.in-Ok.ensures {u = tt})
    (c.in-Boolean.ensures {u = tt})

pub convert_element-convert_bits-requires : goal.convert_element-convert_bits-requires
convert_element-convert_bits-requires t c =
    begins_of c.in-Ok.identifier.0 bits_tag c.in-Ok.identifier.1 c.args.cursor.left.now c.in-Ok.identifier.2.now (c.in-Ok.ensures {u = tt})
    (c.in-Bits.ensures {u = tt})

pub convert_element-convert_octets-requires-clause-begins : goal.convert_element-convert_octets-requires-clause-begins
convert_element-convert_octets-requires-clause-begins t c =
    begins_of c.in-Ok.identifier.0 c.in-Ok.identifier.0 c.in-Ok.identifier.1 c.args.cursor.left.now c.in-Ok.identifier.2.now (c.in-Ok.ensures {u = tt}) refl

pub convert_element-returns-in-EndOfContents-clause-part : goal.convert_element-returns-in-EndOfContents-clause-part
convert_element-returns-in-EndOfContents-clause-part t c = λ known.
    no_end c.args.cursor.levels c.args.cursor.mode c.in-Ok.identifier.0 c.in-Ok.identifier.1 c.args.cursor.left.now c.in-Ok.identifier.2.now
    (c.in-EndOfContents.ensures {u = tt}) (c.in-Ok.ensures {u = tt})

pub convert_element-returns-in-Err-open_after_identifier-clause-part : goal.convert_element-returns-in-Err-open_after_identifier-clause-part
convert_element-returns-in-Err-open_after_identifier-clause-part t c = λ known.
    not_held c.args.cursor.levels c.args.cursor.mode c.in-Ok.identifier.0 c.in-Ok.identifier.1 c.args.cursor.left.now c.in-Ok.identifier.2.now
    c.in-Err-open_after_identifier.rejection.kind (c.in-Other.ensures {u = tt}) (c.in-Ok.ensures {u = tt}) ((c.in-Err-open_after_identifier.ensures {u = tt}).1)

pub convert_constructed-returns-in-Ok-enclose-clause-met : goal.convert_constructed-returns-in-Ok-enclose-clause-met
convert_constructed-returns-in-Ok-enclose-clause-met t c =
    let inside = c.inside-contents in
    let mid = c.convert_contents.new.out.items in
    let short : length mid < 2 ^ 64 = search rules in
    let start : c.len-start.result ≡ length c.args.out.now.items = search rules in
    let x = c.in-Ok.ensures.parts in
    let y = enclosed inside.result.levels inside.result.mode inside.result.left.now (end_found c.opened.inside.end) c.in-Ok.rest.now c.args.tag c.len-start.result c.args.out.now.items mid
    c.enclose.new.out.items c.convert_contents.new.ambiguities c.enclose.new.ambiguities (inside.ensures.mode ∙ c.requires.mode) x start short
    (c.in-Ok-enclose.ensures {u = tt}) in
    constructed_meets c.args.cursor.levels inside.result.levels c.args.cursor.mode inside.result.mode c.args.tag c.args.cursor.left.now
    c.args.opened.now.contents inside.result.left.now c.in-Ok.rest.now c.args.opened.now.end _ x.parts y.part c.args.ambiguities.now
    c.convert_contents.new.ambiguities c.enclose.new.ambiguities inside.ensures.mode c.requires.level inside.ensures.levels inside.ensures.left
    (ap (λ (o : Opening). o.end) c.opened.view_is) c.requires.other c.requires.opens x.taken c.in-Ok.ensures.met y.encloses

pub convert_contents-loop-after-init : goal.convert_contents-loop-after-init
convert_contents-loop-after-init t c = record {
  mode = refl;
  levels = refl;
  written = written_none c.args.contents.levels c.args.contents.mode c.args.contents.left.now c.args.out.now.items c.args.ambiguities.now;
}

pub convert_contents-returns-in-Some-clause-parts : goal.convert_contents-returns-in-Some-clause-parts
convert_contents-returns-in-Some-clause-parts t c =
    written_end c.args.contents.levels c.args.contents.mode c.args.contents.left.now c.loop-after.place.left.now c.in-Some.after.now c.args.out.now.items
    c.loop-after.out.items (end_found c.args.end) c.args.ambiguities.now c.loop-after.ambiguities c.loop-after.invariant.written (c.in-Some.ensures {u = tt})

pub convert_contents-returns-in-Some-clause-met : goal.convert_contents-returns-in-Some-clause-met
convert_contents-returns-in-Some-clause-met t c =
    let before = c.loop-after.invariant.written in
    walked_end c.args.contents.levels c.args.contents.mode c.args.contents.left.now c.loop-after.place.left.now c.in-Some.after.now (end_found c.args.end)
    before.parts c.args.ambiguities.now c.loop-after.ambiguities before.walked (c.in-Some.ensures {u = tt})

pub convert_element-returns-in-Boolean-clause-met : goal.convert_element-returns-in-Boolean-clause-met
convert_element-returns-in-Boolean-clause-met t c =
    if_ok_any c.convert_boolean.result _ (λ r. kind_meets c.args.cursor.levels c.args.cursor.mode Boolean c.in-Ok.identifier.0 c.args.cursor.left.now r.now
    c.args.ambiguities.now (c.in-Boolean.ensures {u = tt}) (λ e. cc) (begins c.in-Ok.identifier.1 c.in-Ok.identifier.2.now (c.in-Ok.ensures {u = tt})))

pub convert_element-returns-in-Bits-clause-met : goal.convert_element-returns-in-Bits-clause-met
convert_element-returns-in-Bits-clause-met t c =
    if_ok_any c.convert_bits.result _ (λ r. kind_meets c.args.cursor.levels c.args.cursor.mode Bits c.in-Ok.identifier.0 c.args.cursor.left.now r.now
    c.args.ambiguities.now (c.in-Bits.ensures {u = tt}) (λ e. cc) (begins c.in-Ok.identifier.1 c.in-Ok.identifier.2.now (c.in-Ok.ensures {u = tt})))

pub convert_element-returns-in-Octets-clause-met : goal.convert_element-returns-in-Octets-clause-met
convert_element-returns-in-Octets-clause-met t c =
    if_ok_any c.convert_octets.result _ (λ r. kind_meets c.args.cursor.levels c.args.cursor.mode Octets c.in-Ok.identifier.0 c.args.cursor.left.now r.now
    c.args.ambiguities.now (c.in-Octets.ensures {u = tt}) (λ e. cc) (begins c.in-Ok.identifier.1 c.in-Ok.identifier.2.now (c.in-Ok.ensures {u = tt})))

pub convert_other-returns-else-is_constructed_type-clause-met : goal.convert_other-returns-else-is_constructed_type-clause-met
convert_other-returns-else-is_constructed_type-clause-met t c =
    if_ok_any c.convert_primitive.result _ (λ r. primitive_meets c.args.cursor.levels c.args.cursor.mode c.args.tag c.args.cursor.left.now
    c.args.opened.now.contents r.now c.args.opened.now.end c.args.ambiguities.now
    (subst (λ z. OpensAt c.args.cursor.mode c.args.tag z c.args.cursor.left.now c.args.opened.now.contents c.args.opened.now.end)
    (sym (ap (λ (o : Opening). o.bit) c.opened.view_is) ∙ c.in-Primitive.is) c.requires.opens))

pub convert_other-returns-then-is_constructed_type-clause-part : goal.convert_other-returns-then-is_constructed_type-clause-part
convert_other-returns-then-is_constructed_type-clause-part t c = λ known.
    let yes : IsTrue c.is_constructed_type.result = search rules in
    no_constructed_type c.args.cursor.levels c.args.cursor.mode c.args.tag c.args.cursor.left.now c.args.opened.now.contents c.args.opened.now.end
    c.requires.other (c.is_constructed_type.ensures.0 yes)
    (subst (λ z. OpensAt c.args.cursor.mode c.args.tag z c.args.cursor.left.now c.args.opened.now.contents c.args.opened.now.end)
    (sym (ap (λ (o : Opening). o.bit) c.opened.view_is) ∙ c.in-Primitive.is) c.requires.opens)

pub convert_other-returns-then-is_primitive_type-clause-part : goal.convert_other-returns-then-is_primitive_type-clause-part
convert_other-returns-then-is_primitive_type-clause-part t c = λ known.
    let yes : IsTrue c.is_primitive_type.result = search rules in
    no_primitive_type c.args.cursor.levels c.args.cursor.mode c.args.tag c.args.cursor.left.now c.args.opened.now.contents c.args.opened.now.end
    c.requires.other (c.is_primitive_type.ensures.0 yes)
    (subst (λ z. OpensAt c.args.cursor.mode c.args.tag z c.args.cursor.left.now c.args.opened.now.contents c.args.opened.now.end)
    (sym (ap (λ (o : Opening). o.bit) c.opened.view_is) ∙ c.in-Constructed.is) c.requires.opens)
