use Rattle.std.proofs.Common.{◌≡◌, true, false, sym, subst, ap, ◌∙◌}
use Rattle.std.proofs.lemmas.Result.{on_ok_weaker}
use Rattle.yasna_base.specs.Bits.{AreTheBits}
use Rattle.yasna_base.specs.declared.mode.BERMode.TheVariants.{Ber}
use Rattle.yasna_base.specs.declared.tag.Tag.{Tag}
use Rattle.asn1_contents.specs.ContentsType.{type_with}
use Rattle.asn1der_convert.specs.ContentsClass.{IsOfClass}
use Rattle.asn1der_convert.specs.Tags.{IsConstructedTag}
use Rattle.asn1der_typed.specs.Appending.{universal_tag, IsBooleanOf, AreBitsOf, AreContentsOf, boolean, bits}
use Rattle.asn1der_typed.proofs.Appending.{of_neither, under_so, contents_of, contents_read}
use Rattle.asn1der_typed.proofs.values.append_whole.Goals as goal

pub returns-in_default : goal.returns-in_default
returns-in_default c =
    let value = c.args.value in
    let u = universal_tag value in
    let cursor = c.args.cursor in
    let i = c.args.identifier_bytes.now in
    let contents = c.in-Ok.contents.now in
    let out = c.args.out.now.items in
    let new = c.append_primitive.new.out.items in
    let own = c.tag_of-own.ensures in
    let n = of_neither u c.class_of.result (subst (λ (t : Tag). IsOfClass c.class_of.result t) own c.class_of.ensures) c.in_default.not-Boolean c.in_default.not-Bits in
    let none = rw c.if-is_constructed_type.false at c.is_constructed_type.ensures in
    on_ok_weaker c.append_primitive.result
    (λ x. contents_read value c.args.tag cursor.levels cursor.mode cursor.left.now contents c.in-Ok._rest.now i out new c.requires.levels c.requires.mode
    (c.in-Ok.ensures {u = tt})
    (contents_of value c.contents_type.result contents i out new n.0 n.1
    (λ p. let e : false ≡ true = none.1 (subst IsConstructedTag (sym own) p) in absurd (cc)) (c.contents_type.ensures ∙ ap type_with own) x))
    c.append_primitive.ensures.bytes

pub returns-in-Boolean : goal.returns-in-Boolean
returns-in-Boolean c =
    let value = c.args.value in
    let cursor = c.args.cursor in
    let i = c.args.identifier_bytes.now in
    let contents = c.in-Ok.contents.now in
    let out = c.args.out.now.items in
    let new = c.append_boolean.new.out.items in
    let own = sym c.tag_of-own.ensures ∙ c.in-Boolean.ensures {u = tt} in
    on_ok_weaker c.append_boolean.result
    (λ x. contents_read value c.args.tag cursor.levels cursor.mode cursor.left.now contents c.in-Ok._rest.now i out new c.requires.levels c.requires.mode
    (c.in-Ok.ensures {u = tt})
    (under_so (λ d. IsBooleanOf d contents) (λ d. AreContentsOf value d contents) i out new (λ d h. boolean own h) x))
    c.append_boolean.ensures

pub returns-in-Bits : goal.returns-in-Bits
returns-in-Bits c =
    let value = c.args.value in
    let cursor = c.args.cursor in
    let i = c.args.identifier_bytes.now in
    let contents = c.in-Ok.contents.now in
    let out = c.args.out.now.items in
    let new = c.append_whole_bits.new.out.items in
    let own = sym c.tag_of-own.ensures ∙ c.in-Bits.ensures {u = tt} in
    on_ok_weaker c.append_whole_bits.result
    (λ x. contents_read value c.args.tag cursor.levels cursor.mode cursor.left.now contents c.in-Ok._rest.now i out new c.requires.levels c.requires.mode
    (c.in-Ok.ensures {u = tt})
    (under_so (λ d. AreBitsOf value (AreTheBits Ber) d contents) (λ d. AreContentsOf value d contents) i out new (λ d h. bits own h) x))
    c.append_whole_bits.ensures
