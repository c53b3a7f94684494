use Rattle.std.proofs.Common.{◌≡◌, true, false, sym, ◌∙◌, subst}
use Rattle.std.proofs.lemmas.Result.{on_ok_weaker}
use Rattle.yasna_base.specs.Bits.{IsBits}
use Rattle.yasna_base.specs.Text.{IsStringOf}
use Rattle.yasna_base.specs.declared.mode.BERMode.TheVariants.{Ber}
use Rattle.asn1_contents.specs.Contents.{HasContents}
use Rattle.asn1_contents.specs.ContentsType.{type_with}
use Rattle.asn1der_convert.specs.Tags.{IsStringTag, IsOtherConstructed}
use Rattle.asn1der_typed.specs.Appending.{universal_tag, AreBitsOf, HasDerContents, bit_string, octet_string}
use Rattle.asn1der_typed.proofs.Appending.{element_of, element_around, starts_so}
use Rattle.asn1der_typed.proofs.values.append_constructed.Goals as goal

pub returns-in-Bits : goal.returns-in-Bits
returns-in-Bits c =
    let value = c.args.value in
    let t = c.args.tag in
    let s = c.args.cursor.left.now in
    let i = c.deref.result.now in
    let out = c.args.out.now.items in
    let new = c.append_bit_segments.new.out.items in
    let own = sym c.tag_of-own.ensures ∙ c.in-Bits.ensures {u = tt} in
    on_ok_weaker c.append_bit_segments.result
    (λ x. element_of value t s i out new (c.deref.ensures.value ∙ c.in_ok-primitive.ensures {u = tt} t c.requires.bytes)
    (starts_so (AreBitsOf value (IsBits t Ber 101)) (HasDerContents value t) s i out new (λ d b h. bit_string own h) x))
    c.append_bit_segments.ensures

pub returns-in-Octets : goal.returns-in-Octets
returns-in-Octets c =
    let value = c.args.value in
    let u = universal_tag value in
    let t = c.args.tag in
    let s = c.args.cursor.left.now in
    let i = c.deref-in-Octets.result.now in
    let out = c.args.out.now.items in
    let new = c.append_octet_segments.new.out.items in
    let own = subst IsStringTag c.tag_of-own.ensures (c.in-Octets.ensures {u = tt}) in
    on_ok_weaker c.append_octet_segments.result
    (λ x. element_of value t s i out new (c.deref-in-Octets.ensures.value ∙ c.in_ok-primitive.ensures {u = tt} t c.requires.bytes)
    (starts_so (IsStringOf (HasContents (type_with u)) t Ber 101) (HasDerContents value t) s i out new (λ d b h. octet_string own h) x))
    c.append_octet_segments.ensures

pub returns-in-Other : goal.returns-in-Other
returns-in-Other c =
    let none = rw c.if-is_primitive_type.false at c.is_primitive_type.ensures in
    on_ok_weaker c.append_parts.result
    (λ x. element_around c.args.value c.args.tag c.args.cursor.left.now c.args.identifier_bytes.now c.args.out.now.items c.append_parts.new.out.items
    (subst IsOtherConstructed c.tag_of-own.ensures
    (record { other = c.in-Other.ensures {u = tt}; not_primitive = λ p. let e : false ≡ true = none.1 p in absurd (cc) }))
    c.requires.bytes x)
    c.append_parts.ensures
