use Rattle.std.proofs.lemmas.Result.{on_ok_weaker}
use Rattle.yasna_base.specs.declared.tag.PCBit.TheVariants.{Primitive, Constructed}
use Rattle.asn1der_typed.proofs.Appending.{element_of, same_tag, identifier_cut}
use Rattle.asn1der_typed.proofs.values.append_typed.Goals as goal

pub returns-in-Primitive : goal.returns-in-Primitive
returns-in-Primitive c =
    let value = c.args.value in
    let t = c.in-Ok.found.0 in
    let s = c.args.cursor.left.now in
    let i = c.prefix_before-identifier_bytes.result.now in
    let out = c.args.out.now.items in
    let new = c.append_whole.new.out.items in
    let found = rw c.in-Primitive.is at (c.in-Ok.ensures {u = tt}) in
    on_ok_weaker c.append_whole.result
    (λ x. same_tag value t Primitive s c.in-Ok.found.2.now out new found
    (element_of value t s i out new (identifier_cut t Primitive s i c.in-Ok.found.2.now found c.prefix_before-identifier_bytes.ensures) x))
    c.append_whole.ensures

pub returns-in-Constructed : goal.returns-in-Constructed
returns-in-Constructed c =
    let found = rw c.in-Constructed.is at (c.in-Ok.ensures {u = tt}) in
    on_ok_weaker c.append_constructed.result
    (λ x. same_tag c.args.value c.in-Ok.found.0 Constructed c.args.cursor.left.now c.in-Ok.found.2.now c.args.out.now.items c.append_constructed.new.out.items found x)
    c.append_constructed.ensures
