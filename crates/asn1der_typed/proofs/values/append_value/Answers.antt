use Rattle.std.proofs.Common.{◌≡◌, true, false, length, drop, Option, sym, ap, subst, ◌∙◌, arith, rules}
use Rattle.std.proofs.lemmas.Slice.{between_to_end}
use Rattle.asn1show_schema.specs.declared.schema.Number.{Number}
use Rattle.asn1der_typed.specs.Appending.{AppendsSameTag, AppendsValue, written}
use Rattle.asn1der_typed.proofs.Defaults.{default_tested, default_omitted}
use Rattle.asn1der_typed.proofs.values.append_value.Goals as goal

pub returns-then-has_default : goal.returns-then-has_default
returns-then-has_default c =
    let value = c.args.value in
    let n = c.in-Some.number in
    let b = c.args.place.element.bytes.now in
    let out = c.args.out.now.items in
    let mid = c.append_typed.new.out.items in
    let new = c.truncate.new.self.items in
    let start : c.len-start.result ≡ length out = search rules in
    let x = subst (λ z. AppendsSameTag value z out mid) c.cursor_of.ensures.left (c.in_ok-append_typed.ensures {u = tt}) in
    let test = default_tested value n c.len-start.result b out mid _ c.has_default.result start x
    (between_to_end c.as_slice.result.now c.len-start.result (length c.as_slice.result.now) (omega arith) ∙ ap (drop c.len-start.result) c.as_slice.ensures.value) c.has_default.ensures in
    subst (λ (o : Option Number). AppendsValue o value b out new) (sym c.in-Some.is)
    (default_omitted value n c.len-start.result b out mid new start x (test.0 c.if-has_default.true) c.truncate.ensures.items)

pub returns-else-has_default : goal.returns-else-has_default
returns-else-has_default c =
    let value = c.args.value in
    let n = c.in-Some.number in
    let b = c.args.place.element.bytes.now in
    let out = c.args.out.now.items in
    let mid = c.append_typed.new.out.items in
    let start : c.len-start.result ≡ length out = search rules in
    let x = subst (λ z. AppendsSameTag value z out mid) c.cursor_of.ensures.left (c.in_ok-append_typed.ensures {u = tt}) in
    let test = default_tested value n c.len-start.result b out mid _ c.has_default.result start x
    (between_to_end c.as_slice.result.now c.len-start.result (length c.as_slice.result.now) (omega arith) ∙ ap (drop c.len-start.result) c.as_slice.ensures.value) c.has_default.ensures in
    subst (λ (o : Option Number). AppendsValue o value b out mid) (sym c.in-Some.is)
    (written x (λ h. let e : false ≡ true = sym c.if-has_default.false ∙ test.1 h in absurd (cc)))
