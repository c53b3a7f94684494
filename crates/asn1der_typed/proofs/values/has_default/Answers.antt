use Rattle.std.proofs.Common.{◌≡◌, ◌<◌, ◌^◌, true, false, length, rules}
use Rattle.yasna_base.proofs.Digits.{slice_bytes}
use Rattle.asn1der_typed.proofs.Defaults.{default_read, default_rejected, default_identified}
use Rattle.asn1der_typed.proofs.values.has_default.Goals as goal

pub returns-in_default : goal.returns-in_default
returns-in_default c = λ t bit d small e.
    let b = c.args.element.now in
    let short : length b < 2 ^ 64 = search rules in
    let none = default_identified t bit d b small e (slice_bytes b c.type_inv.element) short (c.in_default.ensures {u = tt}).1 in absurd none

pub returns-in-Ok-read_primitive_contents : goal.returns-in-Ok-read_primitive_contents
returns-in-Ok-read_primitive_contents c = λ t bit d small e.
    let b = c.args.element.now in
    let start = c.start in
    let found = c.in-Ok-read_primitive_contents in
    let short : length b < 2 ^ 64 = search rules in
    default_read c.args.value c.args.default c.in-Ok.tag t bit start.result.levels start.result.mode d found.contents.now b start.result.left.now found._rest.now
    c.has_number.result start.ensures.levels start.ensures.mode start.ensures.left small e (slice_bytes b c.type_inv.element) short (found.ensures {u = tt})
    c.has_number.ensures

pub returns-in-Err : goal.returns-in-Err
returns-in-Err c = λ t bit d small e.
    let b = c.args.element.now in
    let start = c.start in
    let short : length b < 2 ^ 64 = search rules in
    let none = default_rejected c.args.value c.args.default c.in-Ok.tag t bit c.in-Ok._bit start.result.levels start.result.mode d b start.result.left.now c.in-Ok._trailing.now
    _ _ c.in-Err.field-0 start.ensures.levels start.ensures.mode start.ensures.left small e (slice_bytes b c.type_inv.element) short (c.in-Ok.ensures {u = tt})
    (c.in-Err.ensures {u = tt}) in
    (λ f. let no : false ≡ true = f in absurd (cc), λ h. absurd (none h))
