use Rattle.std.proofs.Common.{◌≡◌, ◌+◌, ◌*◌, ◌/◌, ◌%◌, [], ◌∷◌, ◌++◌, length, sym, ap, ◌∙◌, arith}
use Rattle.yasna_base.specs.declared.tag.PCBit.TheVariants.{Constructed}
use Rattle.yasna_base.proofs.Identifier.{identifier_some}
use Rattle.asn1der_typed.proofs.Appending.{primitive_is}
use Rattle.asn1der_typed.proofs.values.primitive_identifier.Goals as goal

pub returns : goal.returns
returns c = λ t e.
    let first = c.in-Some.first.now in
    let others = c.in-Some.others.now in
    let byte = first % 32 + first / 64 * 64 in
    let whole : c.args.identifier_bytes.now ≡ first ∷ others = (c.in-Some.ensures {u = tt}).cases.0 in
    (c.in_ok-extend_from_slice.ensures {u = tt}).items ∙
    ap (λ z. z ++ others) ((c.in_ok-push.ensures {u = tt}).items ∙ ap (λ z. z ++ (byte ∷ [])) c.new-primitive.ensures.items) ∙
    primitive_is t first others (sym whole ∙ e)

pub returns-in_default : goal.returns-in_default
returns-in_default c = λ t e. absurd (omega (arith, identifier_some t Constructed, ap length e, (c.in_default.ensures {u = tt}).cases))
