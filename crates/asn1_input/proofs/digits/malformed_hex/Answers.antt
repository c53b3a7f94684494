use Rattle.std.proofs.Common.{rules, tests, not, ◌∙◌, ◌+◌, ap, refl}
use Rattle.std.specs.Prelude.{min}
use Rattle.std.proofs.lemmas.Iterator.{YieldsList-from_slice}
use Rattle.std.proofs.lemmas.Iterator.Search.{position_from_yields_List}
use Rattle.asn1_input.specs.Hex.{is_in_hex}
use Rattle.asn1_input.proofs.Cut.{Finds, found_first, none_found}
use Rattle.asn1_input.proofs.Malformed.{malformed_is}
use Rattle.asn1_input.proofs.digits.malformed_hex.Goals as goal

pub returns-in-Some : goal.returns-in-Some
returns-in-Some c =
    let first : Finds (λ x. not (is_in_hex x)) c.args.text.now c.position.result =
    position_from_yields_List (λ x. not (is_in_hex x)) _ _ c.position.result c.position.ensures.ran (YieldsList-from_slice c.args.text.now c.iter.ensures.rest)
    (λ x b q k. search (rules, tests)) in
    let at = found_first (λ x. not (is_in_hex x)) c.args.text.now c.position.result c.in-Some.index first c.in-Some.is in
    malformed_is _ c.malformed.result _ _ _ c.malformed.ensures
    (c.saturating_add.ensures ∙ ap (λ n. min (c.args.start + n) 18446744073709551615) at, refl)

pub returns-in-None : goal.returns-in-None
returns-in-None c =
    let first : Finds (λ x. not (is_in_hex x)) c.args.text.now c.position.result =
    position_from_yields_List (λ x. not (is_in_hex x)) _ _ c.position.result c.position.ensures.ran (YieldsList-from_slice c.args.text.now c.iter.ensures.rest)
    (λ x b q k. search (rules, tests)) in
    let at = none_found (λ x. not (is_in_hex x)) c.args.text.now c.position.result first c.in-None.is in
    malformed_is _ c.malformed-in-None.result _ _ _ c.malformed-in-None.ensures
    (c.saturating_add-in-None.ensures ∙ ap (λ n. min (c.args.start + n) 18446744073709551615) at, refl)
