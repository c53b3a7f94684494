use Rattle.std.proofs.Common.{rules, tests, not}
use Rattle.std.proofs.lemmas.Iterator.{YieldsList-from_slice}
use Rattle.std.proofs.lemmas.Iterator.Search.{position_from_yields_List}
use Rattle.asn1_input.specs.Text.{is_in_base64}
use Rattle.asn1_input.proofs.Cut.{Finds, found_first, none_found}
use Rattle.asn1_input.proofs.digits.first_stray.Goals as goal

pub returns-in-Some : goal.returns-in-Some
returns-in-Some c =
    let first : Finds (λ x. not (is_in_base64 x)) c.args.text.now c.position.result =
    position_from_yields_List (λ x. not (is_in_base64 x)) _ _ c.position.result c.position.ensures.ran (YieldsList-from_slice c.args.text.now c.iter.ensures.rest)
    (λ x b q k. search (rules, tests)) in
    found_first (λ x. not (is_in_base64 x)) c.args.text.now c.position.result c.in-Some.index first c.in-Some.is

pub returns-in-None : goal.returns-in-None
returns-in-None c =
    let first : Finds (λ x. not (is_in_base64 x)) c.args.text.now c.position.result =
    position_from_yields_List (λ x. not (is_in_base64 x)) _ _ c.position.result c.position.ensures.ran (YieldsList-from_slice c.args.text.now c.iter.ensures.rest)
    (λ x b q k. search (rules, tests)) in
    none_found (λ x. not (is_in_base64 x)) c.args.text.now c.position.result first c.in-None.is
