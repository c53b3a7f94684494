use Rattle.std.proofs.Common.{rules, tests, ◌==◌}
use Rattle.std.proofs.lemmas.Iterator.{YieldsList-from_slice}
use Rattle.std.proofs.lemmas.Iterator.Search.{position_from_yields_List}
use Rattle.asn1_input.proofs.Cut.{Finds, found_first, none_found}
use Rattle.asn1_input.proofs.hex_layout.first_bar.Goals as goal

pub returns-in-Some-clause-index : goal.returns-in-Some-clause-index
returns-in-Some-clause-index c =
    let first : Finds (λ x. x == 124) c.args.text.now c.position.result =
    position_from_yields_List (λ x. x == 124) _ _ c.position.result c.position.ensures.ran (YieldsList-from_slice c.args.text.now c.iter.ensures.rest)
    (λ x b q k. search (rules, tests)) in
    found_first (λ x. x == 124) c.args.text.now c.position.result c.in-Some.index first c.in-Some.is

pub returns-in-None-clause-index : goal.returns-in-None-clause-index
returns-in-None-clause-index c =
    let first : Finds (λ x. x == 124) c.args.text.now c.position.result =
    position_from_yields_List (λ x. x == 124) _ _ c.position.result c.position.ensures.ran (YieldsList-from_slice c.args.text.now c.iter.ensures.rest)
    (λ x b q k. search (rules, tests)) in
    none_found (λ x. x == 124) c.args.text.now c.position.result first c.in-None.is
