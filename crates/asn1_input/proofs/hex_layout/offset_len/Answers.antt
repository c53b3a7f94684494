use Rattle.std.proofs.Common.{rules, tests, not}
use Rattle.std.proofs.lemmas.Iterator.{YieldsList-from_slice}
use Rattle.std.proofs.lemmas.Iterator.Search.{position_from_yields_List}
use Rattle.std.specs.Char.{is_ascii_hexdigit}
use Rattle.asn1_input.proofs.Cut.{Finds, found_first, none_found}
use Rattle.asn1_input.proofs.hex_layout.offset_len.Goals as goal

pub returns-in-Some-clause-count : goal.returns-in-Some-clause-count
returns-in-Some-clause-count c =
    let first : Finds (λ x. not (is_ascii_hexdigit x)) c.args.line.now c.position.result =
    position_from_yields_List (λ x. not (is_ascii_hexdigit x)) _ _ c.position.result c.position.ensures.ran (YieldsList-from_slice c.args.line.now c.iter.ensures.rest)
    (λ x b q k. search (rules, tests)) in
    found_first (λ x. not (is_ascii_hexdigit x)) c.args.line.now c.position.result c.in-Some.index first c.in-Some.is

pub returns-in-None-clause-count : goal.returns-in-None-clause-count
returns-in-None-clause-count c =
    let first : Finds (λ x. not (is_ascii_hexdigit x)) c.args.line.now c.position.result =
    position_from_yields_List (λ x. not (is_ascii_hexdigit x)) _ _ c.position.result c.position.ensures.ran (YieldsList-from_slice c.args.line.now c.iter.ensures.rest)
    (λ x b q k. search (rules, tests)) in
    none_found (λ x. not (is_ascii_hexdigit x)) c.args.line.now c.position.result first c.in-None.is
