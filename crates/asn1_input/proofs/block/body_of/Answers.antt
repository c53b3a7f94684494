use Rattle.std.proofs.Common.{◌≡◌, rules, tests, ◌∙◌, ◌+◌, ◌-◌, ap, sym, refl, true, take, drop, length, length-drop, arith}
use Rattle.std.specs.Prelude.{find, option_map}
use Rattle.std.specs.List.{list_any}
use Rattle.std.proofs.lemmas.Iterator.{YieldsList-from_slice}
use Rattle.std.proofs.lemmas.Iterator.Search.{find_from_yields_List, position_from_yields_List}
use Rattle.std.proofs.lemmas.List.{take_all}
use Rattle.asn1_input.specs.Blocks.{has_headers, is_blank, says_encrypted}
use Rattle.asn1_input.specs.Reader.{texts, encrypted, no_blank}
use Rattle.asn1_input.proofs.Body.{any_text, body_is, headers_are, none_found, none_passes, one_passes}
use Rattle.asn1_input.proofs.Cut.{Finds, found_first, found_within, past_all}
use Rattle.asn1_input.proofs.Malformed.{malformed_is}
use Rattle.asn1_input.proofs.block.body_of.Goals as goal

pub returns-in_default-clause-malformed : goal.returns-in_default-clause-malformed
returns-in_default-clause-malformed c =
    let lines = c.args.lines.now in
    let has : has_headers (texts lines) ≡ true = search rules in
    let first : Finds (λ l. is_blank l.text.now) lines c.position.result =
    position_from_yields_List (λ l. is_blank l.text.now) _ _ c.position.result c.position.ensures.ran (YieldsList-from_slice lines c.iter.ensures.rest)
    (λ x b q k. search (rules, tests)) in
    let none = none_passes (λ l. is_blank l.text.now) lines (past_all (λ l. is_blank l.text.now) lines c.position.result first c.in_default.is) in
    malformed_is _ c.missing.result _ _ _ c.missing.ensures (no_blank has (any_text is_blank lines ∙ none) refl refl)

pub returns-in-Some-find-clause-malformed : goal.returns-in-Some-find-clause-malformed
returns-in-Some-find-clause-malformed c =
    let lines = c.args.lines.now in
    let n = c.in-Some.blank in
    let has : has_headers (texts lines) ≡ true = search rules in
    let first : Finds (λ l. is_blank l.text.now) lines c.position.result =
    position_from_yields_List (λ l. is_blank l.text.now) _ _ c.position.result c.position.ensures.ran (YieldsList-from_slice lines c.iter.ensures.rest)
    (λ x b q k. search (rules, tests)) in
    let at = found_first (λ l. is_blank l.text.now) lines c.position.result n first c.in-Some.is in
    let found : option_map (λ y. y.now) c.find.result ≡ find (λ l. says_encrypted l.text.now) (take n lines) =
    find_from_yields_List (λ l. says_encrypted l.text.now) _ _ c.find.result c.find.ensures.ran (YieldsList-from_slice (take n lines) c.iter-2.ensures.rest)
    (λ x b q k. search (rules, tests)) in
    malformed_is _ c.encrypted.result _ _ _ c.encrypted.ensures
    (encrypted (take n lines) c.in-Some-find.header.now (headers_are lines has n at)
    (sym found ∙ ap (option_map (λ y. y.now)) c.in-Some-find.is) refl refl)

pub returns-in-None-clause-ok : goal.returns-in-None-clause-ok
returns-in-None-clause-ok c =
    let lines = c.args.lines.now in
    let n = c.in-Some.blank in
    let has : has_headers (texts lines) ≡ true = search rules in
    let first : Finds (λ l. is_blank l.text.now) lines c.position.result =
    position_from_yields_List (λ l. is_blank l.text.now) _ _ c.position.result c.position.ensures.ran (YieldsList-from_slice lines c.iter.ensures.rest)
    (λ x b q k. search (rules, tests)) in
    let at = found_first (λ l. is_blank l.text.now) lines c.position.result n first c.in-Some.is in
    let some = found_within (λ l. is_blank l.text.now) lines c.position.result n first c.in-Some.is in
    let found : option_map (λ y. y.now) c.find.result ≡ find (λ l. says_encrypted l.text.now) (take n lines) =
    find_from_yields_List (λ l. says_encrypted l.text.now) _ _ c.find.result c.find.ensures.ran (YieldsList-from_slice (take n lines) c.iter-2.ensures.rest)
    (λ x b q k. search (rules, tests)) in
    let plain = none_found (λ l. says_encrypted l.text.now) (take n lines) (sym found ∙ ap (option_map (λ y. y.now)) c.in-None.is) in
    record {
      headers_end = λ h. any_text is_blank lines ∙ one_passes (λ l. is_blank l.text.now) lines some;
      is_plain = ap (λ z. list_any says_encrypted z) (sym (headers_are lines has n at)) ∙ any_text says_encrypted (take n lines) ∙ plain;
      same =
          ap texts (take_all (length lines - (n + 1)) (drop (n + 1) lines) (omega (arith, length-drop (n + 1) lines))) ∙ body_is lines has n at;
    }
