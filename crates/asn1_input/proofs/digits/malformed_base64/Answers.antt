use Rattle.std.proofs.Common.{◌≡◌, rules, tests, ◌∙◌, ap, sym, refl}
use Rattle.std.specs.Prelude.{find, option_map}
use Rattle.std.proofs.lemmas.Iterator.{YieldsList-from_slice}
use Rattle.std.proofs.lemmas.Iterator.Search.{find_from_yields_List}
use Rattle.asn1_input.specs.Reader.{has_stray, stray_place}
use Rattle.asn1_input.proofs.Malformed.{malformed_by, malformed_is}
use Rattle.asn1_input.proofs.digits.malformed_base64.Goals as goal

pub returns-in-Some : goal.returns-in-Some
returns-in-Some c =
    let found : option_map (λ y. y.now) c.find.result ≡ find (λ l. has_stray l.text.now) c.args.lines.now =
    find_from_yields_List (λ l. has_stray l.text.now) _ _ c.find.result c.find.ensures.ran (YieldsList-from_slice c.args.lines.now c.iter.ensures.rest)
    (λ x b q k. search (rules, tests)) in
    let place = ap (λ o. stray_place o c.args.end) (ap (option_map (λ y. y.now)) (sym c.in-Some.is) ∙ found) in
    malformed_by _ _ c.malformed_line.result (λ o k x. (x.0 ∙ place, x.1)) c.malformed_line.ensures

pub returns-in-None : goal.returns-in-None
returns-in-None c =
    let found : option_map (λ y. y.now) c.find.result ≡ find (λ l. has_stray l.text.now) c.args.lines.now =
    find_from_yields_List (λ l. has_stray l.text.now) _ _ c.find.result c.find.ensures.ran (YieldsList-from_slice c.args.lines.now c.iter.ensures.rest)
    (λ x b q k. search (rules, tests)) in
    let place = ap (λ o. stray_place o c.args.end) (ap (option_map (λ y. y.now)) (sym c.in-None.is) ∙ found) in
    malformed_is _ c.malformed.result _ _ _ c.malformed.ensures (place, refl)
