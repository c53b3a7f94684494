use Rattle.std.proofs.Common.{rules, ◌≡◌, ◌<◌, ◌^◌, ◌++◌}
use Rattle.yasna_base.specs.Identifier.{identifier, end_tag}
use Rattle.yasna_bytes.specs.Header.{NotHeld}
use Rattle.yasna_bytes.proofs.RawHeader.{not_held_opens}
use Rattle.asn1show_walk.proofs.Header.{end_item, no_item}
use Rattle.asn1show_walk.proofs.listing.header.open.Goals as goal

pub returns-then-eq : goal.returns-then-eq
returns-then-eq c =
    let x = c.in-Ok.identifier in
    let e : c.args.place.left.now ≡ identifier x.0 x.1 ++ x.2.now = search rules in
    let f : x.0 ≡ end_tag = search rules in
    end_item c.args.context c.args.place x.0 x.1 x.2.now _ _ f e c.malformed-then-eq.ensures

pub returns-in-Ok-open_after_identifier : goal.returns-in-Ok-open_after_identifier
returns-in-Ok-open_after_identifier c = search rules

pub returns-in-Err-open_after_identifier : goal.returns-in-Err-open_after_identifier
returns-in-Err-open_after_identifier c =
    let x = c.in-Ok.identifier in
    let p = c.args.place in
    let e : p.left.now ≡ identifier x.0 x.1 ++ x.2.now = search rules in
    let b : x.0.tag_number < 2 ^ 64 = search rules in
    let n : x.0 ≡ end_tag → ⊥ = search rules in
    let w = c.in-Err-open_after_identifier.ensures {u = tt} in
    let h : NotHeld c.args.context.mode c.args.context.levels x.1 x.2.now c.in-Err-open_after_identifier.rejection.kind = search rules in
    no_item c.args.context p c.in-Err-open_after_identifier.rejection _ _
    (not_held_opens c.args.context.mode c.args.context.levels p.left.now c.in-Err-open_after_identifier.rejection x.0 x.1 x.2.now b
    n e w.0 h) c.malformed-in-Err-open_after_identifier.ensures
