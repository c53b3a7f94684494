use Rattle.std.proofs.Common.{rules, ◌≡◌, ◌<◌, ◌++◌, ◌^◌, length, refl, arith}
use Rattle.yasna_base.specs.Identifier.{identifier, nothing}
use Rattle.yasna_base.proofs.Lists.{empty_is}
use Rattle.yasna_bytes.proofs.Header.{held_opens}
use Rattle.yasna_bytes.proofs.RawHeader.{first_at_end, first_not_end, end_rejects, not_held_opens}
use Rattle.yasna_bytes.proofs.bytes.walk.open_any.Goals as goal

pub returns-in_default : goal.returns-in_default
returns-in_default c =
    let l : length c.args.cursor.left.now ≡ 0 = omega (arith, c.in_default.len_below) in
    rw c.reject.ensures (end_rejects c.args.cursor.mode c.args.cursor.levels c.args.cursor.left.now _ (nothing (empty_is c.args.cursor.left.now l)) tt refl)

pub returns-then-is_end : goal.returns-then-is_end
returns-then-is_end c =
    let a = first_at_end c.args.cursor.left.now c.in-len1-up.len_at_least (search rules) in
    rw c.reject-then-is_end.ensures (end_rejects c.args.cursor.mode c.args.cursor.levels c.args.cursor.left.now _ a tt refl)

pub returns-in-Ok-open_after_identifier : goal.returns-in-Ok-open_after_identifier
returns-in-Ok-open_after_identifier c =
    let s = c.args.cursor.left.now in
    let found = c.in-Ok.identifier in
    let e : s ≡ identifier found.0 found.1 ++ found.2.now = search rules in
    let h = c.in-Ok-open_after_identifier.ensures {u = tt} in
    record {
      level = h.0;
      not_end = first_not_end s found.2.now found.0 found.1 (λ f. let z = (c.if-is_end.ensures {u = tt}).1 f in cc) e;
      opens = held_opens c.args.cursor.mode found.0 found.1 s found.2.now c.in-Ok-open_after_identifier.opened (search rules) e h.1;
    }

pub returns-in-Err-open_after_identifier : goal.returns-in-Err-open_after_identifier
returns-in-Err-open_after_identifier c =
    let s = c.args.cursor.left.now in
    let found = c.in-Ok.identifier in
    let e : s ≡ identifier found.0 found.1 ++ found.2.now = search rules in
    let b : found.0.tag_number < 2 ^ 64 = search rules in
    let w = c.in-Err-open_after_identifier.ensures {u = tt} in
    not_held_opens c.args.cursor.mode c.args.cursor.levels s c.in-Err-open_after_identifier.rejection found.0 found.1 found.2.now b
    (first_not_end s found.2.now found.0 found.1 (λ f. let z = (c.if-is_end.ensures {u = tt}).1 f in cc) e) e w.0 w.1
