use Rattle.std.proofs.Common.{rules, ◌≡◌, ◌+◌, get_or, drop, sym, subst, true, arith}
use Rattle.std.proofs.lemmas.Bool.Decides.{nat_tests}
use Rattle.std.proofs.lemmas.List.{at_drop_all}
use Rattle.yasna_base.proofs.Digits.{slice_bytes}
use Rattle.asn1_contents.proofs.Subidentifiers.{AreLeft, one_octet, rejected, octets_left, none_left, some_numbers, some_octets}
use Rattle.asn1_contents.proofs.plain.are_subidentifiers.Goals.{else-begins-via-then-begins+else-octet, else-begins-via-else-begins}
use Rattle.asn1_contents.proofs.plain.are_subidentifiers.Goals as goal

pub returns-then-octet : goal.returns-then-octet
returns-then-octet c =
    let contents = c.args.contents.now in
    let i = c.loop-octet.octet-index in
    let left = octets_left contents i (slice_bytes contents c.type_inv.contents) (search rules) in (
      λ u. absurd (cc),
      λ w. absurd (rejected c.loop-octet.begins (get_or contents i 0) (drop (i + 1) contents) c.if-begins.true (search rules)
          (subst (AreLeft c.loop-octet.begins) left.0 (c.loop-octet.invariant.0 (w.numbers, w.spelled)))),
    )

pub loop-octet-preserved : goal.loop-octet-preserved
loop-octet-preserved c =
    let contents = c.args.contents.now in
    let i = c.loop-octet.octet-index in
    let left = octets_left contents i (slice_bytes contents c.type_inv.contents) (search rules) in
    let other : c.loop-octet.begins ≡ true → get_or contents i 0 ≡ 128 → ⊥ = λ e f. elim c.else-begins.branch [
      | else-begins-via-then-begins+else-octet w ↦ let g = w.if-octet.false in search rules
      | else-begins-via-else-begins w ↦ let g = w.if-begins.false in absurd (cc)
    ] in
    let step = one_octet c.loop-octet.begins (get_or contents i 0) (drop (i + 1) contents) left.1 other in
    rw c.is_last-begins.ensures (
      (λ w. step.0 (subst (AreLeft c.loop-octet.begins) left.0 (c.loop-octet.invariant.0 w))),
      (λ w. c.loop-octet.invariant.1 (subst (AreLeft c.loop-octet.begins) (sym left.0) (step.1 w))),
    )

pub returns-then-begins-2 : goal.returns-then-begins-2
returns-then-begins-2 c =
    let contents = c.args.contents.now in
    let i = c.loop-octet.octet-index in
    let none = at_drop_all (λ z. z) contents i c.loop-octet-test.false in
    let all = none_left c.loop-octet.begins (drop i contents) c.if-begins-2.true none in (
      λ u. let e = c.is_empty.ensures in some_numbers contents (grind (arith, nat_tests)) (c.loop-octet.invariant.1 all),
      λ w. let e = c.is_empty.ensures in let some = some_octets contents w in grind (arith, nat_tests),
    )
