use Rattle.std.proofs.Common.{ℕ, List, ◌<◌, ◌*◌, ◌++◌, Fits, w8, w64, length-append, rules, ◌∙◌, ◌-◌, take, sym, ap, set, get_or, length-set, arith, refl, subst, ◌≡◌, ◌+◌, ◌≤◌, length}
use Rattle.yasna_base.specs.declared.mode.BERMode.{BERMode}
use Rattle.yasna_base.specs.Header.{ContentsEnd}
use Rattle.yasna_bytes.specs.Header.{EndsBefore}
use Rattle.yasna_bytes.specs.Walk.{Passes, Enters, EndsWithin, Stops}
use Rattle.yasna_bytes.proofs.Header.{seen_within}
use Rattle.yasna_bytes.proofs.WalkEnds.{Walking, walking_start, left_fits, left_counts, passed_fits, entered_fits, ends_outermost, left_walked, left_keeps, passed_keeps, entered_keeps, not_walked}
use Rattle.yasna_bytes.proofs.bytes.walk.walk_contents.Goals as goal

-- a level of those that are left is in the table of what follows
shallow_within : (d k n : ℕ) → d + k ≡ n → n ≤ 100 → k ≤ 101
shallow_within d k n e h = omega arith

inner_within : (d k n i : ℕ) → d + k ≡ n → n ≤ 100 → (k ≡ n → ⊥) → i ≡ k → i < 100
inner_within d k n i e h l f = omega arith

entered_within : (d k n i : ℕ) → d + k ≡ n → n ≤ 100 → 1 ≤ k → i ≡ k - 1 → i < 100
entered_within d k n i e h l f = omega arith

eight_fit : (i : ℕ) → i < 100 → Fits w64 (i * 8)
eight_fit i h = omega arith

one_more_fits : (d k n : ℕ) → d + k ≡ n → n ≤ 100 → Fits w8 (k + 1)
one_more_fits d k n e h = omega arith

-- what follows an element of the innermost contents, and what follows these, are in the outermost
all_after : {m : BERMode} {e : ContentsEnd} {n : ℕ} {s table : List ℕ} {trailing k : ℕ} {r : List ℕ} → Walking m e n s table trailing k r →
    (a : List ℕ) → length a ≤ length r → trailing + length a ≤ length s
all_after {r = r} w a fits =
    omega (arith, fits, w.counts, ap length w.joined, length-append w.before (r ++ w.after), length-append r w.after)

pub loop-after-init : goal.loop-after-init
loop-after-init c = (refl, walking_start c.args.cursor.mode c.args.outermost.now.end c.args.cursor.levels c.args.cursor.left.now _)

pub returns-then-levels-cursor : goal.returns-then-levels-cursor
returns-then-levels-cursor c =
    let w = c.loop-after.invariant.1 in
    let b = c.at_depth.ensures in
    let x : EndsWithin c.args.outermost.now.end c.at_depth.result.left.now c.in-Ok-Left.after.now = search rules in
    let y : EndsBefore c.args.outermost.now.end c.at_depth.result.left.now c.followed_by.result.now =
    subst (λ a. EndsBefore c.args.outermost.now.end c.at_depth.result.left.now a) (sym c.followed_by.ensures)
    (ends_outermost c.args.outermost.now.end c.at_depth.result.left.now c.in-Ok-Left.after.now x) in
    left_walked w b.mode b.levels b.left c.followed_by.result.now c.if-levels-cursor.true y

pub all_but-left-requires : goal.all_but-left-requires
all_but-left-requires c =
    let w = c.loop-after.invariant.1 in
    let b = c.at_depth.ensures in
    let x : EndsWithin c.args.outermost.now.end c.at_depth.result.left.now c.in-Ok-Left.after.now = search rules in
    let z = left_keeps w b.mode b.levels b.left c.in-Ok-Left.after.now c.last-rest.result.now _ c.if-levels-cursor.false x c.last-rest.ensures refl in
    subst (λ i. get_or c.loop-after.outer i 0 ≤ length c.last-rest.result.now) (sym c.from.ensures) z.0

pub loop-after-smaller-in-Ok-Left : goal.loop-after-smaller-in-Ok-Left
loop-after-smaller-in-Ok-Left c =
    let w = c.loop-after.invariant.1 in
    let b = c.at_depth.ensures in
    let x : EndsWithin c.args.outermost.now.end c.at_depth.result.left.now c.in-Ok-Left.after.now = search rules in
    let l = left_fits w b.mode b.levels b.left c.in-Ok-Left.after.now x in
    let f = subst (λ i. c.all_but-left.result.now ≡ take (length c.last-rest.result.now - get_or c.loop-after.outer i 0) c.last-rest.result.now) c.from.ensures
    c.all_but-left.ensures in
    let n = left_counts w b.mode b.levels b.left c.in-Ok-Left.after.now c.last-rest.result.now c.all_but-left.result.now c.if-levels-cursor.false x
    c.last-rest.ensures f in
    omega (arith, l, n, w.deep, ap (λ i. get_or c.loop-after.outer i 0) c.from.ensures, c.if-levels-cursor.false)

pub loop-after-preserved-in-Ok-Left : goal.loop-after-preserved-in-Ok-Left
loop-after-preserved-in-Ok-Left c =
    let i = c.loop-after.invariant in
    let b = c.at_depth.ensures in
    let x : EndsWithin c.args.outermost.now.end c.at_depth.result.left.now c.in-Ok-Left.after.now = search rules in
    let f = subst (λ i. c.all_but-left.result.now ≡ take (length c.last-rest.result.now - get_or c.loop-after.outer i 0) c.last-rest.result.now) c.from.ensures
    c.all_but-left.ensures in
    let z = left_keeps i.1 b.mode b.levels b.left c.in-Ok-Left.after.now c.last-rest.result.now c.all_but-left.result.now c.if-levels-cursor.false x
    c.last-rest.ensures f in (
      i.0,
      subst (λ i. Walking c.args.cursor.mode c.args.outermost.now.end c.args.cursor.levels c.args.cursor.left.now c.loop-after.outer
          (get_or c.loop-after.outer i 0) (c.loop-after.levels + 1) c.all_but-left.result.now) (sym c.from.ensures) z.1,
    )

pub loop-after-smaller-in-Ok-Passed : goal.loop-after-smaller-in-Ok-Passed
loop-after-smaller-in-Ok-Passed c =
    let w = c.loop-after.invariant.1 in
    let b = c.at_depth.ensures in
    let x : Passes c.at_depth.result.mode c.at_depth.result.levels c.at_depth.result.left.now c.in-Ok-Passed.after.now = search rules in
    omega (arith, passed_fits w b.mode b.levels b.left c.in-Ok-Passed.after.now x)

pub loop-after-preserved-in-Ok-Passed : goal.loop-after-preserved-in-Ok-Passed
loop-after-preserved-in-Ok-Passed c =
    let i = c.loop-after.invariant in
    let b = c.at_depth.ensures in
    let x : Passes c.at_depth.result.mode c.at_depth.result.levels c.at_depth.result.left.now c.in-Ok-Passed.after.now = search rules in
    (i.0, passed_keeps i.1 b.mode b.levels b.left c.in-Ok-Passed.after.now x)

pub loop-after-smaller : goal.loop-after-smaller
loop-after-smaller c =
    let w = c.loop-after.invariant.1 in
    let b = c.at_depth.ensures in
    let x : Enters c.at_depth.result.mode c.at_depth.result.levels c.at_depth.result.left.now c.in-Ok-Entered.opened.contents
    c.in-Ok-Entered.opened.end = search rules in
    let f = c.in-Ok-Entered.opened.end in
    let g = c.count_following-trailing.ensures in
    let l = entered_fits w b.mode b.levels b.left c.in-Ok-Entered.opened.contents f x in
    omega (arith, l, g, w.deep, b.levels, x.opened.level, ap length (seen_within c.opened.view_is))

pub loop-after-preserved : goal.loop-after-preserved
loop-after-preserved c =
    let i = c.loop-after.invariant in
    let b = c.at_depth.ensures in
    let x : Enters c.at_depth.result.mode c.at_depth.result.levels c.at_depth.result.left.now c.in-Ok-Entered.opened.contents
    c.in-Ok-Entered.opened.end = search rules in
    let f = c.in-Ok-Entered.opened.end in
    let g = c.count_following-trailing.ensures in
    let z = entered_keeps i.1 b.mode b.levels b.left c.in-Ok-Entered.opened.contents f c.requires.walked (omega (arith, i.0, c.requires.shallow)) x in (
      length-set c.loop-after.outer c.from-in-Ok-Entered.result c.loop-after.trailing ∙ i.0,
      subst (λ r. Walking c.args.cursor.mode c.args.outermost.now.end c.args.cursor.levels c.args.cursor.left.now
          (set c.loop-after.outer c.from-in-Ok-Entered.result c.loop-after.trailing) (c.loop-after.trailing + c.count_following-trailing.result)
          (c.loop-after.levels - 1) r) (sym (seen_within c.opened.view_is))
          (subst (λ j. Walking c.args.cursor.mode c.args.outermost.now.end c.args.cursor.levels c.args.cursor.left.now
          (set c.loop-after.outer j c.loop-after.trailing) (c.loop-after.trailing + c.count_following-trailing.result) (c.loop-after.levels - 1)
          c.in-Ok-Entered.opened.contents) (sym c.from-in-Ok-Entered.ensures)
          (subst (λ k. Walking c.args.cursor.mode c.args.outermost.now.end c.args.cursor.levels c.args.cursor.left.now
          (set c.loop-after.outer (c.loop-after.levels - 1) c.loop-after.trailing) (c.loop-after.trailing + k) (c.loop-after.levels - 1)
          c.in-Ok-Entered.opened.contents) (sym g) z)),
    )

pub returns-in-Err : goal.returns-in-Err
returns-in-Err c =
    let b = c.at_depth.ensures in
    let x : Stops c.at_depth.result.mode c.at_depth.result.levels c.args.outermost.now.end c.at_depth.result.left.now c.in-Err.kind = search rules in
    rw c.stopped.ensures (not_walked c.loop-after.invariant.1 b.mode b.levels b.left c.in-Err.kind x)

pub at_depth-requires : goal.at_depth-requires
at_depth-requires c = shallow_within _ _ _ c.loop-after.invariant.1.deep c.requires.shallow

pub last-rest-requires : goal.last-rest-requires
last-rest-requires c =
    let w = c.loop-after.invariant.1 in
    let b = c.at_depth.ensures in
    let x : EndsWithin c.args.outermost.now.end c.at_depth.result.left.now c.in-Ok-Left.after.now = search rules in
    all_after w _ (left_fits w b.mode b.levels b.left c.in-Ok-Left.after.now x)

pub offset_bounds-outer-from : goal.offset_bounds-outer-from
offset_bounds-outer-from c =
    eight_fit _ (inner_within _ _ _ _ c.loop-after.invariant.1.deep c.requires.shallow c.if-levels-cursor.false c.from.ensures)

pub bounds-outer-from : goal.bounds-outer-from
bounds-outer-from c = inner_within _ _ _ _ c.loop-after.invariant.1.deep c.requires.shallow c.if-levels-cursor.false c.from.ensures

pub overflow_add-levels : goal.overflow_add-levels
overflow_add-levels c = one_more_fits _ _ _ c.loop-after.invariant.1.deep c.requires.shallow

pub overflow_sub-levels : goal.overflow_sub-levels
overflow_sub-levels c =
    let b = c.at_depth.ensures in
    let x : Enters c.at_depth.result.mode c.at_depth.result.levels c.at_depth.result.left.now c.in-Ok-Entered.opened.contents
    c.in-Ok-Entered.opened.end = search rules in
    subst (λ k. 1 ≤ k) b.levels x.opened.level

pub offset_bounds-outer-from-in-Ok-Entered : goal.offset_bounds-outer-from-in-Ok-Entered
offset_bounds-outer-from-in-Ok-Entered c =
    let b = c.at_depth.ensures in
    let x : Enters c.at_depth.result.mode c.at_depth.result.levels c.at_depth.result.left.now c.in-Ok-Entered.opened.contents
    c.in-Ok-Entered.opened.end = search rules in
    let some = subst (λ k. 1 ≤ k) b.levels x.opened.level in
    eight_fit _ (entered_within _ _ _ _ c.loop-after.invariant.1.deep c.requires.shallow some c.from-in-Ok-Entered.ensures)

pub bounds-outer-from-in-Ok-Entered : goal.bounds-outer-from-in-Ok-Entered
bounds-outer-from-in-Ok-Entered c =
    let b = c.at_depth.ensures in
    let x : Enters c.at_depth.result.mode c.at_depth.result.levels c.at_depth.result.left.now c.in-Ok-Entered.opened.contents
    c.in-Ok-Entered.opened.end = search rules in
    let some = subst (λ k. 1 ≤ k) b.levels x.opened.level in
    entered_within _ _ _ _ c.loop-after.invariant.1.deep c.requires.shallow some c.from-in-Ok-Entered.ensures
