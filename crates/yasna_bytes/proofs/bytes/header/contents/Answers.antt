use Rattle.std.proofs.Common.{rules, ◌≡◌, ◌∷◌, Some, refl}
use Rattle.yasna_bytes.specs.Length.{Measures}
use Rattle.yasna_base.specs.Header.{definite_end, indefinite_end}
use Rattle.yasna_bytes.specs.Header.{Holds}
use Rattle.yasna_base.proofs.Digits.{slice_bytes}
use Rattle.yasna_bytes.proofs.Header.{holds_counted, holds_uncounted, holds_none, holds_short, holds_closed, holds_bytes}
use Rattle.yasna_bytes.proofs.bytes.header.contents.Goals as goal

pub returns-then-takes_definite : goal.returns-then-takes_definite
returns-then-takes_definite c =
    let w : Measures c.args.mode c.args.s.now (Some c.in-Ok-Some-default.size) c.in-Ok-Some-default.rest.now = search rules in
    let x = c.in-Some.ensures {u = tt} in
    let h : Holds c.args.mode c.args.bit c.args.s.now c.in-Some.contents.now (definite_end c.in-Some.after.now) =
    holds_counted c.args.mode c.args.bit c.args.s.now c.in-Ok-Some-default.rest.now c.in-Some.contents.now c.in-Some.after.now c.in-Ok-Some-default.size w x.1
    x.0 ((c.if-takes_definite.ensures {u = tt}).0 refl) in
    record {
      bit = refl;
      in_bytes = holds_bytes c.args.mode c.args.bit c.args.s.now c.in-Some.contents.now (definite_end c.in-Some.after.now)
          (slice_bytes c.args.s.now c.type_inv.s) h;
      holds = h;
    }

pub returns-else-takes_definite : goal.returns-else-takes_definite
returns-else-takes_definite c =
    let w : Measures c.args.mode c.args.s.now (Some c.in-Ok-Some-default.size) c.in-Ok-Some-default.rest.now = search rules in (
      tt,
      holds_uncounted c.args.mode c.args.bit c.args.s.now c.in-Ok-Some-default.rest.now c.in-Ok-Some-default.size w
          (λ h. let z = (c.if-takes_definite.ensures {u = tt}).1 h in cc),
    )

pub returns-then-takes_indefinite : goal.returns-then-takes_indefinite
returns-then-takes_indefinite c =
    let w : c.args.s.now ≡ 128 ∷ c.in-Ok-None-default.contents.now = search rules in
    let h : Holds c.args.mode c.args.bit c.args.s.now c.in-Ok-None-default.contents.now indefinite_end = ((c.if-takes_indefinite.ensures {u = tt}).0 refl, w) in
    record {
      bit = refl;
      in_bytes = holds_bytes c.args.mode c.args.bit c.args.s.now c.in-Ok-None-default.contents.now indefinite_end (slice_bytes c.args.s.now c.type_inv.s) h;
      holds = h;
    }

pub returns-in-None : goal.returns-in-None
returns-in-None c =
    let w : Measures c.args.mode c.args.s.now (Some c.in-Ok-Some-default.size) c.in-Ok-Some-default.rest.now = search rules in
    (search rules, holds_short c.args.mode c.args.bit c.args.s.now c.in-Ok-Some-default.rest.now c.in-Ok-Some-default.size w (search rules))

pub returns-else-takes_indefinite : goal.returns-else-takes_indefinite
returns-else-takes_indefinite c =
    let w : c.args.s.now ≡ 128 ∷ c.in-Ok-None-default.contents.now = search rules in
    (tt, holds_closed c.args.mode c.args.bit c.args.s.now c.in-Ok-None-default.contents.now w (λ h. let z = (c.if-takes_indefinite.ensures {u = tt}).1 h in cc))

pub returns-in-Err : goal.returns-in-Err
returns-in-Err c = let w = c.in-Err.ensures {u = tt} in (w.0, holds_none c.args.mode c.args.bit c.args.s.now w.1)
