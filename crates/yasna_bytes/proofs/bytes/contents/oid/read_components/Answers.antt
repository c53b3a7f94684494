use Rattle.std.proofs.Common.{◌<◌, length, inl, inr, refl, arith, rules, subst, ◌≡◌, []}
use Rattle.yasna_base.proofs.Lists.{empty_is}
use Rattle.yasna_base.specs.Oid.{AreComponents}
use Rattle.yasna_bytes.proofs.Contents.{copy_may_allocate}
use Rattle.yasna_bytes.proofs.Oid.{never_empty, no_further}
use Rattle.yasna_bytes.proofs.bytes.contents.oid.read_components.Goals as goal

pub returns-then-is_empty : goal.returns-then-is_empty
returns-then-is_empty c =
    let e = c.if-is_empty.ensures {u = tt} in
    let n : c.args.contents.now ≡ [] = empty_is c.args.contents.now (search (arith, rules)) in
    λ m. inr (tt, λ v x. never_empty m v (subst (λ z. AreComponents m v z) n x))

pub returns-in_default : goal.returns-in_default
returns-in_default c =
    let e = c.if-is_empty.ensures {u = tt} in
    let l : 0 < length c.args.contents.now = search (arith, rules) in
    λ m. inl (refl, copy_may_allocate c.args.contents.now l)

pub returns-in-Err-push_first : goal.returns-in-Err-push_first
returns-in-Err-push_first c =
    let e = c.if-is_empty.ensures {u = tt} in
    let l : 0 < length c.args.contents.now = search (arith, rules) in
    λ m. inl (c.in-Err-push_first.ensures {u = tt}, copy_may_allocate c.args.contents.now l)

pub returns-in-Err-push_all : goal.returns-in-Err-push_all
returns-in-Err-push_all c =
    let e = c.if-is_empty.ensures {u = tt} in
    let l : 0 < length c.args.contents.now = search (arith, rules) in
    λ m. elim (c.in-Err-push_all.ensures {u = tt}) [
      | inl k ↦ inl (k, copy_may_allocate c.args.contents.now l)
      | inr h ↦
          let first = c.in-Ok-subidentifier.first in
          inr (h.0, no_further m c.args.contents.now first.0 first.1.now (c.in-Ok-subidentifier.ensures {u = tt}) h.1)
    ]
