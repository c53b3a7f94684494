use Rattle.std.proofs.Common.{◌≡◌, ◌+◌, ◌*◌, ◌++◌, ℕ, arith, subst}
use Rattle.yasna_base.specs.Digits.{base128}
use Rattle.yasna_base.proofs.Base128.{scans_start, scans_found}
use Rattle.yasna_base.proofs.Digits.{all_bytes}
use Rattle.yasna_bytes.proofs.bytes.contents.oid.subidentifier.Goals as goal

pub returns : goal.returns
returns c =
    let s = c.args.s.now in
    let bytes = all_bytes s (λ i. let f = c.type_inv.s i in omega arith) in
    let there = (c.in-Some.ensures {u = tt}).cases.0 in
    let blames_bytes : 0 * 128 + c.in-Some.byte.now ≡ c.in-Some.byte.now = omega arith in
    rw c.from.ensures (subst (λ (k : ℕ). s ≡ base128 k ++ c.in-Some.after.now) blames_bytes
    (scans_found s 0 c.in-Some.byte.now s c.in-Some.after.now bytes (scans_start s bytes) there c.if-byte-lt128.true))
