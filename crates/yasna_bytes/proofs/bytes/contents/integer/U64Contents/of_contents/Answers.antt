use Rattle.std.proofs.Common.{refl, arith, rules, inr}
use Rattle.yasna_base.proofs.Digits.{slice_bytes}
use Rattle.yasna_bytes.proofs.Integer.{not_unsigned, encodes_unsigned, unsigned_is}
use Rattle.yasna_bytes.proofs.bytes.contents.integer.U64Contents.of_contents.Goals as goal

pub returns-then-contents-ge128 : goal.returns-then-contents-ge128
returns-then-contents-ge128 c = inr (tt, not_unsigned 64 c.args._mode c.args.contents.now c.if-contents-ge128.true)

pub returns-in-Some : goal.returns-in-Some
returns-in-Some c = encodes_unsigned 64 c.args._mode c.args.contents.now c.in-Some.number (slice_bytes c.args.contents.now c.type_inv.contents)
    ((c.if-not-is_minimal.ensures {u = tt}).0 refl) c.if-contents-ge128.false (c.in-Some.ensures {u = tt}) (search rules)

pub returns-in-None : goal.returns-in-None
returns-in-None c = inr (
  tt,
  λ v u. let e = unsigned_is 64 c.args._mode c.args.contents.now c.if-contents-ge128.false v u in let l = u.in_type in let w =
      c.in-None.ensures {u = tt} in omega arith,
)
