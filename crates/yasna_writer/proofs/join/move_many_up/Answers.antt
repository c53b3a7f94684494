use Rattle.std.proofs.Common.{◌≡◌, ◌-◌, ◌≤◌, ◌++◌, length, take, drop, slice_range, refl, subst, ◌∙◌, arith, length-take}
use Rattle.std.proofs.lemmas.List.{take_at}
use Rattle.yasna_writer.specs.Put.{PutBefore}
use Rattle.yasna_writer.proofs.Joins.{shifted_more}
use Rattle.yasna_writer.proofs.join.move_many_up.Goals as goal

pub loop-from-preserved : goal.loop-from-preserved
loop-from-preserved c =
    let i = c.loop-from.invariant in
    let n = c.min-length.result in
    let from = c.loop-from.from in
    let few : n ≤ from - c.args.start = omega (arith, c.min-length.ensures) in
    let long : length c.copy_from_slice.new.self ≡ n =
    omega (arith, c.copy_from_slice.ensures.len, length-take n c.loop-from.copy, c.min-length.array_long, c.min-length.ensures) in
    let part : take n (c.copy_from_slice.new.self ++ drop n c.loop-from.copy) ≡ slice_range c.loop-from.bytes (from - n) from =
    take_at c.copy_from_slice.new.self (drop n c.loop-from.copy) n long ∙ c.copy_from_slice.ensures.after in
    record {
      left = omega (arith, few, i.left);
      within = omega (arith, i.within);
      put = shifted_more (from - n) from c.args.end c.args.to n c.loop-from.place c.put_bytes-place.result c.args.bytes.now c.loop-from.bytes
          c.put_bytes-place.new.out refl (omega (arith, few)) i.within c.requires.up c.requires.within i.put
          (subst (λ x. PutBefore x c.loop-from.place c.loop-from.bytes c.put_bytes-place.new.out c.put_bytes-place.result) part c.put_bytes-place.ensures.put);
      len = c.put_bytes-place.ensures.len ∙ i.len;
    }

pub returns-clause-put : goal.returns-clause-put
returns-clause-put c =
    let there : c.loop-from.from ≡ c.args.start = omega (arith, c.loop-from.invariant.left, c.loop-from-test.false) in
    subst (λ n. PutBefore (slice_range c.args.bytes.now n c.args.end) c.args.to c.args.bytes.now c.loop-from.bytes c.loop-from.place) there
    c.loop-from.invariant.put
