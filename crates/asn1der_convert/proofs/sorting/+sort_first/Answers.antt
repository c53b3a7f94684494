use Rattle.std.proofs.Common.{◌≡◌, ◌-◌, ◌/◌, ◌≤◌, length, take, drop, subst, refl, arith}
use Rattle.std.proofs.lemmas.Slice.{between_to_end}
use borrow.Rule.Slice.PartMut.{put_mid}
use Rattle.asn1der_convert.specs.Rows.{SortsFirst}
use Rattle.asn1der_convert.proofs.Weaving.{sorts_both, tail_put, woven_size}
use Rattle.asn1der_convert.proofs.sorting.+sort_first.Goals as goal

pub returns-clause-sorted : goal.returns-clause-sorted
returns-clause-sorted t c =
    let one = c.sort_first.new.elements in
    let m = c.in_ok-front.front in
    let n = c.in_ok-back.back in
    let y = c.sort_first-2.new.elements in
    let u = put_mid m (length one - m) one y in
    let x = c.merge.new.elements in
    let half = c.args.count / 2 in
    let all : take (length one - m) (drop m one) ≡ drop m one = between_to_end one m (length one) (omega arith) in
    let within : m ≤ length one = omega (arith, c.in_ok-front.ensures.within, c.in_ok-front.ensures.len) in
    let second = subst (λ z. SortsFirst c.args.key (c.args.count - half) z y n) all c.in_ok-back.ensures.sorted in
    let size = woven_size m n one y x all within c.in_ok-back.ensures.len c.in_ok-back.ensures.within c.in_ok-merge.ensures.len in
    sorts_both c.args.key c.args.count half m n c.args.elements.now one u _ y x (omega arith) c.in_ok-front.ensures.sorted second (tail_put m one y) within
    c.in_ok-merge.ensures.woven size refl
