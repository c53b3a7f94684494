use Rattle.std.proofs.Common.{◌≡◌, ◌+◌, ◌-◌, ◌≤◌, length, take, drop, None, length-append, length-drop, ap, subst, ◌∙◌, refl, arith}
use Rattle.std.proofs.lemmas.Slice.{between_to_end}
use borrow.Rule.Slice.PartMut.{put_mid}
use Rattle.asn1der_convert.specs.Rows.{IsSizeBefore, BeforeAt, part_of}
use Rattle.asn1der_convert.proofs.Weaving.{woven_none, woven_first, woven_second, woven_all, shifted, put_over}
use Rattle.asn1der_convert.proofs.sorting.weave.Goals as goal

pub loop-first-init : goal.loop-first-init
loop-first-init c = record {
  room = omega arith;
  within = omega arith;
  long = refl;
  woven = λ us vs a b. woven_none c.args.key us vs c.args.elements.now c.args.others.now a b;
}

pub loop-first-preserved-in-Some-size_before : goal.loop-first-preserved-in-Some-size_before
loop-first-preserved-in-Some-size_before c =
    let before = c.loop-first.invariant in
    let e = c.loop-first.elements in
    let f = c.copy_within.new.self in
    let place = c.loop-first.place in
    let from = c.loop-first.from in
    let size = c.in-Some-size_before.size in
    let x = c.in-Some.first in
    let t = c.in-Some.ensures {u = tt} in
    let all : take (length e - from) (drop from e) ≡ drop from e = between_to_end e from (length e) (omega arith) in
    let s = subst (λ z. IsSizeBefore c.args.key z (part_of x) size) all (c.in-Some-size_before.ensures {u = tt}) in
    let fits : from + size ≤ length e = omega (arith, s.within, length-drop from e, before.within) in
    let m = shifted e f place from size c.copy_within.ensures.after (omega (arith, before.room)) fits in
    record {
      room = omega (arith, before.room);
      within = omega (arith, fits, m.long);
      long = m.long ∙ before.long;
      woven = λ us vs a b. woven_second c.args.key us vs e f c.loop-first.left.now place from size x c.in-Some.rest.now (before.woven us vs a b) t s m.taken m.stays;
    }

pub loop-first-preserved : goal.loop-first-preserved
loop-first-preserved c =
    let before = c.loop-first.invariant in
    let e = c.loop-first.elements in
    let place = c.loop-first.place in
    let from = c.loop-first.from in
    let x = c.in-Some.first in
    let b = x.bytes.now in
    let k = (place + length b) - place in
    let ys = c.copy_from_slice.new.self in
    let t = c.in-Some.ensures {u = tt} in
    let lengths = ap length t.joined ∙ length-append b c.in-Some.rest.now in
    let all : take (length e - from) (drop from e) ≡ drop from e = between_to_end e from (length e) (omega arith) in
    let none = subst (λ z. BeforeAt c.args.key z (part_of x) None) all (c.in_default-size_before.ensures {u = tt}) in
    let o = put_over e (put_mid place k e ys) ys b place k from refl c.copy_from_slice.ensures.after (omega arith) (omega (arith, before.room, lengths)) before.within in
    record {
      room = omega (arith, before.room, lengths);
      within = omega (arith, before.within, o.long);
      long = o.long ∙ before.long;
      woven = λ us vs a' b'. woven_first c.args.key us vs e (put_mid place k e ys) c.loop-first.left.now place from x c.in-Some.rest.now (before.woven us vs a' b') t none o.taken o.stays;
    }

pub returns-clause-woven : goal.returns-clause-woven
returns-clause-woven c = λ us vs a b.
    woven_all c.args.key us vs c.loop-first.elements c.loop-first.left.now c.loop-first.place c.loop-first.from (c.loop-first.invariant.woven us vs a b) (c.in_default.ensures {u = tt})
    c.loop-first.invariant.room
