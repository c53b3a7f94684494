use Rattle.std.proofs.Common.{rules, ◌-◌, ◌<◌, ◌∙◌, length, refl, sym, ap, ap₂, subst}
use Rattle.yasna_base.specs.declared.tag.PCBit.TheVariants.{Constructed}
use Rattle.yasna_base.specs.Segmented.{segment_mode}
use Rattle.yasna_base.specs.Element.{IsPrimitive}
use Rattle.yasna_base.specs.Header.{OpensAt, definite_end}
use Rattle.yasna_bytes.specs.Prefix.{Takes}
use Rattle.yasna_bytes.specs.Header.{AreContents}
use Rattle.yasna_bytes.specs.Segments.{further_cut, RejectsSegments, TakesString, RejectsString}
use Rattle.yasna_bytes.proofs.Segmented.{header_rejected, whole_taken, whole_rejected, uncut_rejected, segments_rejected, cuts_rejected, unclosed_rejected, closed_taken, taken_inside, as_well, rejected_consumed}
use Rattle.yasna_bytes.proofs.Header.{seen_bit, seen_within, takes_primitive}
use Rattle.yasna_bytes.proofs.Segments.{Reached, reached_none, reached_more, reached_shorter, stops_elsewhere, stops_full, segment_rejected, segment_too_much}
use Rattle.yasna_bytes.proofs.bytes.segments.+string.Goals as goal

pub element-returns-in-Err : goal.element-returns-in-Err
element-returns-in-Err g t c =
    let p = c.args.cursor in (
      header_rejected g.T.Tally.segmentation p.levels p.mode c.args.tag p.left.now c.in-Err.rejection (c.in-Err.ensures {u = tt}),
      λ _. refl {a = c.args.out.now.items},
    )

pub element-returns-in-Ok-whole : goal.element-returns-in-Ok-whole
element-returns-in-Ok-whole g t c =
    let p = c.args.cursor in
    let w = c.in-Ok.ensures {u = tt} in
    let o : OpensAt p.mode c.args.tag c.in-Ok.opened.bit p.left.now c.in-Ok.opened.contents (definite_end c.in-Definite.after.now) = search rules in
    let x = subst (λ z. Takes (IsPrimitive AreContents c.args.tag p.mode p.levels) p.left.now z c.in-Definite.after.now)
    (sym (seen_within c.opened.view_is)) (takes_primitive p.mode p.levels c.args.tag c.in-Ok.opened.bit p.left.now c.in-Ok.opened.contents
    c.in-Definite.after.now w.0 (seen_bit c.opened.view_is c.in-Primitive.is) o) in
    let y = c.in-Ok-whole.ensures {u = tt} in
    record {
      bytes = y.0;
      takes = whole_taken g.T.Tally.segmentation p.levels p.mode c.args.tag p.left.now c.opened.inside.contents.now c.in-Definite.after.now
          (g.T.Tally.value y.0 c.in-Ok-whole.tally) x y.1 y.2;
      added = y.3;
    }

pub element-returns-in-Err-whole : goal.element-returns-in-Err-whole
element-returns-in-Err-whole g t c =
    let p = c.args.cursor in
    let w = c.in-Ok.ensures {u = tt} in
    let o : OpensAt p.mode c.args.tag c.in-Ok.opened.bit p.left.now c.in-Ok.opened.contents (definite_end c.in-Definite.after.now) = search rules in
    let x = subst (λ z. Takes (IsPrimitive AreContents c.args.tag p.mode p.levels) p.left.now z c.in-Definite.after.now)
    (sym (seen_within c.opened.view_is)) (takes_primitive p.mode p.levels c.args.tag c.in-Ok.opened.bit p.left.now c.in-Ok.opened.contents
    c.in-Definite.after.now w.0 (seen_bit c.opened.view_is c.in-Primitive.is) o) in
    rw c.reject-in-Err-whole.ensures (rejected_consumed
    (whole_rejected g.T.Tally.segmentation p.levels p.mode c.args.tag p.left.now c.opened.inside.contents.now c.in-Definite.after.now _ x
    (c.in-Err-whole.ensures {u = tt}) refl) refl)

pub element-returns-then-not-may_segment : goal.element-returns-then-not-may_segment
element-returns-then-not-may_segment g t c =
    let p = c.args.cursor in
    let w = c.in-Ok.ensures {u = tt} in
    let o : OpensAt p.mode c.args.tag Constructed p.left.now c.in-Ok.opened.contents c.in-Ok.opened.end = search rules in
    rw c.reject-then-not-may_segment.ensures (rejected_consumed
    (uncut_rejected g.T.Tally.segmentation p.levels (p.levels - 1) w.0 refl p.mode c.args.tag p.left.now c.in-Ok.opened.contents
    c.in-Ok.opened.end o _ refl (λ h. let z = (c.if-not-may_segment.ensures {u = tt}).1 h in cc) tt) refl)

pub element-returns-in-Err-segments : goal.element-returns-in-Err-segments
element-returns-in-Err-segments g t c =
    let p = c.args.cursor in
    let w = c.in-Ok.ensures {u = tt} in
    let o : OpensAt p.mode c.args.tag Constructed p.left.now c.in-Ok.opened.contents c.in-Ok.opened.end = search rules in
    let i = c.inside.ensures in
    let q = c.with_mode-contents.ensures in
    let x = as_well {x = c.inside.result.levels} {y = segment_mode p.mode} {z = c.in-Ok.opened.contents}
    (λ n m s. RejectsSegments g.T.Tally.segmentation n m s c.in-Err-segments.rejection) (q.levels) (q.mode ∙ c.inner_mode.ensures)
    (q.left ∙ i.left) (c.in-Err-segments.ensures {u = tt}) in
    rejected_consumed (segments_rejected g.T.Tally.segmentation p.levels c.inside.result.levels w.0 i.levels p.mode c.args.tag p.left.now c.in-Ok.opened.contents
    c.in-Ok.opened.end o _ x.consumed ((c.if-not-may_segment.ensures {u = tt}).0 refl) x) x.consumed

pub element-returns-then-not-takes_cuts : goal.element-returns-then-not-takes_cuts
element-returns-then-not-takes_cuts g t c =
    let p = c.args.cursor in
    let w = c.in-Ok.ensures {u = tt} in
    let o : OpensAt p.mode c.args.tag Constructed p.left.now c.in-Ok.opened.contents c.in-Ok.opened.end = search rules in
    let i = c.inside.ensures in
    let q = c.with_mode-contents.ensures in
    let x = taken_inside {n = c.inside.result.levels} {c = c.in-Ok.opened.contents} p.mode q.levels (q.mode ∙ c.inner_mode.ensures)
    (q.left ∙ i.left) (c.in-Ok-segments.ensures {u = tt}) in
    rw c.reject-then-not-takes_cuts.ensures (rejected_consumed
    (cuts_rejected g.T.Tally.segmentation p.levels c.inside.result.levels w.0 i.levels p.mode c.args.tag p.left.now c.in-Ok.opened.contents
    c.in-Ok.opened.end o _ refl x.holds tt (λ h. let z = (c.if-not-takes_cuts.ensures {u = tt}).1 h in cc)) refl)

pub element-returns-in-Ok-close : goal.element-returns-in-Ok-close
element-returns-in-Ok-close g t c =
    let p = c.args.cursor in
    let w = c.in-Ok.ensures {u = tt} in
    let o : OpensAt p.mode c.args.tag Constructed p.left.now c.in-Ok.opened.contents c.in-Ok.opened.end = search rules in
    let i = c.inside.ensures in
    let q = c.with_mode-contents.ensures in
    let r = c.in-Ok-segments.taken in
    let x = taken_inside {n = c.inside.result.levels} {c = c.in-Ok.opened.contents} p.mode q.levels (q.mode ∙ c.inner_mode.ensures)
    (q.left ∙ i.left) (c.in-Ok-segments.ensures {u = tt}) in
    closed_taken g.T.Tally.segmentation g.T.Tally.value p.levels c.inside.result.levels w.0 i.levels p.mode c.args.tag p.left.now c.in-Ok.opened.contents
    c.in-Ok.opened.end o ((c.if-not-may_segment.ensures {u = tt}).0 refl) r.0.0 r.0.1 r.1.now c.in-Ok-close.after.now
    c.args.out.now.items c.segments.new.out.items x ((c.if-not-takes_cuts.ensures {u = tt}).0 refl) (c.in-Ok-close.ensures {u = tt})

pub element-returns-in-Err-close : goal.element-returns-in-Err-close
element-returns-in-Err-close g t c =
    let p = c.args.cursor in
    let w = c.in-Ok.ensures {u = tt} in
    let o : OpensAt p.mode c.args.tag Constructed p.left.now c.in-Ok.opened.contents c.in-Ok.opened.end = search rules in
    let i = c.inside.ensures in
    let q = c.with_mode-contents.ensures in
    let x = taken_inside {n = c.inside.result.levels} {c = c.in-Ok.opened.contents} p.mode q.levels (q.mode ∙ c.inner_mode.ensures)
    (q.left ∙ i.left) (c.in-Ok-segments.ensures {u = tt}) in
    let y = c.in-Err-close.ensures {u = tt} in
    rw c.reject-in-Err-close.ensures (rejected_consumed
    (unclosed_rejected g.T.Tally.segmentation p.levels c.inside.result.levels w.0 i.levels p.mode c.args.tag p.left.now c.in-Ok.opened.contents
    c.in-Ok.opened.end o _ refl x.holds y.0 y.1) refl)

pub segments-loop-out-init : goal.segments-loop-out-init
segments-loop-out-init g t c = record {
  levels = refl;
  mode = refl;
  reached = reached_none (g.met.T.Tally.once) (g.met.T.Tally.go_on) c.args.contents.levels c.args.contents.mode c.args.contents.left.now c.none-tally.result
      c.none-cuts.result c.args.out.now.items c.none-cuts.ensures (c.none-tally.ensures c.args.contents.mode);
}

pub segments-loop-out-smaller : goal.segments-loop-out-smaller
segments-loop-out-smaller g t c =
    let p = c.args.contents in
    let l = c.loop-out in
    let x = as_well {x = p.levels} {y = p.mode}
    (λ n m t. TakesString g.T.Tally.segmentation g.T.Tally.value n m t l.place.left.now l.out.items c.in-Ok.taken.0 c.in-Ok.taken.1.now
    c.element.new.out.items) l.invariant.levels l.invariant.mode c.tag.ensures (c.in-Ok.ensures {u = tt}) in
    subst (λ z. length z < length l.place.left.now) (sym c.further-place.ensures.left) (reached_shorter (g.met.T.Tally.once) (g.met.T.Tally.go_on) p.levels
    p.mode p.left.now c.in-Ok.taken.0 l.place.left.now c.in-Ok.taken.1.now l.out.items c.element.new.out.items x)

pub segments-loop-out-preserved : goal.segments-loop-out-preserved
segments-loop-out-preserved g t c =
    let p = c.args.contents in
    let l = c.loop-out in
    let h = l.invariant.reached in
    let x = as_well {x = p.levels} {y = p.mode}
    (λ n m t. TakesString g.T.Tally.segmentation g.T.Tally.value n m t l.place.left.now l.out.items c.in-Ok.taken.0 c.in-Ok.taken.1.now
    c.element.new.out.items) l.invariant.levels l.invariant.mode c.tag.ensures (c.in-Ok.ensures {u = tt}) in
    let f = c.further-place.ensures in
    record {
      levels = f.levels ∙ l.invariant.levels;
      mode = f.mode ∙ l.invariant.mode;
      reached = subst (λ z. Reached g.T.Tally.segmentation g.T.Tally.value p.levels p.mode p.left.now c.in-Ok-with.all c.with-cuts.result z
          c.args.out.now.items c.element.new.out.items) (sym f.left)
          (reached_more (g.met.T.Tally.once) (g.met.T.Tally.go_on) p.levels p.mode p.left.now (g.met.T.Tally.holds) l.tally c.in-Ok-with.all
          c.in-Ok.taken.0 l.cuts c.with-cuts.result l.place.left.now c.in-Ok.taken.1.now c.args.out.now.items l.out.items c.element.new.out.items h
          ((c.loop-out-test.ensures {u = tt} p.levels p.mode h.values h.bytes h.holds.lead.prefix h.holds.lead.pieces h.holds.join).0 refl) x
          (c.in-Ok-with.ensures {u = tt})
          (c.with-cuts.ensures ∙ ap (λ j. further_cut l.cuts j (c.count.result - c.count-before.result)) c.full.ensures
          ∙ ap₂ (λ i j. further_cut l.cuts g.T.Tally.segmentation.full (i - j)) c.count.ensures c.count-before.ensures));
    }

pub segments-returns-in-Err-with : goal.segments-returns-in-Err-with
segments-returns-in-Err-with g t c =
    let p = c.args.contents in
    let l = c.loop-out in
    let x = as_well {x = p.levels} {y = p.mode}
    (λ n m t. TakesString g.T.Tally.segmentation g.T.Tally.value n m t l.place.left.now l.out.items c.in-Ok.taken.0 c.in-Ok.taken.1.now
    c.element.new.out.items) l.invariant.levels l.invariant.mode c.tag.ensures (c.in-Ok.ensures {u = tt}) in
    rw c.reject.ensures (segment_too_much (g.met.T.Tally.once) (g.met.T.Tally.go_on) p.levels p.mode p.left.now l.tally c.in-Ok.taken.0 l.cuts
    l.place.left.now c.in-Ok.taken.1.now c.args.out.now.items l.out.items c.element.new.out.items c.in-Err-with.kind _ l.invariant.reached x
    (c.in-Err-with.ensures {u = tt}) refl
    refl)

pub segments-returns-then-rejection : goal.segments-returns-then-rejection
segments-returns-then-rejection g t c =
    let p = c.args.contents in
    let l = c.loop-out in
    let h = l.invariant.reached in
    let x = as_well {x = p.levels} {y = p.mode}
    (λ n m t. RejectsString g.T.Tally.segmentation n m t l.place.left.now c.in-Err.rejection) l.invariant.levels l.invariant.mode c.tag.ensures
    (c.in-Err.ensures {u = tt}).0 in
    segment_rejected (g.met.T.Tally.once) (g.met.T.Tally.go_on) p.levels p.mode p.left.now _ l.place.left.now c.in-Err.rejection h.holds
    ((c.loop-out-test.ensures {u = tt} p.levels p.mode h.values h.bytes h.holds.lead.prefix h.holds.lead.pieces h.holds.join).0 refl) x
    c.if-rejection.true

pub segments-returns-in-Err : goal.segments-returns-in-Err
segments-returns-in-Err g t c =
    let p = c.args.contents in
    let l = c.loop-out in
    let x = as_well {x = p.levels} {y = p.mode}
    (λ n m t. RejectsString g.T.Tally.segmentation n m t l.place.left.now c.in-Err.rejection) l.invariant.levels l.invariant.mode c.tag.ensures
    (c.in-Err.ensures {u = tt}).0 in
    let h = l.invariant.reached in
    record {
      values = h.values;
      bytes = h.bytes;
      holds = stops_elsewhere (g.met.T.Tally.once) (g.met.T.Tally.go_on) p.levels p.mode p.left.now _ l.place.left.now h.holds
          (x.consumed.0 c.if-rejection.false);
      added = (c.in-Err.ensures {u = tt}).1 c.if-rejection.false ∙ h.added;
    }

pub segments-returns : goal.segments-returns
segments-returns g t c =
    let p = c.args.contents in
    let l = c.loop-out in
    let h = l.invariant.reached in
    record {
      values = h.values;
      bytes = h.bytes;
      holds = stops_full (g.met.T.Tally.once) (g.met.T.Tally.go_on) p.levels p.mode p.left.now _ l.place.left.now h.holds (λ f.
          let z = (c.loop-out-test.ensures {u = tt} p.levels p.mode h.values h.bytes h.holds.lead.prefix h.holds.lead.pieces h.holds.join).1 f in cc);
      added = h.added;
    }
