use Rattle.std.proofs.Common.{◌++◌, sym, ap₂, ◌∙◌, arith}
use Rattle.yasna_writer.specs.Segments.{octet_segment, in_octet_segments}
use Rattle.yasna_writer.proofs.SegmentSteps.{octets_more, octets_one, segment_appended, goes_out}
use Rattle.yasna_writer.proofs.state.Writer.append_octet_segments.Goals as goal

pub loop-rest-preserved : goal.loop-rest-preserved
loop-rest-preserved c =
    let rest = c.loop-rest.rest.now in
    let s = c.split_at.ensures in
    segment_appended _ c.loop-rest.self c.append_full_octets.new.self (in_octet_segments rest) _ _ (c.in_ok-append_full_octets.ensures {u = tt})
    (octets_more rest (omega (arith, c.loop-rest-test.true)) ∙ ap₂ (λ x y. octet_segment x ++ in_octet_segments y) (sym s.front) (sym s.back))
    c.loop-rest.invariant

pub returns : goal.returns
returns c =
    let rest = c.loop-rest.rest.now in
    goes_out c.args.self.now c.loop-rest.self c.append_octet_segment.new.self c.append_octet_segment.result _ (in_octet_segments rest) (octet_segment rest)
    c.append_octet_segment.ensures (octets_one rest (omega (arith, c.loop-rest-test.false))) c.loop-rest.invariant
