use Rattle.std.proofs.Common.{◌++◌, length, sym, ap, ap₂, ◌∙◌, arith, length-drop}
use Rattle.yasna_writer.specs.Segments.{bit_segment, in_bit_segments, bits_with}
use Rattle.yasna_writer.proofs.SegmentSteps.{bits_more, bits_one, segment_appended, goes_out}
use Rattle.yasna_writer.proofs.state.Writer.append_bit_segments.Goals as goal

pub loop-rest-preserved : goal.loop-rest-preserved
loop-rest-preserved c =
    let rest = c.loop-rest.rest.now in
    let u = c.args.unused in
    let s = c.split_at.ensures in
    record {
      some = omega (arith, c.loop-rest-test.true, ap length s.back, length-drop 999 rest);
      done =
          segment_appended _ c.loop-rest.self c.append_full_bits.new.self (in_bit_segments (bits_with u rest)) _ _ (c.in_ok-append_full_bits.ensures {u = tt})
          (bits_more u rest c.requires.few (omega (arith, c.loop-rest-test.true))
          ∙ ap₂ (λ x y. bit_segment (bits_with 0 x) ++ in_bit_segments (bits_with u y)) (sym s.front) (sym s.back)) c.loop-rest.invariant.done;
    }

pub returns : goal.returns
returns c =
    let rest = c.loop-rest.rest.now in
    let u = c.args.unused in
    goes_out c.args.self.now c.loop-rest.self c.append_last_bits.new.self c.append_last_bits.result _ (in_bit_segments (bits_with u rest))
    (bit_segment (bits_with u rest)) c.append_last_bits.ensures
    (bits_one u rest c.requires.few c.loop-rest.invariant.some (omega (arith, c.loop-rest-test.false))) c.loop-rest.invariant.done
