use Rattle.std.proofs.Common.{ℕ, List, sym, subst}
use Rattle.yasna_base.specs.Bits.{bits_segmentation, bits_contents, bit_segments, bits_tag}
use Rattle.yasna_base.specs.Identifier.{tag_or}
use Rattle.yasna_writer.specs.View.{Wrote}
use Rattle.yasna_writer.proofs.SegmentSteps.{goes_apart}
use Rattle.yasna_writer.proofs.state.Writer.write_bitvec_bytes.Goals as goal

pub returns-then-cuts : goal.returns-then-cuts
returns-then-cuts c =
    let old = c.args.self.now in
    subst (λ (b : List ℕ). Wrote b old c.write_bit_segments.new.self c.write_bit_segments.result)
    (goes_apart bits_segmentation bits_contents bit_segments (tag_or old.tag bits_tag) old.mode (record { bytes = c.args.bytes.now; count = c.args.len })
    (sym (c.if-cuts.ensures {u = tt}))) c.write_bit_segments.ensures
