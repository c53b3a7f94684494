use Rattle.std.proofs.Common.{ℕ, List, sym, subst}
use Rattle.yasna_base.specs.Identifier.{tag_or}
use Rattle.yasna_base.specs.Octets.{octets_segmentation}
use Rattle.yasna_base.specs.Segments.{segments}
use Rattle.yasna_writer.specs.View.{Wrote}
use Rattle.yasna_writer.proofs.SegmentSteps.{goes_apart}
use Rattle.yasna_writer.proofs.state.Writer.write_long_octets.Goals as goal

pub returns-then-cuts : goal.returns-then-cuts
returns-then-cuts c =
    let old = c.args.self.now in
    subst (λ (b : List ℕ). Wrote b old c.write_octet_segments.new.self c.write_octet_segments.result)
    (goes_apart octets_segmentation (λ v. v) (segments 1000) (tag_or old.tag c.args.own) old.mode c.args.octets.now (sym (c.if-cuts.ensures {u = tt})))
    c.write_octet_segments.ensures
