use Rattle.std.proofs.Common.{ℕ, List, refl, sym, subst}
use Rattle.yasna_base.specs.Octets.{octets_segmentation}
use Rattle.yasna_base.specs.Segments.{segments}
use Rattle.yasna_writer.specs.Prepend.{KnownLength}
use Rattle.yasna_writer.proofs.KnownLengths.{stays_whole}
use Rattle.yasna_writer.proofs.encoded_len.bytes_len.Goals as goal

pub returns : goal.returns
returns c =
    let m = c.args.mode in
    let b = c.args.bytes.now in
    subst (λ (x : List ℕ). KnownLength x c.primitive_len.result)
    (stays_whole octets_segmentation (λ v. v) (segments 1000) c.args.tag m b (sym (c.if-cuts.ensures {u = tt}))) (c.primitive_len.ensures m b refl)
