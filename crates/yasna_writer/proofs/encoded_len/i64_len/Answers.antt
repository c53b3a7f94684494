use Rattle.std.proofs.Common.{sym}
use Rattle.std.proofs.lemmas.Int.{to_z-of_z}
use Rattle.std.specs.Int.{w64}
use Rattle.yasna_base.specs.Integer.{minimal_bytes}
use Rattle.yasna_writer.proofs.KnownLengths.{minimal_length}
use Rattle.yasna_writer.proofs.encoded_len.i64_len.Goals as goal

pub returns : goal.returns
returns c =
    let z = c.args.val in
    let back = to_z-of_z w64 z c.ranges.val in
    let o = c.octets.ensures in
    let count = minimal_length z c.octets.result c.ranges.val o.some o.few (rw back at o.fits) (λ i. rw back at (o.least i)) in
    λ m. c.primitive_len.ensures m (minimal_bytes z) (sym count)
