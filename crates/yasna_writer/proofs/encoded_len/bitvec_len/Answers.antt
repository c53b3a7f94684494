use Rattle.std.proofs.Common.{ℕ, List, sym, subst, arith}
use Rattle.yasna_base.specs.Bits.{BitString, bits_segmentation, bits_contents, bit_segments, unused_bits}
use Rattle.yasna_base.proofs.Bits.{padded_length}
use Rattle.yasna_writer.specs.Prepend.{KnownLength}
use Rattle.yasna_writer.proofs.KnownLengths.{stays_whole}
use Rattle.yasna_writer.proofs.encoded_len.bitvec_len.Goals as goal

pub returns : goal.returns
returns c =
    let m = c.args.mode in
    let b = c.args.bytes.now in
    λ k. let v : BitString = record { bytes = b; count = k } in
    subst (λ (x : List ℕ). KnownLength x c.primitive_len.result)
    (stays_whole bits_segmentation bits_contents bit_segments c.args.tag m v (sym (c.if-cuts.ensures {u = tt})))
    (c.primitive_len.ensures m (bits_contents v) (omega (arith, padded_length (unused_bits v) b)))
