use Rattle.std.proofs.Common.{◌≡◌, ◌∷◌, [], Err, true, false, rules, sym, subst}
use Rattle.yasna_base.specs.Bits.{bits_tag}
use Rattle.yasna_base.specs.Coding.{Any}
use Rattle.yasna_bytes.specs.Segments.{bits_in}
use Rattle.yasna_notation.specs.Notation.{ReadsAs}
use Rattle.yasna_notation.specs.WithinMode.{WithinMode}
use Rattle.yasna_notation_types.specs.NamedBits.{EncodesBits, ends_well}
use Rattle.yasna_notation_types.proofs.BitEnds.{Held, well_read, ill_read, not_read}
use Rattle.yasna_notation_types.proofs.named_bits.NamedBitsNotation.read.Goals as goal

pub returns : goal.returns
returns c =
    let s = c.args.reader.now in
    let r = c.read_bitvec_bytes.result in
    let left = c.read_bitvec_bytes.new.self in
    let v : Held = (c.in_ok-bytes.bytes, c.in_ok-bytes.count) in
    let is : ends_well s.mode (bits_in v) ≡ true = search rules in
    well_read s r left c.read_bitvec_bytes.ensures v c.in_ok-bytes.was is

pub returns-then-not-ends_well : goal.returns-then-not-ends_well
returns-then-not-ends_well c =
    let s = c.args.reader.now in
    let r = c.read_bitvec_bytes.result in
    let left = c.read_bitvec_bytes.new.self in
    let v : Held = (c.in_ok-bytes.bytes, c.in_ok-bytes.count) in
    let is : ends_well s.mode (bits_in v) ≡ false = search rules in
    subst
    (λ e. ReadsAs {A = Held} true (bits_tag ∷ []) true true (λ u m n v b. WithinMode ends_well (EncodesBits u) m n (bits_in v) b)
    (λ u. Any (WithinMode ends_well (EncodesBits u))) s (Err e) left) (sym c.new.ensures)
    (ill_read s r left c.read_bitvec_bytes.ensures v c.in_ok-bytes.was is)

pub returns-in_err-bytes : goal.returns-in_err-bytes
returns-in_err-bytes c =
    let is : c.from_residual.result ≡ Err c.in_err-bytes.field-0.0 = search rules in
    rw is (not_read c.args.reader.now c.read_bitvec_bytes.result c.read_bitvec_bytes.new.self c.read_bitvec_bytes.ensures c.in_err-bytes.field-0.0
    c.in_err-bytes.was)
