use Rattle.std.specs.Int.{w64}
use Rattle.std.specs.Prelude.{FitsSigned, ℕ}
use Rattle.yasna_base.specs.BigInteger.{IsBigInteger, big_integer_encoding, CanBigInteger}
use Rattle.yasna_base.specs.Canonical.{leaf_depth}
use Rattle.yasna_base.specs.Digits.{IsBytes}
use Rattle.yasna_base.specs.Element.{Primitively}
use Rattle.yasna_base.specs.Integer.{IsSigned, integer_encoding}
use Rattle.yasna_base.specs.Octets.{IsOctets, octets_encoding, octets_depth}
use Rattle.yasna_base.specs.SetWriting.{SetOfTextKeepsLaws}
use Rattle.yasna_base.specs.Text.{InUtf8, InNumeric, InPrintable, InVisible, InIa5, IsPairedBmp, IsStringOf, IsTextIn, IsUtf8In, bmp_encoding, bmp_depth, utf8_encoding, utf8_depth}
use Rattle.yasna_base.proofs.BitEncoding.{bits_keep}
use Rattle.yasna_base.proofs.Bmp.{bmp_keeps}
use Rattle.yasna_base.proofs.Texts.{class_keeps}
use Rattle.yasna_base.proofs.BigInteger.{big_integer_coding, big_integer_written}
use Rattle.yasna_base.proofs.Integer.{signed_under, number_written}
use Rattle.yasna_base.proofs.Octets.{octets_keep}
use Rattle.yasna_base.proofs.Raw.{raw_coding}
use Rattle.yasna_base.proofs.SetOfWriting.{set_of_encodings, set_of_reading, set_of_keeps}
use Rattle.yasna_base.proofs.SetWriting.{set_writing}
use Rattle.yasna_base.proofs.laws.sets_written.Goals as goal

set_of_texts : (In : ℕ → Type 0) → SetOfTextKeepsLaws In
set_of_texts In = set_of_keeps (IsStringOf (IsUtf8In In)) utf8_encoding utf8_depth (IsTextIn In) (class_keeps In)

pub returns-clause-set_of_enumerated : goal.returns-clause-set_of_enumerated
returns-clause-set_of_enumerated c =
    set_of_keeps (Primitively (IsSigned w64)) integer_encoding leaf_depth (FitsSigned w64)
    (λ t not_end range. (signed_under w64 t not_end, number_written (λ z. z) (FitsSigned w64) t range))

pub returns-clause-set_of_big_integer : goal.returns-clause-set_of_big_integer
returns-clause-set_of_big_integer c =
    set_of_keeps (Primitively IsBigInteger) big_integer_encoding leaf_depth CanBigInteger
    (λ t not_end range. (big_integer_coding t not_end, big_integer_written t range))

pub returns-clause-set_of_octets : goal.returns-clause-set_of_octets
returns-clause-set_of_octets c = set_of_keeps IsOctets octets_encoding octets_depth IsBytes octets_keep

pub returns-clause-set_of_utf8 : goal.returns-clause-set_of_utf8
returns-clause-set_of_utf8 c = set_of_texts InUtf8

pub returns-clause-set_of_numeric : goal.returns-clause-set_of_numeric
returns-clause-set_of_numeric c = set_of_texts InNumeric

pub returns-clause-set_of_printable : goal.returns-clause-set_of_printable
returns-clause-set_of_printable c = set_of_texts InPrintable

pub returns-clause-set_of_ia5 : goal.returns-clause-set_of_ia5
returns-clause-set_of_ia5 c = set_of_texts InIa5

pub returns-clause-set_of_visible : goal.returns-clause-set_of_visible
returns-clause-set_of_visible c = set_of_texts InVisible

pub returns-clause-set_of_bmp : goal.returns-clause-set_of_bmp
returns-clause-set_of_bmp c = set_of_keeps (IsStringOf IsPairedBmp) bmp_encoding bmp_depth (IsTextIn InUtf8) bmp_keeps.paired

pub returns-clause-set_of_bits : goal.returns-clause-set_of_bits
returns-clause-set_of_bits c = λ u not_end range.
    let laws = bits_keep u not_end range in
    (set_of_reading laws.coding, λ t _ in_range. set_of_encodings laws.coding laws.has t in_range)

pub returns-clause-set_of_raw : goal.returns-clause-set_of_raw
returns-clause-set_of_raw c = set_of_reading raw_coding

pub returns-clause-set : goal.returns-clause-set
returns-clause-set c = set_writing
