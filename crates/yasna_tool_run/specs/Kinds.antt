-- What bytes are as a kind of value, and what is written of them.
use Rattle.std.specs.Prelude.{◌≡◌, ℕ, List, Bool, ℤ}
use Rattle.std.specs.Int.{w64}
use Rattle.yasna.specs.base.declared.mode.BERMode.{BERMode}
use Rattle.yasna.specs.base.declared.mode.BERMode.TheVariants.{Der}
use Rattle.yasna.specs.base.Element.{Enclosed}
use Rattle.yasna.specs.base.Canonical.{enclosed_encoding}
use Rattle.yasna.specs.base.Boolean.{EncodesBoolean, boolean_encoding}
use Rattle.yasna.specs.base.Integer.{EncodesSigned, integer_encoding}
use Rattle.yasna.specs.base.Null.{EncodesNull, null_encoding}
use Rattle.yasna.specs.base.Octets.{EncodesOctets, octets_tag, octets_encoding}
use Rattle.yasna.specs.base.Oid.{EncodesOid, oid_encoding}
use Rattle.yasna.specs.time.GeneralizedTime.{EncodesGeneralizedTime, generalized_time_encoding}
use Rattle.yasna.specs.time.UtcTime.{EncodesUtcTime, utc_time_encoding}
use Rattle.yasna.specs.base.Sequence.{sequence_tag, PartOf, NoParts, part_encoding, nothing_encoding}
use Rattle.yasna.specs.base.SequenceOf.{IsListOf, elements_encoding}
use Rattle.yasna.specs.base.Text.{EncodesText, utf8_encoding}
use Rattle.yasna_tool_run.specs.declared.value_type.ValueType.{ValueType}
use Rattle.yasna_tool_run.specs.declared.value_type.ValueType.TheVariants as kind
use Rattle.yasna.specs.base.Boolean.{boolean_tag}
use Rattle.yasna.specs.base.Grammar.{Grammar, Encoding, max_depth}
use Rattle.yasna.specs.base.Integer.{integer_tag}
use Rattle.yasna.specs.base.Null.{null_tag}
use Rattle.yasna.specs.base.Oid.{oid_tag}
use Rattle.yasna.specs.base.Text.{utf8_tag}
use Rattle.yasna.specs.time.GeneralizedTime.{generalized_time_tag}
use Rattle.yasna.specs.time.UtcTime.{utc_time_tag}

-- s encodes a value in the mode m, and out is its DER encoding
pub record Recoded {A : Type 0} (B : Grammar A) (encoding : Encoding A) (m : BERMode) (s out : List ℕ) : Type 0 where
  pub value : A
  pub read : B m max_depth value s
  pub written : out ≡ encoding Der value

-- a SEQUENCE of an INTEGER and a BOOLEAN
abbrev pub EncodesNumberAndFlag : Grammar (ℤ × Bool)
EncodesNumberAndFlag m n v b = Enclosed (PartOf (EncodesSigned w64) (PartOf EncodesBoolean NoParts)) sequence_tag m n (v.0, (v.1, tt)) b

-- its encoding
abbrev pub pair_encoding : Encoding (ℤ × Bool)
pair_encoding m v = enclosed_encoding (part_encoding (integer_encoding integer_tag) (part_encoding (boolean_encoding boolean_tag) nothing_encoding)) sequence_tag m (v.0, (v.1, tt))

-- a SEQUENCE OF INTEGER
abbrev pub EncodesIntegers : Grammar (List ℤ)
EncodesIntegers = IsListOf (EncodesSigned w64) sequence_tag

-- its encoding
abbrev pub integers_encoding : Encoding (List ℤ)
integers_encoding m v = enclosed_encoding (elements_encoding (integer_encoding integer_tag)) sequence_tag m v

-- s encodes a value of the type in the mode m, and out is its DER encoding
abbrev pub Recodes : ValueType → BERMode → List ℕ → List ℕ → Type 0
Recodes kind.Pair m s out = Recoded EncodesNumberAndFlag pair_encoding m s out
Recodes kind.Int m s out = Recoded (EncodesSigned w64) (integer_encoding integer_tag) m s out
Recodes kind.Bool m s out = Recoded EncodesBoolean (boolean_encoding boolean_tag) m s out
Recodes kind.Null m s out = Recoded EncodesNull (null_encoding null_tag) m s out
Recodes kind.Octets m s out = Recoded EncodesOctets (octets_encoding octets_tag) m s out
Recodes kind.Text m s out = Recoded EncodesText (utf8_encoding utf8_tag) m s out
Recodes kind.Oid m s out = Recoded EncodesOid (oid_encoding oid_tag) m s out
Recodes kind.Utime m s out = Recoded EncodesUtcTime (utc_time_encoding utc_time_tag) m s out
Recodes kind.Gtime m s out = Recoded EncodesGeneralizedTime (generalized_time_encoding generalized_time_tag) m s out
Recodes kind.Ints m s out = Recoded EncodesIntegers integers_encoding m s out
