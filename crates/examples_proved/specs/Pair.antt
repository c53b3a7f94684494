-- A SEQUENCE of an INTEGER and a BOOLEAN.
use Rattle.std.specs.Prelude.{ℤ, Bool}
use Rattle.std.specs.Int.{w64}
use Rattle.yasna.specs.Words.{EncodesBoolean, Any, Enclosed, AnyEnclosed, EncodesSigned, sequence_tag, PartOf, NoParts}
use Rattle.yasna.specs.Words.{AnyPart, AnyNothing}
use Rattle.yasna.specs.Words.{Grammar, Members}

-- the bytes encode the number and the flag
abbrev pub EncodesPair : Grammar (ℤ × Bool)
EncodesPair m n v b = Enclosed (PartOf (EncodesSigned w64) (PartOf EncodesBoolean NoParts)) sequence_tag m n (v.0, (v.1, tt)) b

-- the bytes encode some number and some flag
abbrev pub AnyPair : Members
AnyPair = AnyEnclosed (AnyPart (Any (EncodesSigned w64)) (AnyPart (Any EncodesBoolean) AnyNothing)) sequence_tag
