-- AlgorithmIdentifier (RFC 5280, 4.1.1.2): an object identifier, and an optional element of any type.
use Rattle.std.specs.Prelude.{◌≡◌, ◌+◌, ◌*◌, ◌<◌, ◌≤◌, length}
use Rattle.yasna.specs.Words.{BitString, IsCoding, Any, Enclosed, AnyEnclosed, EncodesOid, OptionOf, AnyOption}
use Rattle.yasna.specs.Words.{SameOption, IsRaw, sequence_tag, PartOf, NoParts, AnyPart, AnyNothing, SamePart, SameNothing}
use Rattle.yasna.specs.Words.{raw_of}
use Rattle.yasna.specs.base.declared.models.tagged_der_value.TaggedDerValue.{TaggedDerValue}
use Rattle.yasna.proofs.Laws.{along, unambiguous_before_nothing, no_part, oid_coding, option_before, part_before, parts_contents, raw_coding, sequence}
use Rattle.examples_proved.specs.declared.public_key.AlgorithmIdentifier.{AlgorithmIdentifier}
use Rattle.yasna.specs.Words.{Grammar, Members}

-- the bytes encode an element of any type
abbrev pub EncodesAny : Grammar TaggedDerValue
EncodesAny m n v b = IsRaw m n (raw_of v) b

-- the bytes are an element of some type
abbrev pub AnyElement : Members
AnyElement = Any IsRaw

-- a SEQUENCE of an object identifier and optional parameters of any type
abbrev pub EncodesAlgorithm : Grammar AlgorithmIdentifier
EncodesAlgorithm m n v b = Enclosed (PartOf EncodesOid (PartOf (OptionOf EncodesAny) NoParts)) sequence_tag m n (v.algorithm, (v.parameters, tt)) b

-- the bytes encode some AlgorithmIdentifier
abbrev pub AnyAlgorithm : Members
AnyAlgorithm = AnyEnclosed (AnyPart (Any EncodesOid) (AnyPart (AnyOption AnyElement) AnyNothing)) sequence_tag

-- a bit string has as many bytes as its bits need
abbrev pub FillsItsBytes : BitString → Type 0
FillsItsBytes v = (v.count ≤ 8 * length v.bytes) × (8 * length v.bytes < v.count + 8)

-- the object identifiers are equal, and the parameters too
abbrev pub SameAlgorithm : AlgorithmIdentifier → AlgorithmIdentifier → Type 0
SameAlgorithm v w = SamePart (λ x y. x ≡ y) (SamePart (SameOption (λ x y. raw_of x ≡ raw_of y)) SameNothing) (v.algorithm, (v.parameters, tt))
    (w.algorithm, (w.parameters, tt))

-- any element satisfies the laws of reading
pub element_coding : IsCoding (λ v w. raw_of v ≡ raw_of w) EncodesAny AnyElement
element_coding = along raw_of raw_coding

-- AlgorithmIdentifier satisfies the laws of reading
pub algorithm_coding : IsCoding SameAlgorithm EncodesAlgorithm AnyAlgorithm
algorithm_coding = sequence (λ v. (v.algorithm, (v.parameters, tt)))
    (part_before oid_coding (option_before element_coding (unambiguous_before_nothing element_coding) (parts_contents no_part)))
