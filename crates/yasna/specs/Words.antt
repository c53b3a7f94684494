-- The words that users of this crate cite, in clauses, in members of traits and in answers, each from where it is defined.

-- modes, tags, errors
pub use Rattle.yasna_base.specs.declared.mode.BERMode.{BERMode}
pub use Rattle.yasna_base.specs.declared.mode.BERMode.TheVariants.{Ber, Der, Cer}
pub use Rattle.yasna_base.specs.declared.tag.Tag.{Tag}
pub use Rattle.yasna_base.specs.declared.error.ASN1Error.{ASN1Error}
pub use Rattle.yasna_base.specs.declared.error.ASN1ErrorKind.TheVariants.{Eof, Extra, IntegerOverflow, StackOverflow, Invalid, OutOfMemory}
pub use Rattle.yasna_base.specs.Error.{kind_of, error_of}
pub use Rattle.yasna_base.specs.Identifier.{universal, context, end_tag, BeginsWithTag, AtEnd}
pub use Rattle.yasna_base.specs.Digits.{IsBytes}
-- the types of relations, encodings and depths
pub use Rattle.yasna_base.specs.Grammar.{Grammar, Members, Encoding, Depth, max_depth}
-- the laws, and the bytes that encode some value by a relation
pub use Rattle.yasna_base.specs.Coding.{IsCoding, Any}
pub use Rattle.yasna_base.specs.Canonical.{IsWritten, HasEncoding, Always, leaf_depth, enclosed_encoding, enclosed_depth, canonical_element}
pub use Rattle.yasna_base.specs.Exact.{Fitting, IsExact, written_fits, enclosed_fits, part_fits, nothing_fits, option_fits, elements_fit, raw_fits}
-- types of one primitive element
pub use Rattle.yasna_base.specs.Element.{IsPrimitive, Primitively}
pub use Rattle.yasna_base.specs.Boolean.{boolean_tag, IsBoolean, EncodesBoolean, boolean_encoding}
pub use Rattle.yasna_base.specs.Null.{null_tag, IsNull, EncodesNull, null_encoding}
pub use Rattle.yasna_base.specs.Integer.{integer_tag, IsSigned, IsUnsigned, EncodesSigned, EncodesUnsigned, integer_encoding}
pub use Rattle.yasna_base.specs.BigInteger.{BigInteger, IsBigInteger, CanBigInteger, big_integer_encoding}
pub use Rattle.yasna_base.specs.Enumerated.{enumerated_tag, EncodesEnumerated}
pub use Rattle.yasna_base.specs.Oid.{oid_tag, EncodesOid, IsEncodableOid, oid_encoding}
-- strings
pub use Rattle.yasna_base.specs.Octets.{EncodesOctets, EncodesVec, octets_tag, octets_encoding, octets_depth, IsOctets, IsDeepOctets, octets_segmentation}
pub use Rattle.yasna_base.specs.Bits.{bits_tag, BitString, IsBits, IsDeepBits, CanBits, AreCanonicalBits, bits_encoding, bits_depth}
pub use Rattle.yasna_bytes.specs.Segments.{bits_in}
pub use Rattle.yasna_base.specs.Text.{utf8_tag, numeric_tag, printable_tag, ia5_tag, visible_tag, bmp_tag}
pub use Rattle.yasna_base.specs.Text.{EncodesString, EncodesText, characters, utf8_encoding, utf8_depth, bmp_encoding, bmp_depth}
pub use Rattle.yasna_base.specs.Text.{IsStringOf, IsUtf8In, IsBmp, IsPairedBmp, InNumeric, InPrintable, InIa5, InVisible, InUtf8}
-- times
pub use Rattle.yasna_times.specs.Models.{utc_of, moment_of, EncodesUtc, EncodesGeneral}
pub use Rattle.yasna_times.specs.UtcTime.{utc_time_tag, EncodesUtcTime, utc_time_encoding, utc_time_depth}
pub use Rattle.yasna_times.specs.GeneralizedTime.{generalized_time_tag, EncodesGeneralizedTime, generalized_time_encoding, generalized_time_depth}
-- raw elements
pub use Rattle.yasna_base.specs.Raw.{RawValue, IsRaw, IsDeepRaw, raw_encoding}
pub use Rattle.yasna_base.specs.SetWriting.{own_encoding}
pub use Rattle.yasna_base.specs.TaggedDerValue.{raw_of}
-- types that are made of others
pub use Rattle.yasna_base.specs.Element.{Enclosed, AnyEnclosed}
pub use Rattle.yasna_base.specs.Sequence.{sequence_tag, PartOf, NoParts, AnyPart, AnyNothing, SamePart, SameNothing}
pub use Rattle.yasna_base.specs.Sequence.{part_encoding, part_depth, part_can, nothing_encoding, nothing_depth}
pub use Rattle.yasna_base.specs.Optional.{OptionOf, AnyOption, SameOption, option_encoding, option_depth, option_can}
pub use Rattle.yasna_base.specs.Default.{DefaultOf, DetectsDefault, default_encoding, default_depth, default_can, default_fits}
pub use Rattle.yasna_base.specs.SequenceOf.{IsListOf, AnyListOf, elements_encoding, elements_depth}
pub use Rattle.yasna_base.specs.Pieces.{Each}
pub use Rattle.yasna_base.specs.Nested.{IsNested, AnyNested, SameNested}
pub use Rattle.yasna_base.specs.Choice.{EitherOf, AnyEither, SameEither, either_encoding, either_depth, either_can, either_fits}
-- tags around a type, and in place of its own
pub use Rattle.yasna_base.specs.Laws.{KeepsLawsUnderTags}
pub use Rattle.yasna_base.specs.UnderTags.{IsExactUnderTags}
pub use Rattle.yasna_base.specs.Beginnings.{BeginsBy, ContentsBeginBy, CodingByTags, ContentsByTags}
pub use Rattle.yasna_base.specs.Set.{set_tag, IsSet, IsSetOf, AnySetOf, AnySetOfElements}
pub use Rattle.yasna_base.specs.AnyOrder.{SameSetOf, InSomeOrder, sorted_set_of_encoding}
pub use Rattle.yasna_base.specs.SetWriting.{set_of_depth}
-- what reads do
pub use Rattle.yasna_reader.specs.State.{Reading, Does, IsFresh, part_of}
pub use Rattle.yasna_reader.specs.Decodes.{Decodes, Step, Done}
pub use Rattle.yasna_reader.specs.ByTags.{DecodesByTags}
pub use Rattle.yasna_reader.specs.Primitive.{Reads, ReadsSeen, NoLevel}
pub use Rattle.yasna_reader.specs.Raw.{ReadsRaw}
pub use Rattle.yasna_reader.specs.Optional.{ReadsOptional, ReadsDefault}
pub use Rattle.yasna_bytes.specs.Contents.{NeverAllocates, MayAllocate}
-- what writes do
pub use Rattle.yasna_writer.specs.View.{Written, Writes}
pub use Rattle.yasna_writer.specs.Prepend.{Prepended, Prepends, KnownLength}
