-- The laws that impls of the traits cite.
use Rattle.std.proofs.Common.{◌≡◌, arith}
use Rattle.yasna_base.specs.Bits.{IsBits, bits_tag}
use Rattle.yasna_base.specs.Coding.{IsCoding, Any}
use Rattle.yasna_base.proofs.Bits.{bits_coding}
use Rattle.yasna_bytes.specs.Segments.{bits_in}
pub use Rattle.yasna_base.proofs.Coding.{along, enclosed, parts_contents, primitively, primitively_begins, equal_same, same_as}
pub use Rattle.yasna_base.proofs.Choice.{unambiguous_by_tags, unambiguous_with_either, choice}
pub use Rattle.yasna_base.proofs.ChoiceWriting.{choice_written, choice_exact}
pub use Rattle.yasna_base.proofs.Sequence.{no_part, part, tuple, no_part_written, part_written, tuple_written}
pub use Rattle.yasna_base.proofs.Optional.{unambiguous_before_nothing, unambiguous_before_part, unambiguous_before_option, either_unambiguous_before, part_before, option_before, option_written, sequence}
pub use Rattle.yasna_base.proofs.Default.{default_before, default_alike, default_written, default_exact}
pub use Rattle.yasna_base.proofs.ExplicitTags.{context_not_end, contexts_differ, one_contents, tagged, tagged_written, tagged_exact, enclosed_begins}
pub use Rattle.yasna_base.proofs.UnderTags.{sequence_under_tags, list_under_tags, exact_under_tags, sequence_exact_under_tags, list_exact_under_tags, bits_under_tags}
pub use Rattle.yasna_base.proofs.Beginnings.{tags_differ, begins_by_tag, primitive_by_tag, segmented_by_tag, string_by_tag, enclosed_by_tag, either_by_tags}
pub use Rattle.yasna_base.proofs.Beginnings.{are_unambiguous, unambiguous_before, choice_with_tags, end_with_tags, part_with_tags, option_with_tags, default_with_tags}
pub use Rattle.yasna_base.proofs.AnyOrder.{any_set_of, any_set_of_written, any_set_of_exact, set_along, set_written}
pub use Rattle.yasna_base.proofs.Exact.{written_exact, exact_can, no_part_exact, part_exact, enclosed_exact, exact_along, tuple_exact, option_exact, list_exact, raw_keeps_exact, bits_exact, bit_string_exact}
pub use Rattle.yasna_base.proofs.Identifier.{not_end}
pub use Rattle.yasna_base.proofs.Beginnings.{tags_differ, begins_by_tag, primitive_by_tag, segmented_by_tag, enclosed_by_tag, either_by_tags}
pub use Rattle.yasna_base.proofs.Beginnings.{choice_with_tags, end_with_tags, part_with_tags, option_with_tags}
pub use Rattle.yasna_reader.proofs.DefaultParts.{default_part_before, default_part_with_tags}
pub use Rattle.yasna_base.proofs.Default.{default_alike, default_written}
pub use Rattle.yasna_base.proofs.ChoiceWriting.{choice_written}
pub use Rattle.yasna_base.proofs.ExplicitTags.{context_not_end, contexts_differ, tagged, tagged_written}
pub use Rattle.yasna_base.proofs.Octets.{octets_coding, octets_written}
pub use Rattle.yasna_base.proofs.Integer.{signed_under}
pub use Rattle.yasna_base.proofs.AnyOrder.{any_set_of, any_set_of_written, set_along, set_written, sorted_encoding_made}
pub use Rattle.yasna_base.proofs.SequenceOf.{list, list_along, list_written}
pub use Rattle.yasna_base.proofs.SetOfWriting.{set_of_reading}
pub use Rattle.yasna_base.proofs.Nested.{nested_coding, nested_list, any_nested_list}
pub use Rattle.yasna_base.proofs.Integer.{number_coding, signed_coding, unsigned_coding, signed_written, unsigned_written, number_written}
pub use Rattle.yasna_base.proofs.Boolean.{bool_coding, bool_written}
pub use Rattle.yasna_base.proofs.Enumerated.{enumerated_coding, enumerated_written}
pub use Rattle.yasna_base.proofs.Oid.{oid_coding, oid_written}
pub use Rattle.yasna_base.proofs.Raw.{raw_coding}
pub use Rattle.yasna_times.proofs.TimeLaws.{utc_coding, utc_written, general_coding, general_written}
pub use Rattle.yasna_base.proofs.Null.{unit_coding, unit_written}
pub use Rattle.yasna_base.proofs.Octets.{vec_coding, vec_written}
pub use Rattle.yasna_base.proofs.Texts.{text_coding, text_written, ascii_text}
pub use Rattle.yasna_base.proofs.Canonical.{enclosed_written, primitively_written, written_along, can_be_written}

-- a BIT STRING satisfies the laws of reading, as the bytes that hold the bits, and how many bits there are
pub bit_string_coding : IsCoding (λ v w. bits_in v ≡ bits_in w) (λ m n v b. IsBits bits_tag m n (bits_in v) b)
    (Any (IsBits bits_tag))
bit_string_coding = along bits_in (bits_coding bits_tag (not_end 3 (λ e. omega arith)))
