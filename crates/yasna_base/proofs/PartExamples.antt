-- Worked examples of parts: omitted, chosen, distinguished by their tags, and in any order.
use Rattle.std.proofs.Common.{◌≡◌, ℕ, ◌^◌, ◌<◌, length, sym, subst, List, [], ◌∷◌, Bool, true, false, ℤ, not, Option, refl, arith}
use Rattle.std.specs.Prelude.{◌⊎◌, None, FitsSigned, pos}
use Rattle.std.specs.Int.{w64}
use Rattle.std.specs.List.{AllByRecursion}
use Rattle.yasna_base.specs.declared.tag.PCBit.TheVariants.{Constructed}
use Rattle.yasna_base.specs.SequenceOf.{elements_encoding}
use Rattle.yasna_base.proofs.Canonical.{canonical_element_is, short_contents, enclosed_has}
use Rattle.yasna_base.proofs.SequenceOf.{elements_written}
use Rattle.yasna_base.proofs.SetOfWriting.{set_of_elements_have, octets_ordered}
use Rattle.yasna_base.specs.declared.tag.Tag.{Tag}
use Rattle.yasna_base.specs.declared.mode.BERMode.TheVariants.{Ber, Der}
use Rattle.yasna_base.specs.AnyOrder.{sorted_set_of_encoding}
use Rattle.yasna_base.specs.Canonical.{definite_element, canonical_element, leaf_depth, Always, IsWritten}
use Rattle.yasna_base.specs.Digits.{digits, IsBytes}
use Rattle.yasna_base.specs.Length.{shortest_length}
use Rattle.yasna_base.specs.Set.{set_tag, IsSetOf}
use Rattle.yasna_base.specs.SetWriting.{encodings, set_of_encoding}
use Rattle.yasna_base.proofs.Sequence.{part_written, no_part_written}
use Rattle.yasna_base.proofs.ChoiceWriting.{choice_written}
use Rattle.yasna_base.proofs.Default.{default_alike, default_written}
use Rattle.yasna_base.specs.declared.tag.TagClass.TheVariants.{ContextSpecific}
use Rattle.yasna_base.specs.Beginnings.{CodingByTags, ContentsByTags}
use Rattle.yasna_base.specs.Boolean.{IsBoolean, boolean_encoding}
use Rattle.yasna_base.specs.Choice.{EitherOf, AnyEither, SameEither, either_encoding, either_depth, either_can}
use Rattle.yasna_base.specs.Coding.{IsCoding, Any}
use Rattle.yasna_base.specs.Default.{DetectsDefault, DefaultOf, default_encoding, default_depth, default_can}
use Rattle.yasna_base.specs.Element.{Primitively, Enclosed, AnyEnclosed}
use Rattle.yasna_base.specs.Grammar.{Grammar, Members, Encoding, Depth}
use Rattle.yasna_base.specs.Identifier.{identifier, end_tag}
use Rattle.yasna_base.specs.Integer.{IsSigned, EncodesSigned, minimal_bytes, integer_encoding, integer_tag}
use Rattle.yasna_base.specs.Null.{IsNull, null_encoding, null_tag}
use Rattle.yasna_base.specs.Octets.{IsOctets, octets_segmentation, octets_encoding, octets_depth, octets_tag}
use Rattle.yasna_base.specs.Optional.{OptionOf, AnyOption, SameOption, option_encoding, option_depth, option_can}
use Rattle.yasna_base.specs.Sequence.{sequence_tag, PartOf, NoParts, AnyPart, AnyNothing, SamePart, SameNothing}
use Rattle.yasna_base.specs.Sequence.{part_encoding, part_depth, part_can, nothing_encoding, nothing_depth}
use Rattle.yasna_base.proofs.Beginnings.{tags_differ, primitive_by_tag, segmented_by_tag, choice_with_tags, end_with_tags, part_with_tags, option_with_tags, default_with_tags}
use Rattle.yasna_base.proofs.Boolean.{boolean_coding, boolean_written}
use Rattle.yasna_base.proofs.Coding.{equal_same}
use Rattle.yasna_base.proofs.Integer.{signed_under, signed_written, number_written}
use Rattle.yasna_base.proofs.Null.{null_coding, null_written}
use Rattle.yasna_base.proofs.Octets.{octets_coding, octets_written}
use Rattle.yasna_base.proofs.Optional.{option_written, sequence}

-- the tag that a module writes as [number]
abbrev context : ℕ → Tag
context number = record { tag_class = ContextSpecific; tag_number = number }

abbrev Number : Tag → Grammar ℤ
Number t m n v b = Primitively (IsSigned w64) t m n v b

abbrev Flag : Tag → Grammar Bool
Flag t m n v b = Primitively IsBoolean t m n v b

abbrev Empty : Tag → Grammar (Unit {0})
Empty t m n v b = Primitively IsNull t m n v b

abbrev Octets : Tag → Grammar (List ℕ)
Octets t m n v b = IsOctets t m n v b

number_with_tags : (t : Tag) → (t ≡ end_tag → ⊥) → CodingByTags (t ∷ []) (λ v w. v ≡ w) (Number t) (Any (Number t))
number_with_tags t not_end = record { coding = signed_under w64 t not_end; begins = primitive_by_tag (IsSigned w64) t }

flag_with_tags : (t : Tag) → (t ≡ end_tag → ⊥) → CodingByTags (t ∷ []) (λ v w. v ≡ w) (Flag t) (Any (Flag t))
flag_with_tags t not_end = record { coding = boolean_coding t not_end; begins = primitive_by_tag IsBoolean t }

empty_with_tags : (t : Tag) → (t ≡ end_tag → ⊥) → CodingByTags (t ∷ []) (λ v w. v ≡ w) (Empty t) (Any (Empty t))
empty_with_tags t not_end = record { coding = null_coding t not_end; begins = primitive_by_tag IsNull t }

octets_with_tags : (t : Tag) → (t ≡ end_tag → ⊥) → CodingByTags (t ∷ []) (λ v w. v ≡ w) (Octets t) (Any (Octets t))
octets_with_tags t not_end = record { coding = octets_coding t not_end; begins = segmented_by_tag octets_segmentation t }

-- CHOICE { null NULL, number [1000] INTEGER, octets OCTET STRING }, the tag IMPLICIT
abbrev Chosen : Grammar (Unit {0} ⊎ (ℤ ⊎ List ℕ))
Chosen = EitherOf (Empty null_tag) (EitherOf (Number (context 1000)) (Octets octets_tag))

abbrev AnyChosen : Members
AnyChosen = AnyEither (Any (Empty null_tag)) (AnyEither (Any (Number (context 1000))) (Any (Octets octets_tag)))

chosen_with_tags : CodingByTags (null_tag ∷ context 1000 ∷ octets_tag ∷ [])
    (SameEither (λ v w. v ≡ w) (SameEither (λ v w. v ≡ w) (λ v w. v ≡ w))) Chosen AnyChosen
chosen_with_tags =
    choice_with_tags (empty_with_tags null_tag (tags_differ null_tag end_tag refl))
    (choice_with_tags (number_with_tags (context 1000) (tags_differ (context 1000) end_tag refl))
    (octets_with_tags octets_tag (tags_differ octets_tag end_tag refl)) refl)
    refl

detects_false : DetectsDefault (λ v w. v ≡ w) not false
detects_false true = (λ e. absurd (cc), λ e. absurd (cc))
detects_false false = (λ e. refl, λ e. refl)

-- { number INTEGER OPTIONAL, flag [0] BOOLEAN DEFAULT FALSE, other [1] INTEGER OPTIONAL, octets OCTET STRING, chosen CHOICE { .. } OPTIONAL }
abbrev Parts : Grammar (Option ℤ × (Bool × (Option ℤ × (List ℕ × (Option (Unit {0} ⊎ (ℤ ⊎ List ℕ)) × Unit {0})))))
Parts = PartOf (OptionOf (Number integer_tag)) (PartOf (DefaultOf not (Flag (context 0))) (PartOf (OptionOf (Number (context 1)))
    (PartOf (Octets octets_tag) (PartOf (OptionOf Chosen) NoParts))))

abbrev AnyParts : Members
AnyParts = AnyPart (AnyOption (Any (Number integer_tag))) (AnyPart (AnyOption (Any (Flag (context 0))))
    (AnyPart (AnyOption (Any (Number (context 1)))) (AnyPart (Any (Octets octets_tag)) (AnyPart (AnyOption AnyChosen) AnyNothing))))

abbrev SameParts : Option ℤ × (Bool × (Option ℤ × (List ℕ × (Option (Unit {0} ⊎ (ℤ ⊎ List ℕ)) × Unit {0})))) →
    Option ℤ × (Bool × (Option ℤ × (List ℕ × (Option (Unit {0} ⊎ (ℤ ⊎ List ℕ)) × Unit {0})))) → Type 0
SameParts = SamePart (SameOption (λ v w. v ≡ w)) (SamePart (λ v w. v ≡ w) (SamePart (SameOption (λ v w. v ≡ w)) (SamePart (λ v w. v ≡ w)
    (SamePart (SameOption (SameEither (λ v w. v ≡ w) (SameEither (λ v w. v ≡ w) (λ v w. v ≡ w)))) SameNothing))))

-- a tag for each part, up to the first that is always there
parts_with_tags : ContentsByTags (integer_tag ∷ context 0 ∷ context 1 ∷ octets_tag ∷ []) SameParts Parts AnyParts
parts_with_tags =
    option_with_tags (number_with_tags integer_tag (tags_differ integer_tag end_tag refl))
    (default_with_tags not false detects_false (flag_with_tags (context 0) (tags_differ (context 0) end_tag refl))
    (option_with_tags (number_with_tags (context 1) (tags_differ (context 1) end_tag refl))
    (part_with_tags (octets_with_tags octets_tag (tags_differ octets_tag end_tag refl))
    (option_with_tags chosen_with_tags end_with_tags refl)) refl) refl) refl

-- the SEQUENCE of them satisfies the laws of reading
parts_coding : IsCoding SameParts (Enclosed Parts sequence_tag) (AnyEnclosed AnyParts sequence_tag)
parts_coding = sequence (λ v. v) parts_with_tags.coding

-- the encodings
abbrev chosen_encoding : Encoding (Unit {0} ⊎ (ℤ ⊎ List ℕ))
chosen_encoding = either_encoding (null_encoding null_tag) (either_encoding (integer_encoding (context 1000)) (octets_encoding octets_tag))

abbrev parts_encoding : Encoding (Option ℤ × (Bool × (Option ℤ × (List ℕ × (Option (Unit {0} ⊎ (ℤ ⊎ List ℕ)) × Unit {0})))))
parts_encoding = part_encoding (option_encoding (integer_encoding integer_tag)) (part_encoding (default_encoding not (boolean_encoding (context 0)))
    (part_encoding (option_encoding (integer_encoding (context 1))) (part_encoding (octets_encoding octets_tag) (part_encoding (option_encoding chosen_encoding) nothing_encoding))))

abbrev parts_depth : Depth (Option ℤ × (Bool × (Option ℤ × (List ℕ × (Option (Unit {0} ⊎ (ℤ ⊎ List ℕ)) × Unit {0})))))
parts_depth = part_depth (option_depth leaf_depth) (part_depth (default_depth not leaf_depth) (part_depth (option_depth leaf_depth)
    (part_depth octets_depth (part_depth (option_depth (either_depth leaf_depth (either_depth leaf_depth octets_depth))) nothing_depth))))

abbrev CanParts : Option ℤ × (Bool × (Option ℤ × (List ℕ × (Option (Unit {0} ⊎ (ℤ ⊎ List ℕ)) × Unit {0})))) → Type 0
CanParts = part_can (option_can (FitsSigned w64)) (part_can (default_can not Always) (part_can (option_can (FitsSigned w64))
    (part_can IsBytes (part_can (option_can (either_can Always (either_can (FitsSigned w64) IsBytes))) Always))))

-- the parts satisfy the laws of writing
parts_written : IsWritten SameParts Parts parts_encoding parts_depth CanParts
parts_written =
    part_written (option_written (number_written (λ z. z) (FitsSigned w64) integer_tag (omega arith)))
    (part_written (default_written not (default_alike not false detects_false equal_same) (boolean_written (context 0) (omega arith)))
    (part_written (option_written (number_written (λ z. z) (FitsSigned w64) (context 1) (omega arith)))
    (part_written (octets_written octets_tag (omega arith))
    (part_written (option_written (choice_written (null_written null_tag (omega arith))
    (choice_written (number_written (λ z. z) (FitsSigned w64) (context 1000) (omega arith)) (octets_written octets_tag (omega arith)))))
    no_part_written))))

-- the default and what is omitted take no bytes
least_parts : parts_encoding Der (None, (false, (None, ([], (None, tt))))) ≡ 4 ∷ 0 ∷ []
unfolding canonical_element definite_element identifier shortest_length digits
least_parts = refl

-- 2 and 1 are a SET OF as 1 and 2 are
abbrev two_one : List ℤ
two_one = pos 2 ∷ pos 1 ∷ []

set_of_two : sorted_set_of_encoding (integer_encoding integer_tag) set_tag Der two_one ≡ 49 ∷ 6 ∷ 2 ∷ 1 ∷ 1 ∷ 2 ∷ 1 ∷ 2 ∷ []
unfolding canonical_element definite_element identifier shortest_length digits minimal_bytes
set_of_two = refl

-- as they are they have another encoding
set_of_two_as_it_is : set_of_encoding (integer_encoding integer_tag) set_tag Der two_one ≡ 49 ∷ 6 ∷ 2 ∷ 1 ∷ 2 ∷ 2 ∷ 1 ∷ 1 ∷ []
unfolding canonical_element definite_element identifier shortest_length digits minimal_bytes
set_of_two_as_it_is = refl

-- in BER they are read as they are
two_read : IsSetOf (EncodesSigned w64) set_tag Ber 2 two_one (set_of_encoding (integer_encoding integer_tag) set_tag Der two_one)
two_read =
    let x = (elements_written (signed_written w64)).has in
    let short : length (set_of_encoding (integer_encoding integer_tag) set_tag Der two_one) < 2 ^ 64 =
    subst (λ b. length b < 2 ^ 64) (sym set_of_two_as_it_is) (omega arith) in
    let can : AllByRecursion (FitsSigned w64) two_one = (omega arith, (omega arith, tt)) in
    let c = elements_encoding (integer_encoding integer_tag) Der two_one in
    let inner = short_contents Der set_tag Constructed c short in
    record {
      contents = c;
      element = canonical_element_is Der Ber set_tag Constructed c tt (omega arith) (x.in_bytes Der two_one can inner) short;
      meaning = record { elements = x.holds Der Ber 1 two_one tt can (omega arith) inner; order = tt };
    }

-- a canonical mode takes them in one order alone, so the relation as they are has no encoding of them
no_encoding_of_two : (n : ℕ) (b : List ℕ) → IsSetOf (EncodesSigned w64) set_tag Der n two_one b → ⊥
unfolding minimal_bytes digits canonical_element definite_element identifier shortest_length
no_encoding_of_two n b p =
    let y = (enclosed_has (set_of_elements_have (signed_written w64).has) set_tag (omega arith)).only Der n two_one b tt p in
    let e = octets_ordered Der (encodings (integer_encoding integer_tag) Der two_one) tt y.1.order in
    absurd (cc)

no_laws : {G : List ℤ → List ℤ → Type 0} {encoding : Encoding (List ℤ)} {depth : Depth (List ℤ)} {Can : List ℤ → Type 0} →
    IsWritten G (IsSetOf (EncodesSigned w64) set_tag) encoding depth Can → length (encoding Der two_one) < 2 ^ 64 → ⊥
no_laws {encoding = encoding} x short =
    let y = x.any 2 two_one (set_of_encoding (integer_encoding integer_tag) set_tag Der two_one) two_read in
    no_encoding_of_two 2 (encoding Der two_one) (x.has.holds Der Der 2 two_one tt y.0 y.1 short)
