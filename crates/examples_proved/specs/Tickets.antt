-- The parts of a ticket, and their laws: what is omitted, chosen and tagged is distinguished by its tags.
use Rattle.std.proofs.Common.{inl, inr, refl}
use Rattle.std.proofs.lemmas.Bool.{eq-eqb, eqb-true}
use Rattle.std.specs.Global.{Global}
use Rattle.std.specs.Int.{w64}
use Rattle.std.specs.Prelude.{◌≡◌, ℕ, ℤ, [], ◌∷◌, Bool, true, false, ◌⊎◌, Vec, Option, nat_eq}
use Rattle.yasna.specs.Words.{Grammar, Members, Any, IsCoding, Enclosed, AnyEnclosed, Primitively, IsSigned, IsBoolean, IsNull, IsOctets, context}
use Rattle.yasna.specs.Words.{EncodesUnsigned, EncodesSigned, EncodesNull, EncodesBoolean, integer_tag, boolean_tag, null_tag, set_tag, sequence_tag}
use Rattle.yasna.specs.Words.{OptionOf, AnyOption, SameOption, PartOf, NoParts, AnyPart, AnyNothing, SamePart, SameNothing}
use Rattle.yasna.specs.Words.{EitherOf, AnyEither, SameEither, DetectsDefault, DefaultOf, SameSetOf, InSomeOrder, IsSetOf, AnySetOf}
use Rattle.yasna.specs.Words.{Does, Decodes, DecodesByTags, Step, Done}
use Rattle.yasna.specs.Words.{CodingByTags, ContentsByTags, AnySetOfElements, octets_segmentation}
use Rattle.yasna.proofs.Laws.{along, bool_coding, unit_coding, signed_coding, unsigned_coding, octets_coding, signed_under, sequence, set_along}
use Rattle.yasna.proofs.Laws.{context_not_end, tagged, enclosed_by_tag, primitive_by_tag, segmented_by_tag}
use Rattle.yasna.proofs.Laws.{choice_with_tags, end_with_tags, part_with_tags, option_with_tags, default_part_with_tags}
use Rattle.examples_proved.specs.declared.parts.TicketKind.{TicketKind}
use Rattle.examples_proved.specs.declared.parts.TicketKind.TheVariants.{Open, Sealed, Limited}
use Rattle.examples_proved.specs.declared.parts.Ticket.{Ticket}

-- [0] EXPLICIT INTEGER
abbrev pub EncodesVersion : Grammar ℕ
EncodesVersion = Enclosed (EncodesUnsigned 64) (context 0)

abbrev pub AnyVersion : Members
AnyVersion = AnyEnclosed (Any (EncodesUnsigned 64)) (context 0)

-- whether a version is the default, 1
abbrev pub is_first : ℕ → Bool
is_first v = nat_eq v 1

-- [1] IMPLICIT OCTET STRING
abbrev pub EncodesNote : Grammar (Vec ℕ Global)
EncodesNote m n v b = IsOctets (context 1) m n v.items b

abbrev pub AnyNote : Members
AnyNote = Any (IsOctets (context 1))

-- [2] IMPLICIT INTEGER
abbrev pub EncodesLimit : Grammar ℤ
EncodesLimit = Primitively (IsSigned w64) (context 2)

-- the kind of a ticket as one of the three types of the CHOICE
abbrev pub kind_as_either : TicketKind → Unit {0} ⊎ (Bool ⊎ ℤ)
kind_as_either Open = inl tt
kind_as_either (Sealed v) = inr (inl v)
kind_as_either (Limited v) = inr (inr v)

-- CHOICE { open NULL, sealed BOOLEAN, limited [2] IMPLICIT INTEGER }
abbrev pub EncodesKind : Grammar TicketKind
EncodesKind m n v b = EitherOf EncodesNull (EitherOf EncodesBoolean EncodesLimit) m n (kind_as_either v) b

abbrev pub AnyKind : Members
AnyKind = AnyEither (Any EncodesNull) (AnyEither (Any EncodesBoolean) (Any EncodesLimit))

abbrev pub SameKind : TicketKind → TicketKind → Type 0
SameKind v w = SameEither (λ x y. x ≡ y) (SameEither (λ x y. x ≡ y) (λ x y. x ≡ y)) (kind_as_either v) (kind_as_either w)

-- SET OF INTEGER, in any order
abbrev pub EncodesMarks : Grammar (Vec ℤ Global)
EncodesMarks m n v b = InSomeOrder (IsSetOf (EncodesSigned w64) set_tag) m n v.items b

abbrev pub AnyMarks : Members
AnyMarks = AnySetOf (Any (EncodesSigned w64)) set_tag

-- the parts of a ticket in their order
abbrev pub ticket_parts : Ticket → ℕ × (Option (Vec ℕ Global) × (ℤ × (TicketKind × (Vec ℤ Global × Unit {0}))))
ticket_parts v = (v.version, (v.note, (v.serial, (v.kind, (v.marks, tt)))))

abbrev pub Parts : Grammar (ℕ × (Option (Vec ℕ Global) × (ℤ × (TicketKind × (Vec ℤ Global × Unit {0})))))
Parts = PartOf (DefaultOf is_first EncodesVersion) (PartOf (OptionOf EncodesNote)
    (PartOf (EncodesSigned w64) (PartOf EncodesKind (PartOf EncodesMarks NoParts))))

abbrev pub AnyParts : Members
AnyParts = AnyPart (Any (DefaultOf is_first EncodesVersion)) (AnyPart (AnyOption AnyNote)
    (AnyPart (Any (EncodesSigned w64)) (AnyPart AnyKind (AnyPart AnyMarks AnyNothing))))

abbrev pub SameParts : ℕ × (Option (Vec ℕ Global) × (ℤ × (TicketKind × (Vec ℤ Global × Unit {0})))) →
    ℕ × (Option (Vec ℕ Global) × (ℤ × (TicketKind × (Vec ℤ Global × Unit {0})))) → Type 0
SameParts = SamePart (λ v w. v ≡ w) (SamePart (SameOption (λ v w. v.items ≡ w.items)) (SamePart (λ v w. v ≡ w) (SamePart SameKind
    (SamePart (λ v w. SameSetOf (λ x y. x ≡ y) v.items w.items) SameNothing))))

-- the test determines the default
pub detects_first : DetectsDefault (λ v w. v ≡ w) is_first 1
detects_first v = (λ e. eqb-true v 1 e, λ e. eq-eqb v 1 e)

pub version_with_tags : CodingByTags (context 0 ∷ []) (λ v w. v ≡ w) EncodesVersion AnyVersion
version_with_tags = record {
  coding = tagged (context 0) (context_not_end 0) (unsigned_coding 64);
  begins = enclosed_by_tag (Any (EncodesUnsigned 64)) (context 0);
}

pub note_with_tags : CodingByTags (context 1 ∷ []) (λ v w. v.items ≡ w.items) EncodesNote AnyNote
note_with_tags = record {
  coding = along (λ v. v.items) (octets_coding (context 1) (context_not_end 1));
  begins = segmented_by_tag octets_segmentation (context 1);
}

pub serial_with_tags : CodingByTags (integer_tag ∷ []) (λ v w. v ≡ w) (EncodesSigned w64) (Any (EncodesSigned w64))
serial_with_tags = record { coding = signed_coding w64; begins = primitive_by_tag (IsSigned w64) integer_tag }

pub null_with_tags : CodingByTags (null_tag ∷ []) (λ v w. v ≡ w) EncodesNull (Any EncodesNull)
null_with_tags = record { coding = unit_coding; begins = primitive_by_tag IsNull null_tag }

pub sealed_with_tags : CodingByTags (boolean_tag ∷ []) (λ v w. v ≡ w) EncodesBoolean (Any EncodesBoolean)
sealed_with_tags = record { coding = bool_coding; begins = primitive_by_tag IsBoolean boolean_tag }

pub limit_with_tags : CodingByTags (context 2 ∷ []) (λ v w. v ≡ w) EncodesLimit (Any EncodesLimit)
limit_with_tags = record { coding = signed_under w64 (context 2) (context_not_end 2); begins = primitive_by_tag (IsSigned w64) (context 2) }

-- the kind of a ticket satisfies the laws, and its tags distinguish it
pub kind_with_tags : CodingByTags (null_tag ∷ boolean_tag ∷ context 2 ∷ []) SameKind EncodesKind AnyKind
kind_with_tags =
    let x = choice_with_tags null_with_tags (choice_with_tags sealed_with_tags limit_with_tags refl) refl in
    record { coding = along kind_as_either x.coding; begins = x.begins }

pub marks_with_tags : CodingByTags (set_tag ∷ []) (λ v w. SameSetOf (λ x y. x ≡ y) v.items w.items) EncodesMarks AnyMarks
marks_with_tags = record {
  coding = set_along (λ v. v.items) (signed_coding w64);
  begins = enclosed_by_tag (AnySetOfElements (Any (EncodesSigned w64))) set_tag;
}

-- the parts of a ticket satisfy the laws, and their tags distinguish them
pub parts_with_tags : ContentsByTags (context 0 ∷ context 1 ∷ integer_tag ∷ []) SameParts Parts AnyParts
parts_with_tags =
    default_part_with_tags is_first 1 detects_first version_with_tags
    (option_with_tags note_with_tags
    (part_with_tags serial_with_tags
    (part_with_tags kind_with_tags
    (part_with_tags marks_with_tags end_with_tags))) refl) refl

-- the ticket satisfies the laws of reading
pub ticket_coding : IsCoding (λ v w. SameParts (ticket_parts v) (ticket_parts w)) (λ m n v b. Enclosed Parts sequence_tag m n (ticket_parts v) b)
    (AnyEnclosed AnyParts sequence_tag)
ticket_coding = sequence ticket_parts parts_with_tags.coding

-- the result of reading the parts after the note
abbrev pub ReadsRest : ℕ → Option (Vec ℕ Global) → Does Ticket
ReadsRest version note =
    Step (Decodes false (EncodesSigned w64) (Any (EncodesSigned w64))) (λ serial.
    Step (DecodesByTags (null_tag ∷ boolean_tag ∷ context 2 ∷ []) false EncodesKind AnyKind) (λ kind.
    Step (DecodesByTags (set_tag ∷ []) true EncodesMarks AnyMarks) (λ marks.
    Done (record { version = version; note = note; serial = serial; kind = kind; marks = marks }))))
