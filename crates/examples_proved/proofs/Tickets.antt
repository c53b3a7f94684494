-- What the reads of a ticket's parts decode.
use Rattle.std.proofs.Common.{◌≡◌, ℤ, [], ◌∷◌, Bool, false, refl, subst}
use Rattle.std.specs.Prelude.{Result}
use Rattle.yasna.specs.Words.{ASN1Error, Tag, Reading, Does, Any, AnyEither, BeginsWithTag, DecodesByTags, EncodesBoolean, EncodesNull}
use Rattle.yasna.specs.Words.{IsBoolean, IsFresh, IsNull, NeverAllocates, NoLevel, Primitively, Reads, boolean_tag, context, null_tag}
use Rattle.yasna.specs.base.Beginnings.{BeginsBy}
use Rattle.yasna.specs.base.Identifier.{end_tag}
use Rattle.yasna.proofs.Laws.{either_by_tags, tags_differ}
use Rattle.yasna.proofs.Closures.{chosen_by_tags, first_of, others_of, the_choice, leaf_by_tag, seen}
use Rattle.examples_proved.specs.Tickets.{EncodesKind, AnyKind, EncodesLimit, null_with_tags, sealed_with_tags, limit_with_tags}
use Rattle.examples_proved.specs.declared.parts.TicketKind.{TicketKind}
use Rattle.examples_proved.specs.declared.parts.TicketKind.TheVariants.{Open, Sealed, Limited}
use Rattle.yasna.specs.reader.Sequence.{ReadsParts}
use Rattle.yasna.specs.reader.Tagged.{ReadsImplicitly}

-- a read under what equals a tag
pub under_tag : {A : Type 0} {P : Does A} {t u : Tag} {s : Reading} {r : Result A ASN1Error} {s' : Reading} → ReadsParts P t s r s' → t ≡ u →
    ReadsParts P u s r s'
under_tag {P} {s} {r} {s'} h e = subst (λ z. ReadsParts P z s r s') e h

pub implicitly_under : {A : Type 0} (P : Does A) {t u : Tag} (s : Reading) (r : Result A ASN1Error) (s' : Reading) → ReadsImplicitly P t s r s' → t ≡ u →
    ReadsImplicitly P u s r s'
implicitly_under P s r s' h e = subst (λ z. ReadsImplicitly P z s r s') e h

abbrev pub is_open : Unit {0} → TicketKind
is_open u = Open

others_begin : BeginsBy (boolean_tag ∷ context 2 ∷ []) (AnyEither (Any EncodesBoolean) (Any EncodesLimit))
others_begin = either_by_tags sealed_with_tags.begins limit_with_tags.begins

-- a NULL that is read where one's tag is there
pub open_read : (s : Reading) → IsFresh s → BeginsWithTag null_tag s.left → (x : Result (Unit {0}) ASN1Error) (s' : Reading) →
    Reads (Primitively IsNull) NoLevel NeverAllocates null_tag s x s' →
    DecodesByTags (null_tag ∷ boolean_tag ∷ context 2 ∷ []) false EncodesKind AnyKind s (seen is_open x) s'
open_read s fresh found x s' h =
    chosen_by_tags {us = null_tag ∷ []} {may_allocate = false} {B = EncodesNull} {S = Any EncodesNull} {D = EncodesKind} is_open (λ m n v b p. p) (λ e. e) refl s
    (first_of null_tag s found others_begin refl (the_choice s AnyKind)) x s'
    ((leaf_by_tag (Primitively IsNull) null_tag (tags_differ null_tag end_tag refl)).decodes s x s' fresh h)

-- a BOOLEAN
pub sealed_read : (s : Reading) → IsFresh s → BeginsWithTag boolean_tag s.left → (x : Result Bool ASN1Error) (s' : Reading) →
    Reads (Primitively IsBoolean) NoLevel NeverAllocates boolean_tag s x s' →
    DecodesByTags (null_tag ∷ boolean_tag ∷ context 2 ∷ []) false EncodesKind AnyKind s (seen Sealed x) s'
sealed_read s fresh found x s' h =
    chosen_by_tags {us = boolean_tag ∷ []} {may_allocate = false} {B = EncodesBoolean} {S = Any EncodesBoolean} {D = EncodesKind} Sealed (λ m n v b p. p) (λ e. e)
    refl s
    (first_of boolean_tag s found limit_with_tags.begins refl
    (others_of boolean_tag s found null_with_tags.begins (tags_differ boolean_tag null_tag refl, tt) (the_choice s AnyKind))) x s'
    ((leaf_by_tag (Primitively IsBoolean) boolean_tag (tags_differ boolean_tag end_tag refl)).decodes s x s' fresh h)

-- a limit, where any other tag is there
pub limit_read : (t : Tag) (s : Reading) → BeginsWithTag t s.left → (t ≡ null_tag → ⊥) → (t ≡ boolean_tag → ⊥) → (x : Result ℤ ASN1Error) (s' : Reading) →
    DecodesByTags (context 2 ∷ []) false EncodesLimit (Any EncodesLimit) s x s' →
    DecodesByTags (null_tag ∷ boolean_tag ∷ context 2 ∷ []) false EncodesKind AnyKind s (seen Limited x) s'
limit_read t s found no_null no_boolean x s' h =
    chosen_by_tags {us = context 2 ∷ []} {may_allocate = false} {B = EncodesLimit} {S = Any EncodesLimit} {D = EncodesKind} Limited (λ m n v b p. p) (λ e. e) refl s
    (others_of t s found sealed_with_tags.begins (no_boolean, tt)
    (others_of t s found null_with_tags.begins (no_null, tt) (the_choice s AnyKind))) x s' h
