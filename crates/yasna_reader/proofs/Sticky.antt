-- A call that a reading's own call makes first returns a sticky error, and does nothing else.
use Rattle.std.proofs.Common.{ℕ, List, subst}
use Rattle.std.specs.Prelude.{Result}
use Rattle.yasna_base.specs.declared.error.ASN1Error.{ASN1Error}
use Rattle.yasna_base.specs.declared.tag.Tag.{Tag}
use Rattle.yasna_base.specs.Grammar.{Grammar, TaggedGrammar, TaggedMembers}
use Rattle.yasna_reader.specs.Decodes.{RepeatsError}
use Rattle.yasna_reader.specs.Primitive.{ReadsSeen, ReadsTyped}
use Rattle.yasna_reader.specs.Raw.{ReadsRaw, ReadsRawAt}
use Rattle.yasna_reader.specs.Sequence.{ReadsParts, EntersAt}
use Rattle.yasna_reader.specs.State.{Reading, UnlessFailed, tag_of, Does}

-- of a primitive type, a string or a time
pub seen_repeats_error : {V A : Type 0} {B : TaggedGrammar A} {view : V → A} {D : TaggedMembers}
    {M : ℕ → Tag → List ℕ → Type 0} {tag : Tag} {s : Reading} {r : Result V ASN1Error} {s' : Reading} → ReadsSeen B view D M tag s r s' → RepeatsError s r s'
seen_repeats_error {B} {view} {D} {M} {tag} {s} {r} {s'} h e k =
    subst (λ o. UnlessFailed o s r s' (ReadsTyped B view D M (tag_of s tag) s r s')) k h.reads

-- of a raw element
pub raw_repeats_error : {V A : Type 0} {B : Grammar A} {view : V → A} {s : Reading} {r : Result V ASN1Error} {s' : Reading} →
    ReadsRaw B view s r s' → RepeatsError s r s'
raw_repeats_error {B} {view} {s} {r} {s'} h e k = subst (λ o. UnlessFailed o s r s' (ReadsRawAt B view s r s')) k h.reads

-- of an element with parts
pub parts_repeat_error : {A : Type 0} {P : Does A} {tag : Tag} {s : Reading} {r : Result A ASN1Error} {s' : Reading} →
    ReadsParts P tag s r s' → RepeatsError s r s'
parts_repeat_error {P} {tag} {s} {r} {s'} h e k = subst (λ o. UnlessFailed o s r s' (EntersAt P (tag_of s tag) s r s')) k h.enters
