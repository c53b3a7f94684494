-- Reads that decode by tags: typed reads under any tag, and elements around what is read.
use Rattle.std.proofs.Common.{◌≡◌, ℕ, List, [], ◌∷◌, ◌++◌, append-nil, Result, Ok, Err, Bool, true, false, inl, inr, refl, sym, ap, subst, ◌∙◌}
use Rattle.std.specs.Global.{Global}
use Rattle.std.specs.Prelude.{Vec}
use Rattle.yasna_base.specs.declared.error.ASN1Error.{ASN1Error}
use Rattle.yasna_base.specs.declared.mode.BERMode.{BERMode}
use Rattle.yasna_base.specs.declared.tag.PCBit.TheVariants.{Constructed}
use Rattle.yasna_base.specs.declared.tag.Tag.{Tag}
use Rattle.yasna_base.specs.Bits.{bits_segmentation, IsBits, IsDeepBits}
use Rattle.yasna_base.specs.Coding.{IsCoding, Any}
use Rattle.yasna_base.specs.Element.{Enclosed, AnyEnclosed}
use Rattle.yasna_base.specs.Error.{kind_of, error_of}
use Rattle.yasna_base.specs.Grammar.{Grammar, Members, TaggedGrammar, TaggedMembers}
use Rattle.yasna_base.specs.Identifier.{BeginsWithTag, begins, nothing as at_nothing, end_tag, tag_or}
use Rattle.yasna_base.specs.Octets.{octets_segmentation, IsDeepOctets}
use Rattle.yasna_base.specs.SequenceOf.{IsListOf, AnyListOf}
use Rattle.yasna_base.proofs.Header.{opens_begins}
use Rattle.yasna_base.proofs.Identifier.{begins_with}
use Rattle.yasna_base.proofs.Segmented.{deep_begins}
use Rattle.yasna_bytes.specs.Contents.{NeverAllocates, MayAllocate}
use Rattle.yasna_bytes.specs.Rejection.{BlamesBytes, IsElsewhere, nothing, another}
use Rattle.yasna_bytes.specs.Segments.{bits_in}
use Rattle.yasna_bytes.proofs.Rejection.{blames_bytes_of, at_end_elsewhere, begins_not_elsewhere, not_at_end}
use Rattle.yasna_reader.specs.ByTags.{NoMatchElsewhere, DecodesByTags}
use Rattle.yasna_reader.specs.Decodes.{Decodes, DecodesParts, DecodesContents}
use Rattle.yasna_reader.specs.Parse.{unless_failed}
use Rattle.yasna_reader.specs.Primitive.{ReadsSeen, Reads, NoLevel}
use Rattle.yasna_reader.specs.Sequence.{NotEntered, EntersAt, ReadsParts}
use Rattle.yasna_reader.specs.SequenceOf.{Collects}
use Rattle.yasna_reader.specs.State.{Reading, IsFresh, rejecting, tag_of, Does, UnlessFailed}
use Rattle.yasna_reader.proofs.ListDecoding.{collects}
use Rattle.yasna_reader.proofs.OptionalParts.{NoMatchBefore, IsContentsDecoder, contents_sequence}
use Rattle.yasna_reader.proofs.OptionalReads.{StartsElsewhere, leaf_no_match, allocating_no_match}
use Rattle.yasna_reader.proofs.Primitives.{may_allocate_decodes, no_level_at_end}
use Rattle.yasna_reader.proofs.Sequences.{element}
use Rattle.yasna_reader.proofs.Tuples.{IsDecoder, parts_read}

-- each run of N on a fresh reading decodes by the tags
pub record IsDecoderByTags {A : Type 0} (ts : List Tag) (may_allocate : Bool) (B : Grammar A) (S : Members) (N : Does A) : Type 0 where
  pub decodes : (s : Reading) (r : Result A ASN1Error) (s' : Reading) → IsFresh s → N s r s' → DecodesByTags ts may_allocate B S s r s'

-- what decodes by tags decodes
pub plain_by : {A : Type 0} {ts : List Tag} {may_allocate : Bool} {B : Grammar A} {S : Members} {N : Does A} → IsDecoderByTags ts may_allocate B S N →
    IsDecoder may_allocate B S N
plain_by x = record { decodes = λ s r s' fresh h. (x.decodes s r s' fresh h).decodes }

-- what says so of itself does
pub decodes_by_tags : {A : Type 0} {ts : List Tag} {may_allocate : Bool} {B : Grammar A} {S : Members} →
    IsDecoderByTags ts may_allocate B S (DecodesByTags ts may_allocate B S)
decodes_by_tags = record { decodes = λ s r s' fresh h. h }

-- what begins elsewhere, whatever it is
abbrev Elsewhere : Tag → Members
Elsewhere t m n c = IsElsewhere t c

elsewhere_itself : (t : Tag) → (t ≡ end_tag → ⊥) → StartsElsewhere t (Elsewhere t)
elsewhere_itself t not_end m n c r i (nothing e) = subst (λ z. IsElsewhere t (z ++ r)) (sym e) (at_end_elsewhere t r not_end i)
elsewhere_itself t not_end m n c r i (another u range other b) = another u range other (begins_with u c r b)

no_match_by : {A : Type 0} {N : Does A} (t : Tag) → NoMatchBefore N (Elsewhere t) → (s : Reading) (r : Result A ASN1Error) (s' : Reading) → IsFresh s →
    N s r s' → NoMatchElsewhere (t ∷ []) s r s'
no_match_by t x s (Ok v) s' fresh h = tt
no_match_by t x s (Err e) s' fresh h = λ a. x.no_match s e s' fresh h
    (record { contents = s.left; rest = []; joined = sym (append-nil s.left); ends = at_nothing refl; member = a.0 })

-- a typed read under any tag decodes by it
pub leaf_by_tag : {A : Type 0} (B : TaggedGrammar A) (t : Tag) → (t ≡ end_tag → ⊥) →
    IsDecoderByTags (t ∷ []) false (B t) (Any (B t)) (Reads B NoLevel NeverAllocates t)
leaf_by_tag B t not_end = record {
  decodes = λ s r s' fresh h. record {
    decodes = may_allocate_decodes false B (λ v. v) NoLevel NeverAllocates (B t) (Any (B t)) t not_end (λ m n v b y. y)
        (λ m n b y. y) (λ n m z. no_level_at_end n m t z not_end) (λ _ _ _ y. y) (λ _ _ y. absurd y) s r s' fresh h;
    no_match = no_match_by t (leaf_no_match B t (Elsewhere t) (elsewhere_itself t not_end)) s r s' fresh h;
  };
}

-- a typed read that may allocate decodes by its tag, where an element that is too deep begins with the tag
pub allocating_by_tag : {V A : Type 0} (B : TaggedGrammar A) (view : V → A) (D : TaggedMembers) (t : Tag) → (t ≡ end_tag → ⊥) →
    ((n : ℕ) (m : BERMode) (s : List ℕ) → D t m n s → BeginsWithTag t s) →
    IsDecoderByTags (t ∷ []) true (λ m n v b. B t m n (view v) b) (Any (B t)) (ReadsSeen B view D MayAllocate t)
allocating_by_tag B view D t not_end deep = record {
  decodes = λ s r s' fresh h. record {
    decodes = may_allocate_decodes true B view D MayAllocate (λ m n v b. B t m n (view v) b) (Any (B t)) t not_end (λ m n v b y. y)
        (λ m n b y. y) (λ n m z a d. not_at_end t z not_end a (deep n m z d))
        (λ n z a w. not_at_end t z not_end a (begins w.bit (w.size ∷ w.after) w.joined)) (λ n z w. refl) s r s' fresh h;
    no_match = no_match_by t (allocating_no_match B view D t (Elsewhere t) deep (elsewhere_itself t not_end)) s r s' fresh h;
  };
}

-- as one does of an element whose contents are copied
pub leaf_with_memory_by_tag : {V A : Type 0} (B : TaggedGrammar A) (view : V → A) (t : Tag) → (t ≡ end_tag → ⊥) →
    IsDecoderByTags (t ∷ []) true (λ m n v b. B t m n (view v) b) (Any (B t)) (ReadsSeen B view NoLevel MayAllocate t)
leaf_with_memory_by_tag B view t not_end = allocating_by_tag B view NoLevel t not_end (λ n m s d. d.1)

-- a read of a string, whose segments may be elements, decodes by its tag
pub string_by_tag : {V A : Type 0} (B : TaggedGrammar A) (view : V → A) (t : Tag) → (t ≡ end_tag → ⊥) →
    IsDecoderByTags (t ∷ []) true (λ m n v b. B t m n (view v) b) (Any (B t)) (ReadsSeen B view IsDeepOctets MayAllocate t)
string_by_tag B view t not_end = allocating_by_tag B view IsDeepOctets t not_end (λ n m s. deep_begins octets_segmentation n m t s)

-- a read of a BIT STRING decodes by its tag
pub bits_by_tag : (t : Tag) → (t ≡ end_tag → ⊥) →
    IsDecoderByTags (t ∷ []) true (λ m n v b. IsBits t m n (bits_in v) b) (Any (IsBits t))
    (ReadsSeen IsBits bits_in IsDeepBits MayAllocate t)
bits_by_tag t not_end = allocating_by_tag IsBits bits_in IsDeepBits t not_end (λ n m s. deep_begins bits_segmentation n m t s)

-- an element around contents has no match where another tag is there, however they are read
module _ {A : Type 0} (P : Does A) (t : Tag) where
  rejected_no_match : (s : Reading) (e : ASN1Error) (s' : Reading) → NotEntered {A = A} t s (Err e) s' → IsElsewhere t s.left →
      (s' ≡ s) × BlamesBytes (kind_of e)
  rejected_no_match s e s' h other =
      let same : e ≡ error_of h.rejection.kind = let f = h.returned in cc in (
        h.state ∙ ap (λ b. rejecting b s (error_of h.rejection.kind)) (h.rejects.consumed.1 other),
        subst (λ z. BlamesBytes (kind_of z)) (sym same)
            (blames_bytes_of h.rejection.kind (λ i. begins_not_elsewhere (h.rejects.too_deep i).1 other) (λ i. h.rejects.memory i)),
      )

  pub parts_no_match : (s : Reading) (r : Result A ASN1Error) (s' : Reading) → IsFresh s → ReadsParts P t s r s' → NoMatchElsewhere (t ∷ []) s r s'
  parts_no_match s (Ok v) s' fresh h = tt
  parts_no_match s (Err e) s' fresh h =
      let k = subst (λ u. EntersAt P (tag_or u t) s (Err e) s') fresh.1
      (subst (λ z. UnlessFailed {A = A} z s (Err e) s' (EntersAt P (tag_of s t) s (Err e) s')) fresh.0 h.enters) in
      λ a. by_entry k a.0
    where
      by_entry : EntersAt P t s (Err e) s' → IsElsewhere t s.left → (s' ≡ s) × BlamesBytes (kind_of e)
      by_entry (inl x) other = absurd (begins_not_elsewhere (opens_begins s.mode t Constructed s.left x.contents x.end x.opens) other)
      by_entry (inr x) other = rejected_no_match s e s' x other

as_parts : {A : Type 0} (may_allocate : Bool) (B : Grammar A) (S : Members) (s : Reading) (r : Result A ASN1Error) (s' : Reading) →
    Decodes may_allocate B S s r s' →
    DecodesParts may_allocate B S s r s'
as_parts may_allocate B S s (Ok v) s' h = h
as_parts may_allocate B S s (Err e) s' h = h.0

-- one value alone is contents
pub single_inside : {A : Type 0} {E : A → A → Type 0} {may_allocate : Bool} {B : Grammar A} {S : Members} {N : Does A} → IsCoding E B S →
    IsDecoder may_allocate B S N →
    (s : Reading) (r : Result A ASN1Error) (s' : Reading) → IsFresh s → N s r s' → DecodesContents may_allocate B S s (unless_failed s'.failed r) s'
single_inside {may_allocate} {B} {S} laws value s r s' fresh h =
    parts_read may_allocate (record { meaning = laws.meaning; prefix_free = laws.prefix_free }) s r s' fresh (as_parts may_allocate B S s r s' (value.decodes s r s' fresh h))

-- an element around one that is read as N says, as under an EXPLICIT tag (X.690, 8.14)
pub tagged_by_tag : {A : Type 0} {E : A → A → Type 0} {may_allocate : Bool} {B : Grammar A} {S : Members} {N : Does A} (t : Tag) → (t ≡ end_tag → ⊥) →
    IsCoding E B S → IsDecoder may_allocate B S N → IsDecoderByTags (t ∷ []) may_allocate (Enclosed B t) (AnyEnclosed S t) (ReadsParts N t)
tagged_by_tag {may_allocate} {B} {S} {N} t not_end laws value = record {
  decodes = λ s r s' fresh h. record {
    decodes = element may_allocate B S N (single_inside laws value) t not_end s fresh r s' h;
    no_match = parts_no_match N t s r s' fresh h;
  };
}

-- an element around contents that are read up to their end and make a value
pub sequence_by_tag : {U A : Type 0} {C : Grammar A} {S : Members} {may_allocate : Bool} {P : Does U} (t : Tag) → (t ≡ end_tag → ⊥) → (parts : U →
    A) (make : A → U) →
    ((w : A) → parts (make w) ≡ w) → IsContentsDecoder may_allocate C S make P →
    IsDecoderByTags {A = U} (t ∷ []) may_allocate (λ m n v b. Enclosed C t m n (parts v) b) (AnyEnclosed S t) (ReadsParts P t)
sequence_by_tag {P} t not_end parts make back contents = record {
  decodes = λ s r s' fresh h. record {
    decodes = contents_sequence parts make back contents t not_end s fresh r s' h;
    no_match = parts_no_match P t s r s' fresh h;
  };
}

-- an element around a list whose callback decodes an element a turn
pub list_by_tag : {F A : Type 0} {E : A → A → Type 0} {may_allocate : Bool} {B : Grammar A} {S : Members} {N : Does A}
    (C : F → Reading → Result A ASN1Error → F → Reading → Type 0) (f : F) (t : Tag) → (t ≡ end_tag → ⊥) → IsCoding E B S → IsDecoder may_allocate B S N →
    ((f f' : F) (s : Reading) (r : Result A ASN1Error) (s' : Reading) → C f s r f' s' → N s r s') →
    IsDecoderByTags {A = Vec A Global} (t ∷ []) true (λ m n v b. IsListOf B t m n v.items b) (AnyListOf S t) (ReadsParts (Collects C f) t)
list_by_tag {may_allocate} C f t not_end laws value obeys = record {
  decodes = λ s r s' fresh h. record {
    decodes = collects laws may_allocate C (λ g z x g' z' now k. value.decodes z x z' now (obeys g g' z x z' k)) t not_end f s fresh r s' h;
    no_match = parts_no_match (Collects C f) t s r s' fresh h;
  };
}
