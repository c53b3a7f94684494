-- What is read through a closure, by what the closure's calls do.
use Rattle.std.proofs.Common.{◌≡◌, ℕ, List, [], ◌∷◌, Bool, true, false, refl, subst, arith}
use Rattle.std.specs.Global.{Global}
use Rattle.std.specs.Prelude.{Result, Vec, Option, Some, None}
use Rattle.std.specs.Borrow.{MutBor}
use Rattle.std.specs.Fn.{Once, Mut, Called, FnOnceReturnsAtMut, CalledAtMut}
use Rattle.yasna_base.specs.declared.error.ASN1Error.{ASN1Error}
use Rattle.yasna_base.specs.declared.mode.BERMode.{BERMode}
use Rattle.yasna_base.specs.declared.tag.Tag.{Tag}
use Rattle.yasna_base.specs.Grammar.{Grammar, Members, TaggedGrammar, TaggedMembers}
use Rattle.yasna_base.specs.Identifier.{universal, end_tag}
use Rattle.yasna_base.specs.AnyOrder.{InSomeOrder}
use Rattle.yasna_base.specs.Set.{set_tag, IsSetOf, AnySetOf}
use Rattle.yasna_base.specs.Coding.{IsCoding, ArePartsCoding, Any}
use Rattle.yasna_base.specs.Sequence.{sequence_tag}
use Rattle.yasna_base.specs.SequenceOf.{IsListOf, AnyListOf}
use Rattle.yasna_base.specs.Element.{Enclosed, AnyEnclosed}
use Rattle.yasna_base.specs.Bits.{bits_segmentation, IsBits, IsDeepBits, bits_tag}
use Rattle.yasna_base.specs.Octets.{octets_segmentation, IsDeepOctets}
use Rattle.yasna_base.proofs.Segmented.{deep_begins}
use Rattle.yasna_base.proofs.Identifier.{not_end}
use Rattle.yasna_reader.specs.declared.state.PartsReader.{PartsReader}
use Rattle.yasna_reader.specs.Optional.{ReadsDefault, ReadsOrDefaults}
use Rattle.yasna_reader.specs.Parse.{Parses}
use Rattle.yasna_reader.specs.Sequence.{Runs, ReadsParts}
use Rattle.yasna_reader.specs.SequenceOf.{Collects}
use Rattle.yasna_reader.specs.SetOf.{CollectsInOrder}
use Rattle.yasna_reader.specs.declared.set_of.Order.TheVariants.{Ascending}
use Rattle.yasna_reader.specs.ByTags.{DecodesByTags}
use Rattle.yasna_reader.specs.Tagged.{ReadsImplicitly}
use Rattle.yasna_reader.specs.Decodes.{Decodes, Decoded}
use Rattle.yasna_reader.specs.Primitive.{ReadsSeen, Reads, NoLevel}
use Rattle.yasna_reader.specs.Raw.{ReadsRaw}
use Rattle.yasna_bytes.specs.Contents.{NeverAllocates, MayAllocate}
use Rattle.yasna_bytes.specs.Segments.{bits_in}
use Rattle.yasna_reader.specs.State.{Reading, IsFresh, untagged, starts, part_of, Does, UnlessFailed}
use Rattle.yasna_reader.proofs.ListDecoding.{collects}
use Rattle.yasna_reader.proofs.ByTags.{IsDecoderByTags, tagged_by_tag}
use Rattle.yasna_reader.proofs.PartsByTags.{IsPartsDecoderByTags}
use Rattle.yasna_reader.proofs.UnderTags.{DoesUnder, does_as, implicit_by_tag}
use Rattle.yasna_reader.proofs.SetOfReads.{set_of_by_tag, any_set_of_by_tag}
use Rattle.yasna_reader.proofs.OptionalParts.{IsContentsDecoder, contents_sequence}
use Rattle.yasna_reader.proofs.Sequences.{parts_map}
use Rattle.yasna_reader.proofs.Tuples.{IsDecoder, IsPartsDecoder, steps_sequence}
use Rattle.yasna_reader.proofs.WholeInputs.{whole}
use Rattle.yasna_reader.proofs.RawReads.{raw_decodes}
use Rattle.yasna_reader.proofs.Primitives.{leaf_decodes, allocating_decodes}
pub use Rattle.yasna_reader.proofs.Tuples.{decodes_by, done_by, step_by, seen, chosen}
pub use Rattle.yasna_reader.proofs.OptionalParts.{then_by, end_by, part_by, option_by, no_match_at_end}
pub use Rattle.yasna_reader.proofs.OptionalReads.{nothing_elsewhere, part_elsewhere, leaf_no_match, allocating_no_match}
pub use Rattle.yasna_reader.proofs.NextTag.{looked, found_none, found_other}
pub use Rattle.yasna_reader.proofs.Sticky.{seen_repeats_error, raw_repeats_error, parts_repeat_error}
pub use Rattle.yasna_reader.proofs.WholeInputs.{read_encoding, rejects_none, exactly_as, reads_some}
pub use Rattle.yasna_reader.proofs.ListDecoding.{same_items}
pub use Rattle.yasna_reader.proofs.ByTags.{decodes_by_tags, plain_by, leaf_by_tag, leaf_with_memory_by_tag, allocating_by_tag, bits_by_tag}
pub use Rattle.yasna_reader.proofs.ByTags.{string_by_tag, sequence_by_tag, list_by_tag}
pub use Rattle.yasna_reader.proofs.DefaultParts.{default_by}
pub use Rattle.yasna_reader.proofs.PartsByTags.{part_by_tags, option_by_tags, default_by_tags, end_by_tags, starts_elsewhere, in_range_by}
pub use Rattle.yasna_reader.proofs.PartsByTags.{no_match_before}
pub use Rattle.yasna_reader.proofs.Choices.{the_choice, first_of, others_of, chosen_by_tags, found_none_by_tags}
pub use Rattle.yasna_reader.proofs.UnderTags.{seen_under, parts_under, implicit_under}

-- a typed read from what equals s
pub reads_at : {V A : Type 0} {B : TaggedGrammar A} {view : V → A} {D : TaggedMembers}
    {M : ℕ → Tag → List ℕ → Type 0} {t : Tag} {p s : Reading} {r : Result V ASN1Error} {s' : Reading} → ReadsSeen B view D M t p r s' → p ≡ s →
    ReadsSeen B view D M t s r s'
reads_at {B} {view} {D} {M} {t} {r} {s'} h e = subst (λ z. ReadsSeen B view D M t z r s') e h

-- a typed read under the type's own tag decodes
pub leaf_by : {A : Type 0} (B : TaggedGrammar A) (k : ℕ) → (k ≡ 0 → ⊥) →
    IsDecoder false (B (universal k)) (Any (B (universal k))) (Reads B NoLevel NeverAllocates (universal k))
leaf_by B k h = record { decodes = λ s r s' fresh x. leaf_decodes B k h s r s' fresh.1 x fresh.0 }

-- a read of a string, whose segments may be elements, decodes; view is the model of a value
pub string_by : {V A : Type 0} (B : TaggedGrammar A) (view : V → A) (k : ℕ) → (k ≡ 0 → ⊥) →
    IsDecoder true (λ m n v b. B (universal k) m n (view v) b) (Any (B (universal k)))
    (ReadsSeen B view IsDeepOctets MayAllocate (universal k))
string_by B view k h = record {
  decodes = λ s r s' fresh x.
      allocating_decodes B view IsDeepOctets k h (λ n m z. deep_begins octets_segmentation n m (universal k) z) s r s' fresh.1 x fresh.0;
}

-- a read of a BIT STRING decodes
pub bits_by : IsDecoder true (λ m n v b. IsBits bits_tag m n (bits_in v) b) (Any (IsBits bits_tag))
    (ReadsSeen IsBits bits_in IsDeepBits MayAllocate bits_tag)
bits_by = record {
  decodes = λ s r s' fresh x.
      allocating_decodes IsBits bits_in IsDeepBits 3 (λ e. omega arith) (λ n m z. deep_begins bits_segmentation n m bits_tag z) s r s' fresh.1 x fresh.0;
}

-- a read of an element of any tag, whose copy B describes, decodes
pub raw_by : {V A : Type 0} (B : Grammar A) (view : V → A) →
    IsDecoder true (λ m n v b. B m n (view v) b) (Any B) (ReadsRaw B view)
raw_by B view = record { decodes = λ s r s' fresh x. raw_decodes B view s fresh r s' x }

-- a run of f does what each of its calls does
pub by_run : {F T R : Type 0} {g : Once F (MutBor T × Unit {0}) (R × (MutBor T × Unit {0}))} {f : F} (P : T → R → T → Type 0) →
    ((p q : MutBor T) (r : R) → g.post f (p, tt) (r, (q, tt)) → P p.now r q.now) → (s : T) (r : R) (s' : T) → FnOnceReturnsAtMut g f s r s' → P s r s'
by_run P obeys s r s' h = subst (λ z. P z r s') h.shows (subst (λ z. P h.shown.now r z) h.leaves (obeys h.shown h.left r h.met))

-- a parse whose closure reads one value
pub parse_by : {F A : Type 0} {g : Once F (MutBor Reading × Unit {0}) (Result A ASN1Error × (MutBor Reading × Unit {0}))} {f : F}
    {E : A → A → Type 0} {may_allocate : Bool} {B : Grammar A} {S : Members}
    {N : Does A} {m : BERMode} {s : List ℕ} {r : Result A ASN1Error} → IsCoding E B S →
    IsDecoder may_allocate B S N → Parses (FnOnceReturnsAtMut g f) m s r →
    ((p q : MutBor Reading) (x : Result A ASN1Error) → g.post f (p, tt) (x, (q, tt)) → N p.now x q.now) → Decoded may_allocate B S m s r
parse_by {may_allocate} {N} {m} {s} {r} laws value p obeys =
    let start = starts s m in
    whole may_allocate laws m s p.own p.left (value.decodes start p.own p.left (refl, refl) (by_run N obeys start p.own p.left p.obeys)) r p.returns

-- a SEQUENCE whose closure reads the parts one by one and makes a value of them
pub sequence_by : {U A F : Type 0} {g : Once F (MutBor (PartsReader Reading) × Unit {0}) (Result U ASN1Error × (MutBor (PartsReader Reading) × Unit {0}))}
    {f : F} {E : A → A → Type 0} {may_allocate : Bool} {C : Grammar A} {S : Members}
    {P : Does U} {s : Reading} {r : Result U ASN1Error} {s' : Reading} (parts : U → A) (make : A → U) →
    ((w : A) → parts (make w) ≡ w) → ArePartsCoding E C S → IsPartsDecoder may_allocate C S make P → IsFresh s → ReadsParts (Runs g f) sequence_tag s r s' →
    ((p q : MutBor (PartsReader Reading)) (x : Result U ASN1Error) → g.post f (p, tt) (x, (q, tt)) → P (part_of p.now) x (part_of q.now)) →
    Decodes {A = U} may_allocate (λ m n v b. Enclosed C sequence_tag m n (parts v) b) (AnyEnclosed S sequence_tag) s r s'
sequence_by {P} {s} {r} {s'} parts make back laws reads fresh h obeys =
    steps_sequence parts make back laws reads sequence_tag (not_end 16 (λ e. omega arith)) s fresh r s'
    (parts_map _ P (λ x y z i k. by_run (λ u y w. P (part_of u) y (part_of w)) obeys (record { reader = x }) y (record { reader = z }) k) sequence_tag s r s' h)

-- a SEQUENCE whose closure reads parts, of which some may be omitted, and makes a value of them
pub contents_by : {U A F : Type 0} {g : Once F (MutBor (PartsReader Reading) × Unit {0}) (Result U ASN1Error × (MutBor (PartsReader Reading) × Unit {0}))}
    {f : F} {may_allocate : Bool} {C : Grammar A} {S : Members}
    {P : Does U} {s : Reading} {r : Result U ASN1Error} {s' : Reading} (parts : U → A) (make : A → U) →
    ((w : A) → parts (make w) ≡ w) → IsContentsDecoder may_allocate C S make P → IsFresh s → ReadsParts (Runs g f) sequence_tag s r s' →
    ((p q : MutBor (PartsReader Reading)) (x : Result U ASN1Error) → g.post f (p, tt) (x, (q, tt)) → P (part_of p.now) x (part_of q.now)) →
    Decodes {A = U} may_allocate (λ m n v b. Enclosed C sequence_tag m n (parts v) b) (AnyEnclosed S sequence_tag) s r s'
contents_by {P} {s} {r} {s'} parts make back reads fresh h obeys =
    contents_sequence parts make back reads sequence_tag (not_end 16 (λ e. omega arith)) s fresh r s'
    (parts_map _ P (λ x y z i k. by_run (λ u y w. P (part_of u) y (part_of w)) obeys (record { reader = x }) y (record { reader = z }) k) sequence_tag s r s' h)

-- a call of f does what each of its calls does
pub by_call : {F T R : Type 0} {g : Mut F (MutBor T × Unit {0}) (R × (MutBor T × Unit {0}))} (P : T → R → T → Type 0) →
    ((f f' : F) (p q : MutBor T) (r : R) → Called g f (p, tt) (r, (q, tt)) f' → P p.now r q.now) → (f f' : F) (s : T) (r : R) (s' : T) →
    CalledAtMut g f s r f' s' → P s r s'
by_call P obeys f f' s r s' h = subst (λ z. P z r s') h.shows (subst (λ z. P h.shown.now r z) h.leaves (obeys f f' h.shown h.left r h.called))

-- a SEQUENCE OF whose closure reads one element a turn
pub list_by : {F A : Type 0} {g : Mut F (MutBor Reading × Unit {0}) (Result A ASN1Error × (MutBor Reading × Unit {0}))} {f : F}
    {E : A → A → Type 0} {may_allocate : Bool} {B : Grammar A} {S : Members}
    {N : Does A} {s : Reading} {r : Result (Vec A Global) ASN1Error} {s' : Reading} → IsCoding E B S →
    IsDecoder may_allocate B S N → IsFresh s → ReadsParts (Collects (CalledAtMut g) f) sequence_tag s r s' →
    ((f f' : F) (p q : MutBor Reading) (x : Result A ASN1Error) → Called g f (p, tt) (x, (q, tt)) f' → N p.now x q.now) →
    Decodes {A = Vec A Global} true (λ m n v b. IsListOf B sequence_tag m n v.items b) (AnyListOf S sequence_tag) s r s'
list_by {g} {f} {may_allocate} {N} {s} {r} {s'} laws value fresh h obeys =
    collects laws may_allocate (CalledAtMut g) (λ h z x h' z' now k. value.decodes z x z' now (by_call N obeys h h' z x z' k)) sequence_tag
    (not_end 16 (λ e. omega arith)) f s fresh r s' h

-- an element under an EXPLICIT tag whose closure reads the one inside
pub tagged_by : {F A : Type 0} {g : Once F (MutBor Reading × Unit {0}) (Result A ASN1Error × (MutBor Reading × Unit {0}))} {f : F}
    {E : A → A → Type 0} {may_allocate : Bool} {B : Grammar A} {S : Members} {N : Does A} {t : Tag} {s : Reading} {r : Result A ASN1Error} {s' : Reading} →
    (t ≡ end_tag → ⊥) → IsCoding E B S → IsDecoder may_allocate B S N → IsFresh s → ReadsParts (FnOnceReturnsAtMut g f) t s r s' →
    ((p q : MutBor Reading) (x : Result A ASN1Error) → g.post f (p, tt) (x, (q, tt)) → N p.now x q.now) →
    DecodesByTags (t ∷ []) may_allocate (Enclosed B t) (AnyEnclosed S t) s r s'
tagged_by {N} {t} {s} {r} {s'} not_end laws value fresh h obeys =
    (tagged_by_tag t not_end laws value).decodes s r s' fresh (parts_map _ N (λ x y z i k. by_run N obeys x y z k) t s r s' h)

-- one under an IMPLICIT tag whose closure does as P says, which does under the tag what N does
pub implicit_by : {F A : Type 0} (g : Once F (MutBor Reading × Unit {0}) (Result A ASN1Error × (MutBor Reading × Unit {0}))) {f : F}
    {ts : List Tag} {may_allocate : Bool} {B : Grammar A} {S : Members} {P N : Does A} {t : Tag} {s : Reading} {r : Result A ASN1Error} {s' : Reading} →
    DoesUnder t P N → IsDecoderByTags ts may_allocate B S N → IsFresh s → ReadsImplicitly (FnOnceReturnsAtMut g f) t s r s' →
    ((p q : MutBor Reading) (x : Result A ASN1Error) → g.post f (p, tt) (x, (q, tt)) → P p.now x q.now) →
    DecodesByTags ts may_allocate B S s r s'
implicit_by g {P = P} {t = t} {s = s} {r = r} {s' = s'} under value fresh h obeys =
    (implicit_by_tag (does_as (by_run P obeys) under) value).decodes s r s' fresh h

-- a SEQUENCE whose closure reads parts that tags distinguish
pub parts_by : {U A F : Type 0} {g : Once F (MutBor (PartsReader Reading) × Unit {0}) (Result U ASN1Error × (MutBor (PartsReader Reading) × Unit {0}))}
    {f : F} {ts : List Tag} {may_allocate : Bool} {C : Grammar A} {S : Members}
    {P : Does U} {s : Reading} {r : Result U ASN1Error} {s' : Reading} (parts : U → A) (make : A → U) →
    ((w : A) → parts (make w) ≡ w) → IsPartsDecoderByTags ts may_allocate C S make P → IsFresh s → ReadsParts (Runs g f) sequence_tag s r s' →
    ((p q : MutBor (PartsReader Reading)) (x : Result U ASN1Error) → g.post f (p, tt) (x, (q, tt)) → P (part_of p.now) x (part_of q.now)) →
    Decodes {A = U} may_allocate (λ m n v b. Enclosed C sequence_tag m n (parts v) b) (AnyEnclosed S sequence_tag) s r s'
parts_by parts make back reads = contents_by parts make back reads.contents

-- a SET OF whose closure reads one element a turn, as it is
pub set_of_by : {F A : Type 0} {g : Mut F (MutBor Reading × Unit {0}) (Result A ASN1Error × (MutBor Reading × Unit {0}))} {f : F}
    {E : A → A → Type 0} {may_allocate : Bool} {B : Grammar A} {S : Members}
    {N : Does A} {s : Reading} {r : Result (Vec A Global) ASN1Error} {s' : Reading} → IsCoding E B S →
    IsDecoder may_allocate B S N → IsFresh s → ReadsParts (CollectsInOrder Ascending (CalledAtMut g) f) set_tag s r s' →
    ((f f' : F) (p q : MutBor Reading) (x : Result A ASN1Error) → Called g f (p, tt) (x, (q, tt)) f' → N p.now x q.now) →
    DecodesByTags {A = Vec A Global} (set_tag ∷ []) true (λ m n v b. IsSetOf B set_tag m n v.items b) (AnySetOf S set_tag) s r s'
set_of_by {g} {f} {N} {s} {r} {s'} laws value fresh h obeys =
    (set_of_by_tag (CalledAtMut g) f set_tag (not_end 17 (λ e. omega arith)) laws value (by_call N obeys)).decodes s r s' fresh h

-- a SET OF whose closure reads one element a turn, in no order
pub any_set_of_by : {F A : Type 0} {g : Mut F (MutBor Reading × Unit {0}) (Result A ASN1Error × (MutBor Reading × Unit {0}))} {f : F}
    {E : A → A → Type 0} {may_allocate : Bool} {B : Grammar A} {S : Members}
    {N : Does A} {s : Reading} {r : Result (Vec A Global) ASN1Error} {s' : Reading} → IsCoding E B S →
    IsDecoder may_allocate B S N → IsFresh s → ReadsParts (CollectsInOrder Ascending (CalledAtMut g) f) set_tag s r s' →
    ((f f' : F) (p q : MutBor Reading) (x : Result A ASN1Error) → Called g f (p, tt) (x, (q, tt)) f' → N p.now x q.now) →
    DecodesByTags {A = Vec A Global} (set_tag ∷ []) true (λ m n v b. InSomeOrder (IsSetOf B set_tag) m n v.items b) (AnySetOf S set_tag) s r s'
any_set_of_by {g} {f} {N} {s} {r} {s'} laws value fresh h obeys =
    (any_set_of_by_tag (CalledAtMut g) f set_tag (not_end 17 (λ e. omega arith)) laws value (by_call N obeys)).decodes s r s' fresh h

-- a part with a default whose closure's calls do what N says
pub reads_default_by : {F A : Type 0} (g : Once F (MutBor Reading × Unit {0}) (Result A ASN1Error × (MutBor Reading × Unit {0}))) (f : F) (N : Does A)
    (eq : A → A → Bool) (d : A) (s : Reading) (r : Result A ASN1Error) (s' : Reading) → ReadsDefault (FnOnceReturnsAtMut g f) eq d s r s' →
    ((p q : MutBor Reading) (x : Result A ASN1Error) → g.post f (p, tt) (x, (q, tt)) → N p.now x q.now) → ReadsDefault N eq d s r s'
reads_default_by {A} g f N eq d s r s' h obeys = by_sticky s.failed h
  where
    by_sticky : (k : Option ASN1Error) → UnlessFailed k s r s' (ReadsOrDefaults (FnOnceReturnsAtMut g f) eq d (untagged s) r s') →
        UnlessFailed k s r s' (ReadsOrDefaults N eq d (untagged s) r s')
    by_sticky (Some e) x = x
    by_sticky None x = record {
      outcome = x.outcome;
      between = x.between;
      hands = record {
        own = x.hands.own;
        left = x.hands.left;
        obeys = by_run N obeys (untagged s) x.hands.own x.hands.left x.hands.obeys;
        comes = x.hands.comes;
      };
      defaults = x.defaults;
    }
