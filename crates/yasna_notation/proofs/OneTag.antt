-- What reads do of a type of one tag, under its own and under one that waits.
use Rattle.std.proofs.Common.{◌≡◌, ℕ, List, [], ◌∷◌, Bool, true, false, Option, Result, subst, refl}
use Rattle.yasna_base.specs.declared.error.ASN1Error.{ASN1Error}
use Rattle.yasna_base.specs.declared.mode.BERMode.{BERMode}
use Rattle.yasna_base.specs.declared.tag.Tag.{Tag}
use Rattle.yasna_base.specs.Coding.{Any}
use Rattle.yasna_base.specs.declared.models.tagged_der_value.TaggedDerValue.{TaggedDerValue}
use Rattle.yasna_base.specs.Grammar.{Grammar, Members, TaggedGrammar, TaggedMembers}
use Rattle.yasna_base.specs.Identifier.{BeginsWithTag, end_tag, tag_or}
use Rattle.yasna_base.specs.Raw.{IsRaw}
use Rattle.yasna_base.specs.TaggedDerValue.{raw_of}
use Rattle.yasna_bytes.specs.Contents.{NeverAllocates, MayAllocate}
use Rattle.yasna_reader.specs.ByTags.{DecodesByTags}
use Rattle.yasna_reader.specs.Decodes.{RepeatsError}
use Rattle.yasna_reader.specs.Primitive.{ReadsSeen, Reads, NoLevel}
use Rattle.yasna_reader.specs.Raw.{ReadsRaw}
use Rattle.yasna_reader.specs.State.{Reading, untagged, Does}
use Rattle.yasna_reader.proofs.ByTags.{IsDecoderByTags, leaf_by_tag, allocating_by_tag}
use Rattle.yasna_reader.proofs.Sticky.{seen_repeats_error, raw_repeats_error}
use Rattle.yasna_reader.proofs.RawReads.{raw_decodes}
use Rattle.yasna_reader.proofs.UnderTags.{DoesUnder, seen_under}
use Rattle.yasna_notation.specs.Notation.{DecodesAs, ReadsAs}

-- what decodes by tags
pub by_tags : {A : Type 0} {ts : List Tag} {may_allocate : Bool} {B : Grammar A} {S : Members} {s : Reading} {r : Result A ASN1Error} {s' : Reading} →
    DecodesByTags ts may_allocate B S s r s' → DecodesAs true ts may_allocate B S s r s'
by_tags x = record { decodes = x.decodes; no_match = λ _. x.no_match }

-- what does under each tag what a type with that tag does
pub one_tag_read : {A : Type 0} {may_allocate : Bool} {B : Tag → Grammar A} {S : Tag → Members} (N : Tag → Does A) (own : Tag) → (own ≡ end_tag → ⊥) →
    ((t : Tag) → (t ≡ end_tag → ⊥) → IsDecoderByTags (t ∷ []) may_allocate (B t) (S t) (N t)) → ((t : Tag) → DoesUnder t (N own) (N t)) →
    (s : Reading) (r : Result A ASN1Error) (s' : Reading) → RepeatsError s r s' → N own s r s' →
    ReadsAs true (own ∷ []) true may_allocate (λ u. B (tag_or u own)) (λ u. S (tag_or u own)) s r s'
one_tag_read {A} N own not_end decodes under s r s' repeats h = record {
  fresh = λ fresh. by_tags ((decodes own not_end).decodes s r s' fresh h);
  replaced = λ _ t other range failed waits. by_tags
      ((decodes t other).decodes (untagged s) r (untagged s') (failed, refl)
      ((under t).does (untagged s) r s' (failed, refl) (subst (λ (u : Option Tag). N own (record s { tag = u }) r s') waits h)));
  repeats = repeats;
}

-- a typed read that never allocates
pub leaf_read : {A : Type 0} (B : TaggedGrammar A) (own : Tag) → (own ≡ end_tag → ⊥) → (s : Reading) (r : Result A ASN1Error) (s' : Reading) →
    Reads B NoLevel NeverAllocates own s r s' →
    ReadsAs true (own ∷ []) true false (λ u m n v b. B (tag_or u own) m n v b) (λ u. Any (B (tag_or u own))) s r s'
leaf_read B own not_end s r s' h =
    one_tag_read (λ t. Reads B NoLevel NeverAllocates t) own not_end (leaf_by_tag B) (λ t. seen_under B (λ v. v) NoLevel NeverAllocates own t) s r s'
    (seen_repeats_error h) h

-- one that may, where what lies too deep begins with the tag
pub allocating_read : {V A : Type 0} (B : TaggedGrammar A) (view : V → A) (D : TaggedMembers) (own : Tag) → (own ≡ end_tag → ⊥) →
    ((t : Tag) (n : ℕ) (m : BERMode) (s : List ℕ) → D t m n s → BeginsWithTag t s) → (s : Reading) (r : Result V ASN1Error) (s' : Reading) →
    ReadsSeen B view D MayAllocate own s r s' →
    ReadsAs true (own ∷ []) true true (λ u m n v b. B (tag_or u own) m n (view v) b) (λ u. Any (B (tag_or u own))) s r s'
allocating_read B view D own not_end deep s r s' h =
    one_tag_read (λ t. ReadsSeen B view D MayAllocate t) own not_end (λ t other. allocating_by_tag B view D t other (deep t))
    (λ t. seen_under B view D MayAllocate own t) s r s' (seen_repeats_error h) h

-- a read of an element of any tag
pub any_read : (s : Reading) (r : Result TaggedDerValue ASN1Error) (s' : Reading) → ReadsRaw IsRaw raw_of s r s' →
    ReadsAs false [] false true (λ u m n v b. IsRaw m n (raw_of v) b) (λ u. Any IsRaw) s r s'
any_read s r s' h = record {
  fresh = λ fresh. record { decodes = raw_decodes IsRaw raw_of s fresh r s' h; no_match = λ e. absurd (cc) };
  replaced = λ e t other range failed waits. absurd (cc);
  repeats = raw_repeats_error h;
}
