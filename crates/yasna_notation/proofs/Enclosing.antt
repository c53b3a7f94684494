-- What reads of elements around others do, by what the closures' calls do.
use Rattle.std.proofs.Common.{◌≡◌, ◌<◌, ◌^◌, List, [], ◌∷◌, Bool, true, Option, Some, None, Result, Vec, refl, sym, ap, subst, arith}
use Rattle.std.specs.Borrow.{MutBor}
use Rattle.std.specs.Fn.{Once, Mut, Called, FnOnceReturnsAtMut, CalledAtMut}
use Rattle.std.specs.Global.{Global}
use Rattle.yasna_base.specs.declared.error.ASN1Error.{ASN1Error}
use Rattle.yasna_base.specs.declared.tag.Tag.{Tag}
use Rattle.yasna_base.specs.Coding.{IsCoding}
use Rattle.yasna_base.specs.Element.{Enclosed, AnyEnclosed}
use Rattle.yasna_base.specs.Grammar.{Grammar, Members}
use Rattle.yasna_base.specs.Identifier.{end_tag, tag_or}
use Rattle.yasna_base.specs.Sequence.{sequence_tag}
use Rattle.yasna_base.specs.SequenceOf.{IsListOf, AnyListOf}
use Rattle.yasna_base.proofs.Identifier.{not_end}
use Rattle.yasna_reader.specs.declared.callback.Outcome.{Outcome}
use Rattle.yasna_reader.specs.declared.state.PartsReader.{PartsReader}
use Rattle.yasna_reader.specs.ByTags.{DecodesByTags}
use Rattle.yasna_reader.specs.Callback.{Lent, returned_of}
use Rattle.yasna_reader.specs.Decodes.{RepeatsError}
use Rattle.yasna_reader.specs.Sequence.{Runs, ReadsParts}
use Rattle.yasna_reader.specs.SequenceOf.{Collects}
use Rattle.yasna_reader.specs.State.{Reading, IsFresh, part_of, untagged, Does, UnlessFailed}
use Rattle.yasna_reader.specs.Tagged.{reading_under, ReadsImplicitly}
use Rattle.yasna_reader.proofs.ByTags.{tagged_by_tag, list_by_tag, decodes_by_tags, parts_no_match, IsDecoderByTags}
use Rattle.yasna_reader.proofs.Sticky.{parts_repeat_error}
use Rattle.yasna_reader.proofs.Sequences.{element, parts_map}
use Rattle.yasna_reader.proofs.Tuples.{IsDecoder}
use Rattle.yasna_reader.proofs.UnderTags.{DoesUnder, parts_under, implicit_under, implicit_by_tag, does_as}
use Rattle.yasna_notation.specs.Notation.{ReadsAs}
use Rattle.yasna_notation.specs.Parts.{ReadsContents}
use Rattle.yasna.proofs.Closures.{by_run, by_call}
use Rattle.yasna_notation.proofs.OneTag.{by_tags, one_tag_read}

-- a sticky error is returned where a tag is to be in place of another
implicit_repeats_error : {A : Type 0} (P : Does A) (t : Tag) (s : Reading) (r : Result A ASN1Error) (s' : Reading) → ReadsImplicitly P t s r s' →
    RepeatsError s r s'
implicit_repeats_error {A} P t s r s' h e failed =
    subst (λ k. UnlessFailed k s r s' ((o : Outcome A) × Lent P (reading_under t s) s o s' × (r ≡ returned_of o))) failed h

module _ {A : Type 0} {tags_known : Bool} {ts : List Tag} {retagged may_allocate : Bool} {B : Option Tag → Grammar A}
    {S : Option Tag → Members} where
  -- what reads a value of a notation decodes
  pub value_by : IsDecoder may_allocate (B None) (S None) (ReadsAs tags_known ts retagged may_allocate B S)
  value_by = record { decodes = λ s r s' fresh h. (h.fresh fresh).decodes }

  -- where a tag waits it decodes by that
  replaced_under : retagged ≡ true → (t : Tag) → (t ≡ end_tag → ⊥) → t.tag_number < 2 ^ 64 →
      DoesUnder t (ReadsAs tags_known ts retagged may_allocate B S) (DecodesByTags (t ∷ []) may_allocate (B (Some t)) (S (Some t)))
  replaced_under may t not range = record {
    does = λ s r m fresh h.
        let d = h.replaced may t not range fresh.0 refl in
        let same : untagged s ≡ s = ap {A = Option Tag} {B = Reading} (λ u. record s { tag = u }) (sym fresh.1) in
        subst (λ z. DecodesByTags (t ∷ []) may_allocate (B (Some t)) (S (Some t)) z r (untagged m)) same
        (record { decodes = d.decodes; no_match = d.no_match refl });
  }

  -- an element of another tag around one that is read so
  pub explicit_read : {F : Type 0} {E : A → A → Type 0} {g : Once F (MutBor Reading × Unit {0}) (Result A ASN1Error × (MutBor Reading × Unit {0}))} {f : F}
      {own t : Tag}
      {s : Reading} {r : Result A ASN1Error} {s' : Reading} → IsCoding E (B None) (S None) → (own ≡ end_tag → ⊥) →
      ReadsParts (FnOnceReturnsAtMut g f) t s r s' → t ≡ own →
      ((p q : MutBor Reading) (x : Result A ASN1Error) → g.post f (p, tt) (x, (q, tt)) → ReadsAs tags_known ts retagged may_allocate B S p.now x q.now) →
      ReadsAs true (own ∷ []) true may_allocate (λ u. Enclosed (B None) (tag_or u own)) (λ u. AnyEnclosed (S None) (tag_or u own)) s r s'
  explicit_read {g = g} {f = f} {own = own} {s = s} {r = r} {s' = s'} laws other by is obeys =
      let h = subst (λ u. ReadsParts (FnOnceReturnsAtMut g f) u s r s') is by in
      let N = ReadsAs tags_known ts retagged may_allocate B S in
      one_tag_read (ReadsParts N) own other (λ t not. tagged_by_tag t not laws value_by) (parts_under N own) s r s' (parts_repeat_error h)
      (parts_map _ N (λ x y z i k. by_run N obeys x y z k) own s r s' h)

  -- a SEQUENCE OF such elements
  pub list_read : {F : Type 0} {E : A → A → Type 0} {g : Mut F (MutBor Reading × Unit {0}) (Result A ASN1Error × (MutBor Reading × Unit {0}))} {f : F}
      {s : Reading} {r : Result (Vec A Global) ASN1Error} {s' : Reading} → IsCoding E (B None) (S None) →
      ReadsParts (Collects (CalledAtMut g) f) sequence_tag s r s' →
      ((f f' : F) (p q : MutBor Reading) (x : Result A ASN1Error) → Called g f (p, tt) (x, (q, tt)) f' → ReadsAs tags_known ts retagged may_allocate B S p.now x q.now) →
      ReadsAs {A = Vec A Global} true (sequence_tag ∷ []) true true (λ u m n v b. IsListOf (B None) (tag_or u sequence_tag) m n v.items b)
      (λ u. AnyListOf (S None) (tag_or u sequence_tag)) s r s'
  list_read {g = g} {f = f} {s = s} {r = r} {s' = s'} laws h obeys =
      one_tag_read (ReadsParts (Collects (CalledAtMut g) f)) sequence_tag (not_end 16 (λ e. omega arith))
      (λ t not. list_by_tag (CalledAtMut g) f t not laws value_by (by_call (ReadsAs tags_known ts retagged may_allocate B S) obeys))
      (parts_under (Collects (CalledAtMut g) f) sequence_tag) s r s' (parts_repeat_error h) h

  -- one in place of whose tag another is there
  pub implicit_read : {F : Type 0} (g : Once F (MutBor Reading × Unit {0}) (Result A ASN1Error × (MutBor Reading × Unit {0}))) (f : F) {own t : Tag}
      {s : Reading} {r : Result A ASN1Error} {s' : Reading} → retagged ≡ true → (own ≡ end_tag → ⊥) → own.tag_number < 2 ^ 64 →
      ReadsImplicitly (FnOnceReturnsAtMut g f) t s r s' → t ≡ own →
      ((p q : MutBor Reading) (x : Result A ASN1Error) → g.post f (p, tt) (x, (q, tt)) → ReadsAs tags_known ts retagged may_allocate B S p.now x q.now) →
      ReadsAs true (own ∷ []) true may_allocate (λ u. B (Some (tag_or u own))) (λ u. S (Some (tag_or u own))) s r s'
  implicit_read g f {own = own} {s = s} {r = r} {s' = s'} may other in_range by is obeys =
      let h = subst (λ u. ReadsImplicitly (FnOnceReturnsAtMut g f) u s r s') is by in
      let R = FnOnceReturnsAtMut g f in
      let does : (t : Tag) → (t ≡ end_tag → ⊥) → t.tag_number < 2 ^ 64 → IsDecoderByTags (t ∷ []) may_allocate (B (Some t)) (S (Some t)) (ReadsImplicitly R t) =
      λ t not range. implicit_by_tag (does_as (by_run (ReadsAs tags_known ts retagged may_allocate B S) obeys) (replaced_under may t not range))
      decodes_by_tags in
      record {
        fresh = λ fresh. by_tags ((does own other in_range).decodes s r s' fresh h);
        replaced = λ _ t not range failed waits. by_tags
            ((does t not range).decodes (untagged s) r (untagged s') (failed, refl)
            ((implicit_under R own t).does (untagged s) r s' (failed, refl)
            (subst (λ (u : Option Tag). ReadsImplicitly R own (record s { tag = u }) r s') waits h)));
        repeats = implicit_repeats_error R own s r s' h;
      }

-- an element around parts that are read up to their end
pub sequence_read : {A F : Type 0} {g : Once F (MutBor (PartsReader Reading) × Unit {0}) (Result A ASN1Error × (MutBor (PartsReader Reading) × Unit {0}))} {f : F}
    {may_allocate : Bool} {C : Grammar A} {S : Members} {s : Reading} {r : Result A ASN1Error} {s' : Reading} → ReadsParts (Runs g f) sequence_tag s r s' →
    ((p q : MutBor (PartsReader Reading)) (x : Result A ASN1Error) → IsFresh (part_of p.now) → g.post f (p, tt) (x, (q, tt)) →
    ReadsContents may_allocate C S (part_of p.now) x (part_of q.now)) →
    ReadsAs true (sequence_tag ∷ []) true may_allocate (λ u. Enclosed C (tag_or u sequence_tag)) (λ u. AnyEnclosed S (tag_or u sequence_tag)) s r s'
sequence_read {A} {g = g} {f = f} {may_allocate} {C} {S} {s} {r} {s'} h obeys =
    let N : Does A = λ s r s'. IsFresh s → ReadsContents may_allocate C S s r s' in
    one_tag_read (ReadsParts N) sequence_tag (not_end 16 (λ e. omega arith))
    (λ t not. record {
      decodes = λ z x m fresh k. record {
        decodes = element may_allocate C S N (λ y u w now j. j now) t not z fresh x m k;
        no_match = parts_no_match N t z x m fresh k;
      };
    })
    (parts_under N sequence_tag) s r s' (parts_repeat_error h)
    (parts_map _ N (λ x y z i k. λ fresh. by_run (λ u y w. IsFresh (part_of u) → ReadsContents may_allocate C S (part_of u) y (part_of w))
    (λ p q x post now. obeys p q x now post) (record { reader = x }) y (record { reader = z }) k fresh) sequence_tag s r s' h)
