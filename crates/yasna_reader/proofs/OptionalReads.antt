-- Typed reads of parts that may be omitted: they have no match where what follows begins with another tag.
use Rattle.std.proofs.Common.{◌≡◌, ℕ, ◌^◌, ◌<◌, List, ◌∷◌, ◌++◌, sym, ap, subst, ◌∙◌}
use Rattle.std.specs.Prelude.{Err}
use Rattle.yasna_base.specs.declared.error.ASN1Error.{ASN1Error}
use Rattle.yasna_base.specs.declared.mode.BERMode.{BERMode}
use Rattle.yasna_base.specs.declared.tag.Tag.{Tag}
use Rattle.yasna_base.specs.Error.{kind_of}
use Rattle.yasna_base.specs.Grammar.{Members, TaggedGrammar, TaggedMembers}
use Rattle.yasna_base.specs.Identifier.{BeginsWithTag, AtEnd, end_tag, tag_or, begins}
use Rattle.yasna_base.specs.Sequence.{AnyPart, AnyNothing}
use Rattle.yasna_base.proofs.Identifier.{begins_with}
use Rattle.yasna_bytes.specs.Contents.{NeverAllocates, MayAllocate}
use Rattle.yasna_reader.specs.Primitive.{RejectedAs, ReadsTyped, ReadsSeen, Reads, NoLevel}
use Rattle.yasna_bytes.specs.Rejection.{BlamesBytes, IsElsewhere, another}
use Rattle.yasna_reader.specs.State.{Reading, IsFresh, rejecting, tag_of, UnlessFailed}
use Rattle.yasna_reader.proofs.OptionalParts.{NoMatchBefore}
use Rattle.yasna_bytes.proofs.Rejection.{blames_bytes_of, at_end_elsewhere, begins_not_elsewhere}

-- contents in Q, up to an end, don't begin with the tag
abbrev pub StartsElsewhere : Tag → Members → Type 0
StartsElsewhere t Q = (m : BERMode) (n : ℕ) (c r : List ℕ) → AtEnd r → Q m n c → IsElsewhere t (c ++ r)

-- the end of contents doesn't begin with the tag
pub nothing_elsewhere : (t : Tag) → (t ≡ end_tag → ⊥) → StartsElsewhere t AnyNothing
nothing_elsewhere t not_end m n c r i q = subst (λ z. IsElsewhere t (z ++ r)) (sym q) (at_end_elsewhere t r not_end i)

-- a part that begins with another tag doesn't begin with the tag
pub part_elsewhere : {S : Members} (t u : Tag) (R : Members) → u.tag_number < 2 ^ 64 → (u ≡ t → ⊥) →
    ((m : BERMode) (n : ℕ) (b : List ℕ) → S m n b → BeginsWithTag u b) → StartsElsewhere t (AnyPart S R)
part_elsewhere t u R range other starts m n c r i q =
    let prefix = begins_with u q.prefix q.rest (starts m n q.prefix q.here) in
    another u range other (begins_with u c r (subst (λ z. BeginsWithTag u z) (sym q.joined) prefix))

module _ {V A : Type 0} (B : TaggedGrammar A) (view : V → A) (D : TaggedMembers)
    (M : ℕ → Tag → List ℕ → Type 0) (t : Tag) (deep : (n : ℕ) (m : BERMode) (s : List ℕ) → D t m n s → BeginsWithTag t s)
    (memory : (n : ℕ) (s : List ℕ) → M n t s → BeginsWithTag t s) where
  rejected_no_match : (s : Reading) (e : ASN1Error) (s' : Reading) →
      RejectedAs (B t s.mode s.levels) (D t s.mode s.levels s.left) (M s.levels t s.left) (IsElsewhere t s.left) s e s' → IsElsewhere t s.left → (s' ≡ s) × BlamesBytes (kind_of e)
  rejected_no_match s e s' y other = (
    y.state ∙ ap (λ b. rejecting b s e) (y.rejects.consumed.1 other),
    blames_bytes_of (kind_of e) (λ i. begins_not_elsewhere (deep s.levels s.mode s.left (y.rejects.too_deep (y.kind ∙ i))) other)
        (λ i. begins_not_elsewhere (memory s.levels s.left (y.rejects.memory (y.kind ∙ i))) other),
  )

  fresh_rejected : (s : Reading) (e : ASN1Error) (s' : Reading) → IsFresh s → ReadsSeen B view D M t s (Err e) s' →
      RejectedAs (B t s.mode s.levels) (D t s.mode s.levels s.left) (M s.levels t s.left) (IsElsewhere t s.left) s e s'
  fresh_rejected s e s' f x =
      let y = subst (λ k. UnlessFailed {A = V} k s (Err e) s' (ReadsTyped B view D M (tag_of s t) s (Err e) s')) f.0 x.reads in
      subst (λ u. ReadsTyped B view D M (tag_or u t) s (Err e) s') f.1 y

  -- a typed read has no match where what follows begins with another tag
  pub no_match_elsewhere : (Q : Members) → StartsElsewhere t Q → NoMatchBefore (ReadsSeen B view D M t) Q
  no_match_elsewhere Q elsewhere = record {
    no_match = λ s e s' f x q. rejected_no_match s e s' (fresh_rejected s e s' f x)
        (subst (λ z. IsElsewhere t z) (sym q.joined) (elsewhere s.mode s.levels q.contents q.rest q.ends q.member));
  }

-- a read of one level that never allocates has no match where the bytes that follow begin with another tag
pub leaf_no_match : {A : Type 0} (B : TaggedGrammar A) (t : Tag) (Q : Members) → StartsElsewhere t Q → NoMatchBefore (Reads B NoLevel NeverAllocates t) Q
leaf_no_match B t Q = no_match_elsewhere B (λ v. v) NoLevel NeverAllocates t (λ n m s d. d.1) (λ n s x. absurd x) Q

-- a read that may allocate has no match before another tag, where an element that is too deep begins with the read's tag
pub allocating_no_match : {V A : Type 0} (B : TaggedGrammar A) (view : V → A) (D : TaggedMembers) (t : Tag)
    (Q : Members) → ((n : ℕ) (m : BERMode) (s : List ℕ) → D t m n s → BeginsWithTag t s) → StartsElsewhere t Q →
    NoMatchBefore (ReadsSeen B view D MayAllocate t) Q
allocating_no_match B view D t Q deep = no_match_elsewhere B view D MayAllocate t deep (λ n s w. begins w.bit (w.size ∷ w.after) w.joined) Q
