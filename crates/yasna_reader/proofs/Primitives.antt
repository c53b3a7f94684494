-- Typed reads: what a front that was looked for does to a reading, and what that decodes.
use Rattle.std.proofs.Common.{◌≡◌, ℕ, List, ◌∷◌, length, Some, None, Result, Ok, Err, Bool, true, false, refl, sym, ap, subst, ◌∙◌, arith}
use Rattle.std.specs.Borrow.{Bor}
use Rattle.yasna_base.specs.declared.error.ASN1Error.{ASN1Error}
use Rattle.yasna_base.specs.declared.mode.BERMode.{BERMode}
use Rattle.yasna_base.specs.declared.tag.Tag.{Tag}
use Rattle.yasna_base.specs.Error.{kind_of}
use Rattle.yasna_base.specs.Grammar.{Grammar, Members, TaggedGrammar, TaggedMembers}
use Rattle.yasna_base.specs.Identifier.{BeginsWithTag, begins, end_tag, AtEnd, universal, tag_or}
use Rattle.yasna_base.specs.Coding.{Any}
use Rattle.yasna_base.proofs.Identifier.{not_end}
use Rattle.yasna_bytes.specs.declared.bytes.header.Rejection.{Rejection}
use Rattle.yasna_reader.specs.State.{Reading, IsFresh, untagged, rejecting, tag_of, UnlessFailed}
use Rattle.yasna_bytes.specs.Prefix.{Takes, SeenAt}
use Rattle.yasna_bytes.specs.Contents.{NeverAllocates, MayAllocate}
use Rattle.yasna_reader.specs.Primitive.{RejectedAs, ReadsAt, ReadsTyped, Commits, ParsesAs, ReadsSeen, Reads, NoLevel}
use Rattle.yasna_reader.specs.Decodes.{Explains, StickyExplains, ParsedValue, NotParsed, NoMatchAtEnd, Decodes}
use Rattle.yasna_bytes.specs.Rejection.{IsElsewhere}
use Rattle.yasna_bytes.proofs.Rejection.{blames_bytes_of, at_end_elsewhere, not_at_end}

-- what was found at the start, with the reading settled
pub committed : {V A : Type 0} (B : A → List ℕ → Type 0) (view : V → A) (D M E : Type 0) (s : Reading) (f : Result (V × Bor (List ℕ)) Rejection)
    (r : Result V ASN1Error) (s' : Reading) → SeenAt B view D M E s.left f → Commits s f r s' → ReadsAt B view D M E s r s'
committed B view D M E s (Ok x) (Ok v) s' a b =
    let e : x.0 ≡ v = cc (b.0) in
    let y = subst (λ z. Takes B s.left (view z) x.1.now) e a in
    record { prefix = y.prefix; rest = x.1.now; joined = y.joined; member = y.member; left = b.1 }
committed B view D M E s (Ok x) (Err e) s' a b = let f = b.0 in absurd (cc)
committed B view D M E s (Err x) (Ok v) s' a b = let f = b.0 in absurd (cc)
committed B view D M E s (Err x) (Err e) s' a b =
    let g : record { kind = x.kind } ≡ e = let f = b.0 in cc in
    record { rejection = x; kind = ap kind_of g; rejects = a; state = b.1 ∙ ap (rejecting x.consumed s) g }

-- what was found with the fields of a reading was found for the reading
pub at_view : {V A : Type 0} (B : TaggedGrammar A) (view : V → A) (D : TaggedMembers)
    (M : ℕ → Tag → List ℕ → Type 0) (tag u : Tag) (z s : Reading) (r : Result (V × Bor (List ℕ)) Rejection) → z ≡ s → u ≡ tag_of s tag →
    SeenAt (B u z.mode z.levels) view (D u z.mode z.levels z.left) (M z.levels u z.left) (IsElsewhere u z.left) z.left r → ParsesAs B view D M tag s r
at_view B view D M tag u z s r e f x =
    let y = subst (λ u. SeenAt (B u z.mode z.levels) view (D u z.mode z.levels z.left) (M z.levels u z.left) (IsElsewhere u z.left) z.left r) f x in
    subst (λ z. SeenAt (B (tag_of s tag) z.mode z.levels) view (D (tag_of s tag) z.mode z.levels z.left) (M z.levels (tag_of s tag) z.left)
    (IsElsewhere (tag_of s tag) z.left) z.left r) e y

-- what was found at the start, with the reading settled, is what a typed read does
pub reads_prefix : {V A : Type 0} (B : TaggedGrammar A) (view : V → A) (D : TaggedMembers)
    (M : ℕ → Tag → List ℕ → Type 0) (tag : Tag) (s : Reading) (f : Result (V × Bor (List ℕ)) Rejection) (r : Result V ASN1Error) (s' : Reading) →
    s.failed ≡ None → ParsesAs B view D M tag s f → Commits s f r s' → ReadsSeen B view D M tag s r s'
reads_prefix B view D M tag s f r s' e a b = record {
  reads = subst (λ k. UnlessFailed k s r s' (ReadsTyped B view D M (tag_of s tag) s r s')) (sym e)
      (committed (B (tag_of s tag) s.mode s.levels) view (D (tag_of s tag) s.mode s.levels s.left) (M s.levels (tag_of s tag) s.left)
      (IsElsewhere (tag_of s tag) s.left) s f r s' a b);
}

-- a typed read with a sticky error returns that failure
pub reads_sticky : {V A : Type 0} (B : TaggedGrammar A) (view : V → A) (D : TaggedMembers)
    (M : ℕ → Tag → List ℕ → Type 0) (tag : Tag) (s : Reading) (e : ASN1Error) (r : Result V ASN1Error) (s' : Reading) → s.failed ≡ Some e → r ≡ Err e →
    s' ≡ s → ReadsSeen B view D M tag s r s'
reads_sticky B view D M tag s e r s' k f g = record {
  reads = subst (λ k. UnlessFailed k s r s' (ReadsTyped B view D M (tag_of s tag) s r s')) (sym k) (f, g);
}

fresh : {V A : Type 0} (B : TaggedGrammar A) (view : V → A) (D : TaggedMembers)
    (M : ℕ → Tag → List ℕ → Type 0) (t : Tag) (s : Reading) (r : Result V ASN1Error) (s' : Reading) → IsFresh s → ReadsSeen B view D M t s r s' →
    ReadsTyped B view D M t s r s'
fresh B view D M t s r s' f x =
    let y = subst (λ k. UnlessFailed k s r s' (ReadsTyped B view D M (tag_of s t) s r s')) f.0 x.reads in
    subst (λ u. ReadsTyped B view D M (tag_or u t) s r s') f.1 y

-- nothing is too deep at an end
pub no_level_at_end : (n : ℕ) (m : BERMode) (t : Tag) (s : List ℕ) → (t ≡ end_tag → ⊥) → AtEnd s → NoLevel t m n s → ⊥
no_level_at_end n m t s o a x = not_at_end t s o a x.1

left_as : (b : Bool) (s : Reading) (e : ASN1Error) → (rejecting b s e).left ≡ s.left
left_as true s e = refl
left_as false s e = refl

sticky_as : (may_allocate : Bool) (S : List ℕ → Type 0) (b : Bool) (s : Reading) (e : ASN1Error) → s.failed ≡ None → Explains may_allocate S s.left e →
    StickyExplains may_allocate S s.left (rejecting b s e).failed
sticky_as may_allocate S true s e k x = x
sticky_as may_allocate S false s e k x = subst (StickyExplains may_allocate S s.left) (sym k) tt

stays : (s : Reading) → s.tag ≡ None → untagged s ≡ s
stays s e = ap (λ t. record s { tag = t }) (sym e)

-- What a fresh reading decodes, where the encodings of a type are what a typed read takes, at an end nothing is too deep
-- or allocates, and asks says whether it may allocate.
module _ {V A : Type 0} (may_allocate : Bool) (B : TaggedGrammar A) (view : V → A) (D : TaggedMembers)
    (M : ℕ → Tag → List ℕ → Type 0) (B' : Grammar V) (S' : Members) (t : Tag) (other : t ≡ end_tag → ⊥)
    (obeys : (m : BERMode) (n : ℕ) (v : V) (b : List ℕ) → B t m n (view v) b → B' m n v b)
    (may_allocate_by : (m : BERMode) (n : ℕ) (b : List ℕ) → S' m n b → (v : A) × B t m n v b) (deep : (n : ℕ) (m : BERMode) (s : List ℕ) → AtEnd s → D t m n s → ⊥)
    (memory : (n : ℕ) (s : List ℕ) → AtEnd s → M n t s → ⊥) (may : (n : ℕ) (s : List ℕ) → M n t s → may_allocate ≡ true) where
  typed_parsed : (s : Reading) (v : V) (s' : Reading) → s.tag ≡ None → ParsedValue (B t s.mode s.levels) (untagged s) (view v) s' → ParsedValue (B' s.mode s.levels) s v s'
  typed_parsed s v s' f y = record {
    prefix = y.prefix;
    rest = y.rest;
    joined = y.joined;
    member = obeys s.mode s.levels v y.prefix y.member;
    left = y.left ∙ ap {A = Reading} (λ z. record z { left = y.rest }) (stays s f);
  }

  explains : (s : Reading) (e : ASN1Error) (s' : Reading) → RejectedAs (B t s.mode s.levels) (D t s.mode s.levels s.left) (M s.levels t s.left) (IsElsewhere t s.left) s e s' →
      Explains may_allocate (S' s.mode s.levels) s.left e
  explains s e s' y = record {
    none = λ h b z g w. let a = may_allocate_by s.mode s.levels b w in
        y.rejects.none (λ i. h (sym (y.kind) ∙ i)) (a.0, z, record { prefix = b; joined = g; member = a.1 });
    memory = λ i. may s.levels s.left (y.rejects.memory (y.kind ∙ i));
  }

  rejecting_untagged : (b : Bool) (s : Reading) (e : ASN1Error) → s.tag ≡ None →
      rejecting b s e ≡ record s { left = (rejecting b s e).left; failed = (rejecting b s e).failed }
  rejecting_untagged true s e f = ap {B = Reading} (λ u. record s { failed = Some e; tag = u }) (sym f)
  rejecting_untagged false s e f = refl

  typed_rejected : (s : Reading) (e : ASN1Error) (s' : Reading) → IsFresh s →
      RejectedAs (B t s.mode s.levels) (D t s.mode s.levels s.left) (M s.levels t s.left) (IsElsewhere t s.left) s e s' → NotParsed may_allocate (S' s.mode s.levels) s e s'
  typed_rejected s e s' f y =
      let i = ap (λ z. length z.left) y.state in
      let j = ap length (left_as y.rejection.consumed s e) in
      record {
        explains = explains s e s' y;
        failed = subst (λ z. StickyExplains may_allocate (S' s.mode s.levels) s.left z.failed) (sym y.state)
            (sticky_as may_allocate (S' s.mode s.levels) y.rejection.consumed s e f.0 (explains s e s' y));
        further = omega arith;
        same = subst (λ z. z ≡ record s { left = z.left; failed = z.failed }) (sym y.state) (rejecting_untagged y.rejection.consumed s e f.1);
      }

  no_match : (s : Reading) (e : ASN1Error) (s' : Reading) →
      RejectedAs (B t s.mode s.levels) (D t s.mode s.levels s.left) (M s.levels t s.left) (IsElsewhere t s.left) s e s' → NoMatchAtEnd s e s'
  no_match s e s' y a = (
    y.state ∙ ap (λ b. rejecting b s e) (y.rejects.consumed.1 (at_end_elsewhere t s.left other a)),
    blames_bytes_of (kind_of e) (λ i. deep s.levels s.mode s.left a (y.rejects.too_deep (y.kind ∙ i))) (λ i. memory s.levels s.left a (y.rejects.memory (y.kind ∙ i))),
  )

  decodes : (s : Reading) (r : Result V ASN1Error) (s' : Reading) → IsFresh s →
      ReadsTyped B view D M t s r s' → Decodes may_allocate B' S' s r s'
  decodes s (Ok v) s' f y = typed_parsed s v s' f.1 y
  decodes s (Err e) s' f y = (typed_rejected s e s' f y, no_match s e s' y)

  -- such a read decodes
  pub may_allocate_decodes : (s : Reading) (r : Result V ASN1Error) (s' : Reading) → IsFresh s → ReadsSeen B view D M t s r s' → Decodes may_allocate B' S' s r s'
  may_allocate_decodes s r s' f x = decodes s r s' f (fresh B view D M t s r s' f x)

-- a typed read under the type's own tag that goes one level down and takes no memory decodes
pub leaf_decodes : {A : Type 0} (B : TaggedGrammar A) (k : ℕ) → (k ≡ 0 → ⊥) → (s : Reading) (r : Result A ASN1Error) (s' : Reading) →
    s.tag ≡ None → Reads B NoLevel NeverAllocates (universal k) s r s' → s.failed ≡ None →
    Decodes false (B (universal k)) (Any (B (universal k))) s r s'
leaf_decodes B k h s r s' t x f =
    may_allocate_decodes false B (λ v. v) NoLevel NeverAllocates (B (universal k)) (Any (B (universal k))) (universal k) (not_end k h)
    (λ m n v b y. y) (λ m n b y. y) (λ n m z. no_level_at_end n m (universal k) z (not_end k h)) (λ _ _ _ y. y) (λ _ _ y. absurd y) s r s' (f, t) x

-- a typed read that may allocate decodes under the type's own tag, where an element that is too deep begins with that tag
pub allocating_decodes : {V A : Type 0} (B : TaggedGrammar A) (view : V → A) (D : TaggedMembers) (k : ℕ) →
    (k ≡ 0 → ⊥) → ((n : ℕ) (m : BERMode) (s : List ℕ) → D (universal k) m n s → BeginsWithTag (universal k) s) → (s : Reading) (r : Result V ASN1Error)
    (s' : Reading) → s.tag ≡ None → ReadsSeen B view D MayAllocate (universal k) s r s' → s.failed ≡ None →
    Decodes true (λ m n v b. B (universal k) m n (view v) b) (Any (B (universal k))) s r s'
allocating_decodes B view D k h begins_so s r s' t x f =
    may_allocate_decodes true B view D MayAllocate (λ m n v b. B (universal k) m n (view v) b) (Any (B (universal k))) (universal k) (not_end k h)
    (λ m n v b y. y) (λ m n b y. y) (λ n m z a d. not_at_end (universal k) z (not_end k h) a (begins_so n m z d))
    (λ n z a w. not_at_end (universal k) z (not_end k h) a (begins w.bit (w.size ∷ w.after) w.joined)) (λ n z w. refl) s r s' (f, t) x
