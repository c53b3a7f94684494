-- Reads under IMPLICIT tags (X.690, 8.14.3): a read that a tag waits for does what the read of a type with that tag does.
use Rattle.std.proofs.Common.{◌≡◌, ℕ, List, Option, Some, None, Result, Ok, Err, Bool, true, false, inl, inr, sym, ap, subst, ◌∙◌}
use Rattle.yasna_base.specs.declared.error.ASN1Error.{ASN1Error}
use Rattle.yasna_base.specs.declared.tag.Tag.{Tag}
use Rattle.yasna_base.specs.Grammar.{Grammar, Members, TaggedGrammar, TaggedMembers}
use Rattle.yasna_base.specs.Identifier.{tag_or}
use Rattle.yasna_reader.specs.declared.callback.Outcome.{Outcome}
use Rattle.yasna_reader.specs.declared.callback.Outcome.TheVariants.{Matched, NoMatch, Failed}
use Rattle.yasna_reader.specs.ByTags.{DecodesByTags}
use Rattle.yasna_reader.specs.Callback.{ErrorCause, sticky, before, own, ComesTo, Hands, Lent, returned_of}
use Rattle.yasna_reader.specs.Primitive.{ReadsSeen, ReadsTyped}
use Rattle.yasna_reader.specs.Sequence.{Left, EntersAt, ReadsParts}
use Rattle.yasna_reader.specs.State.{Reading, IsFresh, untagged, rejecting, tag_of, Does, UnlessFailed}
use Rattle.yasna_reader.specs.Tagged.{reading_under, ReadsImplicitly}
use Rattle.yasna_reader.proofs.ByTags.{IsDecoderByTags, plain_by}
use Rattle.yasna_reader.proofs.Handed.{lent_decodes, lent_no_match}

-- where t waits, P does what N does where no tag waits, and uses the tag up
pub record DoesUnder {A : Type 0} (t : Tag) (P N : Does A) : Type 0 where
  pub does : (s : Reading) (r : Result A ASN1Error) (m : Reading) → IsFresh s → P (record s { tag = Some t }) r m → N s r (untagged m)

-- what a reading is where the tag that waited is used up
stays : (s : Reading) → IsFresh s → untagged s ≡ s
stays s fresh = ap {A = Option Tag} {B = Reading} (λ t. record s { tag = t }) (sym fresh.1)

rejects_so : (t : Tag) (s : Reading) (e : ASN1Error) (m : Reading) (consumed : Bool) → IsFresh s → m ≡ rejecting consumed (record s { tag = Some t }) e →
    untagged m ≡ rejecting consumed s e
rejects_so t s e m true fresh h = ap untagged h
rejects_so t s e m false fresh h = ap untagged h ∙ stays s fresh

-- what is read from what equals a fresh reading with its own tag
module _ {V A : Type 0} (B : TaggedGrammar A) (view : V → A) (D : TaggedMembers) (M : ℕ → Tag → List ℕ → Type 0) (own t : Tag) where
  seen_so : (s : Reading) (r : Result V ASN1Error) (m : Reading) → IsFresh s →
      ReadsTyped B view D M t (record s { tag = Some t }) r m → ReadsTyped B view D M t s r (untagged m)
  seen_so s (Ok v) m fresh h = record { prefix = h.prefix; rest = h.rest; joined = h.joined; member = h.member; left = ap untagged h.left }
  seen_so s (Err e) m fresh h =
      record { rejection = h.rejection; kind = h.kind; rejects = h.rejects; state = rejects_so t s e m h.rejection.consumed fresh h.state }

  -- a typed read
  pub seen_under : DoesUnder t (ReadsSeen B view D M own) (ReadsSeen B view D M t)
  seen_under = record {
    does = λ s r m fresh h.
        let under = record s { tag = Some t } in
        record {
          reads = subst (λ k. UnlessFailed k s r (untagged m) (ReadsTyped B view D M (tag_of s t) s r (untagged m))) (sym fresh.0)
              (subst (λ (o : Option Tag). ReadsTyped B view D M (tag_or o t) s r (untagged m)) (sym fresh.1)
              (seen_so s r m fresh (subst (λ k. UnlessFailed k under r m (ReadsTyped B view D M t under r m)) fresh.0 h.reads)));
        };
  }

module _ {A : Type 0} (P : Does A) (own t : Tag) where
  left_so : (s : Reading) (end : _) (c y : List ℕ) (k : Option ASN1Error) (x r : Result A ASN1Error) (m : Reading) →
      Left end c k y x (untagged s) r m → Left end c k y x (untagged s) r (untagged m)
  left_so s end c y (Some e) x r m h = record { returned = h.returned; state = ap untagged h.state }
  left_so s end c y None (Err e) r m h = record { returned = h.returned; state = ap untagged h.state }
  left_so s end c y None (Ok v) r m (inl h) =
      inl (record { rest = h.rest; forward = h.forward; ends = h.ends; returned = h.returned; state = ap untagged h.state })
  left_so s end c y None (Ok v) r m (inr h) =
      inr (record { error = h.error; blames_bytes = h.blames_bytes; no_end = h.no_end; fails = record { returned = h.fails.returned; state = ap untagged h.fails.state } })

  entered_so : (s : Reading) (r : Result A ASN1Error) (m : Reading) → IsFresh s → EntersAt P t (record s { tag = Some t }) r m →
      EntersAt P t s r (untagged m)
  entered_so s r m fresh (inl x) = inl (record {
    level = x.level;
    contents = x.contents;
    end = x.end;
    opens = x.opens;
    own = x.own;
    left = x.left;
    obeys = x.obeys;
    closed = left_so s x.end x.contents x.left.left x.left.failed x.own r m x.closed;
  })
  entered_so s r m fresh (inr x) = inr (record {
    rejection = x.rejection;
    rejects = x.rejects;
    returned = x.returned;
    state = rejects_so t s _ m x.rejection.consumed fresh x.state;
  })

  -- a read of an element with parts
  pub parts_under : DoesUnder t (ReadsParts P own) (ReadsParts P t)
  parts_under = record {
    does = λ s r m fresh h. record {
      enters = subst (λ k. UnlessFailed k s r (untagged m) (EntersAt P (tag_of s t) s r (untagged m))) (sym fresh.0)
          (subst (λ (o : Option Tag). EntersAt P (tag_or o t) s r (untagged m)) (sym fresh.1)
          (entered_so s r m fresh (subst (λ k. UnlessFailed k (record s { tag = Some t }) r m (EntersAt P t (record s { tag = Some t }) r m)) fresh.0 h.enters)));
    };
  }

-- a tag around another: the outer one is in place of both
module _ {A : Type 0} (P : Does A) (own t : Tag) where
  lent_so : (s : Reading) (o : Outcome A) (m : Reading) → IsFresh s → Lent P (record s { tag = Some t }) (record s { tag = Some t }) o m →
      Lent P (record s { tag = Some t }) s o (untagged m)
  lent_so s (Matched v) m fresh h = record { between = untagged h.between; hands = given s v h.between h.hands; state = ap untagged h.state }
    where
      given : (s : Reading) (v : A) (b : Reading) → Hands P (record s { tag = Some t }) (Matched v) b →
          Hands P (record s { tag = Some t }) (Matched v) (untagged b)
      given s v b x = record { own = x.own; left = x.left; obeys = x.obeys; comes = (x.comes.0, x.comes.1, x.comes.2, ap untagged x.comes.3) }
  lent_so s (NoMatch e) m fresh h = record { between = h.between; hands = h.hands; state = ap untagged h.state ∙ stays s fresh }
  lent_so s (Failed e) m fresh h = record { between = untagged h.between; hands = failed s e h.between h.hands; state = ap untagged h.state }
    where
      failed : (s : Reading) (e : ASN1Error) (b : Reading) → Hands P (record s { tag = Some t }) (Failed e) b →
          Hands P (record s { tag = Some t }) (Failed e) (untagged b)
      failed s e b x = record { own = x.own; left = x.left; obeys = x.obeys; comes = (x.comes.0, ap untagged x.comes.1) }

  implicitly_so : (s : Reading) (r : Result A ASN1Error) (m : Reading) → IsFresh s →
      (o : Outcome A) × Lent P (record s { tag = Some t }) (record s { tag = Some t }) o m × (r ≡ returned_of o) →
      (o : Outcome A) × Lent P (record s { tag = Some t }) s o (untagged m) × (r ≡ returned_of o)
  implicitly_so s r m fresh h = (h.0, lent_so s h.0 m fresh h.1, h.2)

  pub implicit_under : DoesUnder t (ReadsImplicitly P own) (ReadsImplicitly P t)
  implicit_under = record {
    does = λ s r m fresh h.
        let x = subst
        (λ k. UnlessFailed k (record s { tag = Some t }) r m ((o : Outcome A) × Lent P (record s { tag = Some t })
        (record s { tag = Some t }) o m × (r ≡ returned_of o)))
        fresh.0 h in
        subst (λ k. UnlessFailed k s r (untagged m) ((o : Outcome A) × Lent P (reading_under t s) s o (untagged m) × (r ≡ returned_of o))) (sym fresh.0)
        (subst (λ (u : Option Tag). (o : Outcome A) × Lent P (record s { tag = Some (tag_or u t) }) s o (untagged m) × (r ≡ returned_of o))
        (sym fresh.1)
        (implicitly_so s r m fresh x));
  }

module _ {A : Type 0} {t : Tag} {P N : Does A} (under : DoesUnder t P N) where
  causes_so : (c : List ℕ) (x : Result A ASN1Error) (m : Reading) (e : ASN1Error) → ErrorCause c x m e → ErrorCause c x (untagged m) e
  causes_so c x m e (sticky k) = sticky k
  causes_so c x m e (before k b f) = before k b f
  causes_so c x m e (own k b f p) = own k b f p

  comes_so : (s : Reading) (x : Result A ASN1Error) (m : Reading) (o : Outcome A) (b : Reading) → ComesTo (record s { tag = Some t }) x m o b →
      ComesTo s x (untagged m) o b
  comes_so s x m (Matched v) b h = h
  comes_so s x m (NoMatch e) b h = h
  comes_so s x m (Failed e) b h = (causes_so s.left x m e h.0, h.1)

  -- what a callback does that is lent the reading under the tag
  pub lent_under : (s : Reading) → IsFresh s → (o : Outcome A) (s' : Reading) → Lent P (record s { tag = Some t }) s o s' → Lent N s s o s'
  lent_under s fresh o s' h = record {
    between = h.between;
    hands = record {
      own = h.hands.own;
      left = untagged h.hands.left;
      obeys = under.does s h.hands.own h.hands.left fresh h.hands.obeys;
      comes = comes_so s h.hands.own h.hands.left o h.between h.hands.comes;
    };
    state = h.state;
  }

  implicitly : (s : Reading) → IsFresh s → (r : Result A ASN1Error) (s' : Reading) → ReadsImplicitly P t s r s' →
      (o : Outcome A) × Lent N s s o s' × (r ≡ returned_of o)
  implicitly s fresh r s' h =
      let x = subst (λ (u : Option Tag). (o : Outcome A) × Lent P (record s { tag = Some (tag_or u t) }) s o s' × (r ≡ returned_of o)) fresh.1
      (subst (λ k. UnlessFailed k s r s' ((o : Outcome A) × Lent P (reading_under t s) s o s' × (r ≡ returned_of o))) fresh.0 h) in
      (x.0, lent_under s fresh x.0 s' x.1, x.2)

  -- a read under an IMPLICIT tag decodes as the read does of a type with that tag
  pub implicit_by_tag : {ts : List Tag} {may_allocate : Bool} {B : Grammar A} {S : Members} → IsDecoderByTags ts may_allocate B S N →
      IsDecoderByTags ts may_allocate B S (ReadsImplicitly P t)
  implicit_by_tag {ts} {may_allocate} {B} {S} value = record {
    decodes = λ s r s' fresh h.
        let x = implicitly s fresh r s' h in
        subst (λ z. DecodesByTags ts may_allocate B S s z s') (sym x.2)
        (record { decodes = lent_decodes (plain_by value) s fresh x.0 s' x.1; no_match = lent_no_match value s fresh x.0 s' x.1 });
  }

-- what does as P says does under the tag what P does
pub does_as : {A : Type 0} {t : Tag} {P R N : Does A} → ((s : Reading) (r : Result A ASN1Error) (s' : Reading) → R s r s' → P s r s') → DoesUnder t P N →
    DoesUnder t R N
does_as {t} obeys under = record { does = λ s r m fresh h. under.does s r m fresh (obeys (record s { tag = Some t }) r m h) }
