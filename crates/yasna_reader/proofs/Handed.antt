-- What a call returns that hands its reading to a callback which decodes.
use Rattle.std.proofs.Common.{◌≡◌, ℕ, ◌<◌, ◌-◌, List, length, Option, Some, None, Result, Ok, Err, Bool, refl, sym, ap, subst, ◌∙◌, length-append, length-drop, arith}
use Rattle.yasna_base.specs.declared.error.ASN1Error.{ASN1Error}
use Rattle.yasna_base.specs.declared.tag.Tag.{Tag}
use Rattle.yasna_base.specs.Error.{kind_of}
use Rattle.yasna_base.specs.Grammar.{Grammar, Members}
use Rattle.yasna_base.specs.Identifier.{AtEnd}
use Rattle.yasna_bytes.specs.Rejection.{BlamesBytes}
use Rattle.yasna_reader.specs.declared.callback.Outcome.{Outcome}
use Rattle.yasna_reader.specs.declared.callback.Outcome.TheVariants.{Matched, NoMatch, Failed}
use Rattle.yasna_reader.specs.ByTags.{AreElsewhere, NoMatchElsewhere}
use Rattle.yasna_reader.specs.Callback.{ErrorCause, sticky, before, own, Lent, returned_of, advanced_as}
use Rattle.yasna_reader.specs.Decodes.{Explains, StickyExplains, ParsedValue, Decodes}
use Rattle.yasna_reader.specs.Sequence.{place_in}
use Rattle.yasna_reader.specs.State.{Reading, IsFresh, failing}
use Rattle.yasna_reader.proofs.ByTags.{IsDecoderByTags}
use Rattle.yasna_reader.proofs.Sequences.{place_after}
use Rattle.yasna_reader.proofs.Tuples.{IsDecoder}
use Rattle.yasna_reader.proofs.ListTurns.{fresh_as}

module _ {A : Type 0} (may_allocate : Bool) (B : Grammar A) (S : Members) (s : Reading) (fresh : IsFresh s) where
  -- what is left behind a value that was taken
  pub left_after : (v : A) (m s' : Reading) (h : ParsedValue (B s.mode s.levels) s v m) → s' ≡ advanced_as s m → s' ≡ record s { left = h.rest }
  left_after v m s' h e =
      let place = ap (λ (z : Reading). place_in s.left z.left) h.left ∙ ap (λ z. place_in z h.rest) h.joined ∙ place_after h.prefix h.rest in
      e ∙ ap {A = List ℕ} {B = Reading} (λ z. record s { left = z; tag = None; failed = None }) place ∙ fresh_as s h.rest fresh

  unfailed : (v : A) (m : Reading) → ParsedValue (B s.mode s.levels) s v m → m.failed ≡ None
  unfailed v m h = ap (λ (z : Reading). z.failed) h.left ∙ fresh.0

  further : (v : A) (m : Reading) → ParsedValue (B s.mode s.levels) s v m → length s.left < length m.left → ⊥
  further v m h b = omega (arith, b, ap length h.joined, length-append h.prefix h.rest, ap (λ (z : Reading). length z.left) h.left)

  -- what a failure says that a callback left which decodes
  pub error_explains : (x : Result A ASN1Error) (m : Reading) → Decodes may_allocate B S s x m → (e : ASN1Error) → ErrorCause s.left x m e →
      Explains may_allocate (S s.mode s.levels) s.left e × (AtEnd s.left → ⊥)
  error_explains (Ok v) m d e (sticky k) = let u = unfailed v m d in absurd (cc)
  error_explains (Ok v) m d e (before k b f) = absurd (further v m d b)
  error_explains (Ok v) m d e (own k b f p) = absurd (cc)
  error_explains (Err y) m d e (sticky k) = (
    subst (λ z. StickyExplains may_allocate (S s.mode s.levels) s.left z) k d.0.failed,
    λ a. let u : m.failed ≡ None = ap (λ (z : Reading). z.failed) (d.1 a).0 ∙ fresh.0 in absurd (cc),
  )
  error_explains (Err y) m d e (before k b f) = absurd (omega (arith, b, d.0.further))
  error_explains (Err y) m d e (own k b f p) =
      let g : y ≡ e = cc in (
        subst (λ z. Explains may_allocate (S s.mode s.levels) s.left z) g d.0.explains,
        λ a. p (ap (λ (z : Reading). length z.left) (d.1 a).0) (subst (λ z. BlamesBytes (kind_of z)) g (d.1 a).1),
      )

  -- what is left by a failure
  failed_as : (m s' : Reading) (e : ASN1Error) → s' ≡ failing (advanced_as s m) e → s' ≡ record s { left = s'.left; failed = Some e }
  failed_as m s' e h =
      h ∙ ap {A = Option Tag} {B = Reading} (λ t. record s { left = place_in s.left m.left; tag = t; failed = Some e }) (sym fresh.1) ∙
      ap {A = List ℕ} {B = Reading} (λ l. record s { left = l; failed = Some e }) (sym (ap (λ (z : Reading). z.left) h))

-- a call that hands the reading on as it is, and returns what the callback came to, decodes as the callback does
pub lent_decodes : {A : Type 0} {may_allocate : Bool} {B : Grammar A} {S : Members} {N : Reading → Result A ASN1Error → Reading → Type 0} →
    IsDecoder may_allocate B S N →
    (s : Reading) → IsFresh s → (o : Outcome A) (s' : Reading) → Lent N s s o s' → Decodes may_allocate B S s (returned_of o) s'
lent_decodes {may_allocate} {B} {S} value s fresh (Matched v) s' h =
    let d = subst (λ x. Decodes may_allocate B S s x h.hands.left) h.hands.comes.2 (value.decodes s h.hands.own h.hands.left fresh h.hands.obeys) in
    record {
      prefix = d.prefix;
      rest = d.rest;
      joined = d.joined;
      member = d.member;
      left = left_after may_allocate B S s fresh v h.hands.left s' d (h.state ∙ h.hands.comes.3);
    }
lent_decodes {may_allocate} {B} {S} value s fresh (NoMatch e) s' h =
    let d = subst (λ x. Decodes may_allocate B S s x h.hands.left) h.hands.comes.3 (value.decodes s h.hands.own h.hands.left fresh h.hands.obeys) in
    subst (λ z. Decodes may_allocate B S s (Err e) z) (sym h.state) (
      record {
        explains = d.0.explains;
        failed = subst (λ k. StickyExplains may_allocate (S s.mode s.levels) s.left k) (sym fresh.0) tt;
        further = omega arith;
        same = refl;
      },
      λ i. (refl, h.hands.comes.2),
    )
lent_decodes {may_allocate} {B} {S} value s fresh (Failed e) s' h =
    let d = value.decodes s h.hands.own h.hands.left fresh h.hands.obeys in
    let t = error_explains may_allocate B S s fresh h.hands.own h.hands.left d e h.hands.comes.0 in
    let g = failed_as may_allocate B S s fresh h.hands.left s' e (h.state ∙ h.hands.comes.1) in
    let k = ap (λ (z : Reading). z.failed) g in
    let l = ap (λ (z : Reading). length z.left) (h.state ∙ h.hands.comes.1) in (
      record {
        explains = t.0;
        failed = subst (λ k. StickyExplains may_allocate (S s.mode s.levels) s.left k) (sym k) t.0;
        further = omega (arith, l, length-drop (length s.left - length h.hands.left.left) s.left);
        same = g ∙ ap {A = Option ASN1Error} {B = Reading} (λ k. record s { left = s'.left; failed = k }) (sym k);
      },
      λ i. absurd (t.1 i),
    )

-- a call that lends the reading has no match where its callback has none
pub lent_no_match : {A : Type 0} {ts : List Tag} {may_allocate : Bool} {B : Grammar A} {S : Members} {N : Reading → Result A ASN1Error → Reading → Type 0} →
    IsDecoderByTags ts may_allocate B S N → (s : Reading) → IsFresh s → (o : Outcome A) (s' : Reading) → Lent N s s o s' →
    NoMatchElsewhere ts s (returned_of o) s'
lent_no_match value s fresh (Matched v) s' h = tt
lent_no_match value s fresh (NoMatch e) s' h = λ a. (h.state, h.hands.comes.2)
lent_no_match {A} {ts} {may_allocate} {B} {S} value s fresh (Failed e) s' h =
    let d = value.decodes s h.hands.own h.hands.left fresh h.hands.obeys in
    λ a. absurd (none h.hands.own h.hands.left d.decodes d.no_match h.hands.comes.0 a)
  where
    none : (x : Result A ASN1Error) (m : Reading) → Decodes may_allocate B S s x m → NoMatchElsewhere ts s x m → ErrorCause s.left x m e →
        AreElsewhere ts s.left → ⊥
    none (Ok v) m d q (sticky k) a = let u = unfailed may_allocate B S s fresh v m d in absurd (cc)
    none (Ok v) m d q (before k b f) a = further may_allocate B S s fresh v m d b
    none (Ok v) m d q (own k b f p) a = absurd (cc)
    none (Err y) m d q (sticky k) a = let u : m.failed ≡ None = ap (λ (z : Reading). z.failed) (q a).0 ∙ fresh.0 in absurd (cc)
    none (Err y) m d q (before k b f) a = absurd (omega (arith, b, d.0.further))
    none (Err y) m d q (own k b f p) a =
        let g : y ≡ e = cc in
        p (ap (λ (z : Reading). length z.left) (q a).0) (subst (λ z. BlamesBytes (kind_of z)) g (q a).1)
