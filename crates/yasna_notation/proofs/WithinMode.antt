-- What reading a type does of which a mode accepts only some values.
use Rattle.std.proofs.Common.{◌≡◌, ◌∷◌, ◌++◌, [], ℕ, List, Bool, true, false, Option, Some, None, Result, Ok, Err, inl, inr, refl, sym, ap, subst, ◌∙◌, length, length-append, arith}
use Rattle.yasna_base.specs.declared.error.ASN1Error.{ASN1Error}
use Rattle.yasna_base.specs.declared.error.ASN1ErrorKind.TheVariants.{Invalid}
use Rattle.yasna_base.specs.declared.mode.BERMode.{BERMode}
use Rattle.yasna_base.specs.declared.tag.Tag.{Tag}
use Rattle.yasna_base.specs.Beginnings.{BeginsBy, BeginsWithOne}
use Rattle.yasna_base.specs.Coding.{IsCoding, Any}
use Rattle.yasna_base.specs.Error.{error_of}
use Rattle.yasna_base.specs.Grammar.{Grammar, Members}
use Rattle.yasna_base.specs.Identifier.{AnyTag}
use Rattle.yasna_base.proofs.Identifier.{begins_with}
use Rattle.yasna_base.proofs.Optional.{unambiguous_before_nothing}
use Rattle.yasna_bytes.proofs.Rejection.{begins_not_elsewhere}
use Rattle.yasna_reader.specs.ByTags.{AreElsewhere}
use Rattle.yasna_reader.specs.Decodes.{Explains, StickyExplains, ParsedValue}
use Rattle.yasna_reader.specs.State.{Reading, IsFresh, untagged}
use Rattle.yasna_notation.specs.Notation.{DecodesAs, ReadsAs}
use Rattle.yasna_notation.specs.WithinMode.{WithinMode}

-- bytes that begin with one of some tags don't begin with another
not_elsewhere : (ts : List Tag) (b r : List ℕ) → BeginsWithOne ts b → AreElsewhere ts (b ++ r) → ⊥
not_elsewhere [] b r x a = x
not_elsewhere (t ∷ ts) b r (inl x) a = begins_not_elsewhere (begins_with t b r x) a.0
not_elsewhere (t ∷ ts) b r (inr x) a = not_elsewhere ts b r x a.1

-- the laws that reading needs: those of reading, and of the tags
pub record ReadingLaws {A : Type 0} (tags_known : Bool) (ts : List Tag) (E : A → A → Type 0) (B : Grammar A) (S : Members) : Type 0 where
  pub coding : IsCoding E B S
  pub begins : tags_known ≡ true → BeginsBy ts S

-- what is read is seen as a value of the grammar
module _ {U A : Type 0} (view : U → A) {E : A → A → Type 0} {B : Grammar A} {S : Members} (passes : BERMode → A → Bool)
    (alike : (m : BERMode) (v w : A) → E v w → passes m v ≡ passes m w) (tags_known : Bool) (ts : List Tag) (may_allocate : Bool)
    (x : ReadingLaws tags_known ts E B S) (s : Reading) where
  abbrev Read : Result U ASN1Error → Reading → Type 0
  Read r s' = DecodesAs tags_known ts may_allocate (λ m n v b. B m n (view v) b) S s r s'

  abbrev ReadWithin : Result U ASN1Error → Reading → Type 0
  ReadWithin r s' = DecodesAs tags_known ts may_allocate (λ m n v b. WithinMode passes B m n (view v) b) (Any (WithinMode passes B)) s r s'

  explains_within : (l : List ℕ) (e : ASN1Error) → Explains may_allocate (S s.mode s.levels) l e → Explains may_allocate (Any (WithinMode passes B) s.mode s.levels) l e
  explains_within l e h = record {
    none = λ q b r i k. h.none q b r i (x.coding.meaning.among s.mode s.levels k.0 b k.1.0);
    memory = h.memory;
  }

  sticky_within : (l : List ℕ) (k : Option ASN1Error) → StickyExplains may_allocate (S s.mode s.levels) l k →
      StickyExplains may_allocate (Any (WithinMode passes B) s.mode s.levels) l k
  sticky_within l None h = tt
  sticky_within l (Some e) h = explains_within l e h

  -- a value that passes
  passes_decodes : (v : U) (s' : Reading) → passes s.mode (view v) ≡ true → Read (Ok v) s' → ReadWithin (Ok v) s'
  passes_decodes v s' is h =
      let k = h.decodes in
      record { decodes = record { prefix = k.prefix; rest = k.rest; joined = k.joined; member = (k.member, is); left = k.left }; no_match = λ _. tt }

  -- none
  none_decodes : (e : ASN1Error) (s' : Reading) → Read (Err e) s' → ReadWithin (Err e) s'
  none_decodes e s' h =
      let k = h.decodes.0 in
      record {
        decodes = (
          record { explains = explains_within s.left e k.explains; failed = sticky_within s.left s'.failed k.failed; further = k.further; same = k.same },
          h.decodes.1,
        );
        no_match = h.no_match;
      }

  -- one that doesn't: no value that does has a prefix there
  fails_decodes : (v : U) (s' : Reading) → IsFresh s → passes s.mode (view v) ≡ false → Read (Ok v) s' → ReadWithin (Err (error_of Invalid)) s'
  fails_decodes v s' fresh is h = record {
    decodes = (
      record {
        explains = record { none = λ q b r i j. other b r i j.0 j.1.0 j.1.1; memory = λ q. absurd (cc) };
        failed = subst (λ z. StickyExplains may_allocate (Any (WithinMode passes B) s.mode s.levels) s.left z) (sym unfailed) tt;
        further = omega (arith, ap length k.joined, length-append k.prefix k.rest, ap (λ (z : Reading). length z.left) k.left);
        same = k.left ∙ sym (ap {A = Reading} {B = Reading} (λ z. record s { left = z.left; failed = z.failed }) k.left);
      },
      λ a. absurd (unambiguous_before_nothing x.coding s.mode s.levels s.levels k.prefix [] k.rest s.left a here refl (sym k.joined)),
    );
    no_match = λ t a. absurd
        (not_elsewhere ts k.prefix k.rest ((x.begins t).at s.mode s.levels k.prefix here) (subst (AreElsewhere ts) k.joined a));
  }
    where
      k : ParsedValue (λ w b. B s.mode s.levels (view w) b) s v s'
      k = h.decodes

      unfailed : s'.failed ≡ None
      unfailed = ap (λ (z : Reading). z.failed) k.left ∙ fresh.0

      here : S s.mode s.levels k.prefix
      here = x.coding.meaning.among s.mode s.levels (view v) k.prefix k.member

      other : (b r : List ℕ) → s.left ≡ b ++ r → (w : A) → B s.mode s.levels w b → passes s.mode w ≡ true → ⊥
      other b r i w p q =
          let one = x.coding.prefix_free s.mode s.levels s.levels k.prefix b k.rest r here (x.coding.meaning.among s.mode s.levels w b p) (sym k.joined ∙ i) in
          let equal = x.coding.meaning.exact s.mode s.levels s.levels (view v) w b (subst (λ z. B s.mode s.levels (view v) z) one k.member) p in
          absurd (let e = alike s.mode (view v) w equal in cc)

module _ {U A : Type 0} (view : U → A) {E : A → A → Type 0} (B : Option Tag → Grammar A) (S : Option Tag → Members) (passes : BERMode → A → Bool)
    (alike : (m : BERMode) (v w : A) → E v w → passes m v ≡ passes m w) (tags_known : Bool) (ts : List Tag) (retagged may_allocate : Bool)
    (x : ReadingLaws tags_known ts E (B None) (S None)) (y : retagged ≡ true → AnyTag (λ t. ReadingLaws true (t ∷ []) E (B (Some t)) (S (Some t))))
    (s : Reading) where
  abbrev pub ReadsAll : Result U ASN1Error → Reading → Type 0
  ReadsAll r s' = ReadsAs tags_known ts retagged may_allocate (λ u m n v b. B u m n (view v) b) S s r s'

  abbrev pub ReadsWithin : Result U ASN1Error → Reading → Type 0
  ReadsWithin r s' = ReadsAs tags_known ts retagged may_allocate (λ u m n v b. WithinMode passes (B u) m n (view v) b)
      (λ u. Any (WithinMode passes (B u))) s r s'

  -- a value that passes
  pub mode_within : (v : U) (s' : Reading) → passes s.mode (view v) ≡ true → ReadsAll (Ok v) s' → ReadsWithin (Ok v) s'
  mode_within v s' is h = record {
    fresh = λ fresh. passes_decodes view passes alike tags_known ts may_allocate x s v s' is (h.fresh fresh);
    replaced = λ may t not range failed waits.
        passes_decodes view passes alike true (t ∷ []) may_allocate (y may t not range) (untagged s) v (untagged s') is (h.replaced may t not range failed waits);
    repeats = λ e failed. absurd (let z = (h.repeats e failed).0 in cc);
  }

  -- one that doesn't
  pub mode_outside : (v : U) (s' : Reading) → passes s.mode (view v) ≡ false → ReadsAll (Ok v) s' → ReadsWithin (Err (error_of Invalid)) s'
  mode_outside v s' is h = record {
    fresh = λ fresh. fails_decodes view passes alike tags_known ts may_allocate x s v s' fresh is (h.fresh fresh);
    replaced = λ may t not range failed waits.
        fails_decodes view passes alike true (t ∷ []) may_allocate (y may t not range) (untagged s) v (untagged s') (failed, refl) is
        (h.replaced may t not range failed waits);
    repeats = λ e failed. absurd (let z = (h.repeats e failed).0 in cc);
  }

  -- none
  pub mode_none : (e : ASN1Error) (s' : Reading) → ReadsAll (Err e) s' → ReadsWithin (Err e) s'
  mode_none e s' h = record {
    fresh = λ fresh. none_decodes view passes alike tags_known ts may_allocate x s e s' (h.fresh fresh);
    replaced = λ may t not range failed waits.
        none_decodes view passes alike true (t ∷ []) may_allocate (y may t not range) (untagged s) e (untagged s') (h.replaced may t not range failed waits);
    repeats = h.repeats;
  }
