-- An extensible CHOICE: a value of one of the known types, or an element with any other tag (X.680, 29 and 52).
use Rattle.std.proofs.Common.{◌≡◌, ◌∷◌, ◌++◌, [], ℕ, List, Bool, true, false, Option, None, inl, inr, refl, ap, subst}
use Rattle.yasna_base.specs.declared.models.tagged_der_value.TaggedDerValue.{TaggedDerValue}
use Rattle.yasna_base.specs.declared.mode.BERMode.{BERMode}
use Rattle.yasna_base.specs.declared.tag.Tag.{Tag}
use Rattle.yasna_base.specs.Beginnings.{BeginsBy, BeginsWithOne, share_none}
use Rattle.yasna_base.specs.Canonical.{Always}
use Rattle.yasna_base.specs.Choice.{EitherOf, AnyEither, SameEither, either_encoding, either_can, either_fits}
use Rattle.yasna_base.specs.Coding.{Any}
use Rattle.yasna_base.specs.Exact.{Fitting, IsExact, raw_fits}
use Rattle.yasna_base.specs.Grammar.{Grammar, Members, Encoding}
use Rattle.yasna_base.specs.Identifier.{BeginsWithTag, tag_or}
use Rattle.yasna_base.specs.Raw.{IsRaw, raw_encoding}
use Rattle.yasna_base.specs.TaggedDerValue.{raw_of}
use Rattle.yasna_base.proofs.Beginnings.{no_common_tag}
use Rattle.yasna_base.proofs.Choice.{AreUnambiguous, choice}
use Rattle.yasna_base.proofs.ChoiceWriting.{choice_exact}
use Rattle.yasna_base.proofs.Identifier.{begins_with}
use Rattle.yasna_base.proofs.SetWriting.{raw_begins}
use Rattle.yasna_notation.specs.declared.choices.Either.{Either}
use Rattle.yasna_notation.specs.Bounded.{Within, within_lawful}
use Rattle.yasna_notation.specs.Choices.{sides, either_non_empty}
use Rattle.yasna_notation.specs.Elements.{either_elements}
use Rattle.yasna_notation.specs.Laws.{any_laws, defined_type_laws, never_retagged, raw_non_empty}
use Rattle.yasna_notation.specs.Notation.{IsNotation, NotationKeepsLaws}

-- t is none of these tags
abbrev pub is_other : List Tag → Tag → Bool
is_other ts t = share_none (t ∷ []) ts

-- an element of any tag, as it came
abbrev pub EncodesRawElement : Grammar TaggedDerValue
EncodesRawElement m n v b = IsRaw m n (raw_of v) b

-- an element with another tag, as it came
abbrev pub EncodesOther : List Tag → Grammar TaggedDerValue
EncodesOther ts = Within (λ v. is_other ts v.tag) EncodesRawElement

abbrev pub same_any : TaggedDerValue → TaggedDerValue → Type 0
same_any v w = raw_of v ≡ raw_of w

abbrev pub any_encoding : Encoding TaggedDerValue
any_encoding m v = raw_encoding (raw_of v).tag m (raw_of v)

abbrev pub any_fits : Fitting TaggedDerValue
any_fits m n v = raw_fits m n (raw_of v)

pub any_lawful : NotationKeepsLaws false [] false same_any (λ u. EncodesRawElement) (λ u. Any IsRaw) (λ u m v. raw_encoding (tag_or u (raw_of v).tag) m (raw_of v))
    any_fits Always
any_lawful = record { own = any_laws; others = λ e. never_retagged e }

pub others_alike : (ts : List Tag) (v w : TaggedDerValue) → same_any v w → is_other ts v.tag ≡ is_other ts w.tag
others_alike ts v w e = ap (λ r. is_other ts r.tag) e

-- the law of a canonical mode, where each value can be written
always : {A : Type 0} {E : A → A → Type 0} {B : Grammar A} {encoding : Encoding A} {Fits : Fitting A} {Can : A → Type 0} → IsExact E B encoding Fits Can →
    IsExact E B encoding Fits Always
always x = record {
  in_bytes = x.in_bytes;
  holds = x.holds;
  only = x.only;
  can = λ m n v f. tt;
  same = λ m v w e. let y = x.same m v w e in (y.0, (λ c. tt), y.2);
}

-- the laws of elements with another tag
pub other_laws : (ts : List Tag) → IsNotation false [] same_any (EncodesOther ts) (Any (EncodesOther ts)) any_encoding
    (λ m n v. any_fits m n v × (is_other ts v.tag ≡ true)) Always
other_laws ts =
    let x = (within_lawful (λ v. is_other ts v.tag) (others_alike ts) any_lawful).own in
    record { coding = x.coding; begins = x.begins; single = x.single; exact = always x.exact }

-- an element begins with its tag
pub any_begins : (m : BERMode) (n : ℕ) (v : TaggedDerValue) (b : List ℕ) → EncodesRawElement m n v b → BeginsWithTag v.tag b
any_begins m n v b p = (raw_begins n m (raw_of v) b p).begins

-- longer bytes begin with the same tag
pub one_with : (ts : List Tag) (s r : List ℕ) → BeginsWithOne ts s → BeginsWithOne ts (s ++ r)
one_with [] s r x = x
one_with (t ∷ ts) s r (inl x) = inl (begins_with t s r x)
one_with (t ∷ ts) s r (inr x) = inr (one_with ts s r x)

-- what begins with one of the tags is no element with another
others_unambiguous : {ts : List Tag} {S : Members} → BeginsBy ts S → AreUnambiguous S (Any (EncodesOther ts))
others_unambiguous {ts} x m n k b c r s p q e =
    no_common_tag (q.0.tag ∷ []) ts (c ++ s) q.1.1 (inl (begins_with q.0.tag c s (any_begins m k q.0 c q.1.0)))
    (subst (BeginsWithOne ts) e (one_with ts b r (x.at m n b p)))

-- the laws of a CHOICE of known types and of elements with another tag
pub open_laws : {A : Type 0} {ts : List Tag} {E : A → A → Type 0} {B : Grammar A} {S : Members} {f : Encoding A} {P : Fitting A} {c : A → Type 0} →
    IsNotation true ts E B S f P c →
    IsNotation false [] (λ v w. SameEither E same_any (sides v) (sides w)) (λ m n v b. EitherOf B (EncodesOther ts) m n (sides v) b)
    (AnyEither S (Any (EncodesOther ts))) (λ m v. either_encoding f any_encoding m (sides v))
    (λ m n v. either_fits P (λ m n v. any_fits m n v × (is_other ts v.tag ≡ true)) m n (sides v)) (λ v. either_can c Always (sides v))
open_laws {ts = ts} x =
    let y = other_laws ts in
    defined_type_laws sides
    (record {
      coding = choice x.coding y.coding (others_unambiguous (x.begins refl));
      begins = λ e. absurd (cc);
      single = either_elements x.single y.single;
      exact = choice_exact x.exact y.exact;
    })

-- such a CHOICE has no tag of its own
pub open_lawful : {A : Type 0} {ts : List Tag} {E : A → A → Type 0} {B : Grammar A} {S : Members} (encoding : Option Tag → Encoding A) {P : Fitting A}
    {c : A → Type 0} → IsNotation true ts E B S (encoding None) P c →
    NotationKeepsLaws false [] false (λ v w. SameEither E same_any (sides v) (sides w)) (λ u m n v b. EitherOf B (EncodesOther ts) m n (sides v) b)
    (λ u. AnyEither S (Any (EncodesOther ts)))
    (λ u m v. either_encoding (encoding u) (λ m w. raw_encoding (tag_or u (raw_of w).tag) m (raw_of w)) m (sides v))
    (λ m n v. either_fits P (λ m n v. any_fits m n v × (is_other ts v.tag ≡ true)) m n (sides v)) (λ v. either_can c Always (sides v))
open_lawful encoding x = record { own = open_laws x; others = λ e. never_retagged e }

pub open_non_empty : {A : Type 0} (encoding : Option Tag → Encoding A) → ((u : Option Tag) (m : BERMode) (v : A) → encoding u m v ≡ [] → ⊥) → (u : Option Tag)
    (m : BERMode) (v : Either A TaggedDerValue) →
    either_encoding (encoding u) (λ m w. raw_encoding (tag_or u (raw_of w).tag) m (raw_of w)) m (sides v) ≡ [] → ⊥
open_non_empty encoding non_empty u m v =
    either_non_empty (encoding u) (λ m w. raw_encoding (tag_or u (raw_of w).tag) m (raw_of w)) m (non_empty u m)
    (λ w. raw_non_empty (tag_or u (raw_of w).tag) m (raw_of w)) v
