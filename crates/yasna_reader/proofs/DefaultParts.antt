-- What reading a part does that is a default where it is omitted (X.690, 8.9.3 and 11.5), and its laws of reading.
--
-- In DER and CER bytes that encode the default are no encoding of the part, so the bytes alone are those of some value of it.
use Rattle.std.proofs.Common.{◌≡◌, ℕ, List, ◌∷◌, ◌++◌, Option, Some, None, Result, Ok, Bool, true, false, inl, inr, refl, sym, ap, subst, ◌∙◌, append_assoc}
use Rattle.std.specs.Prelude.{◌⊎◌, length, nat_lt}
use Rattle.yasna_base.specs.declared.error.ASN1Error.{ASN1Error}
use Rattle.yasna_base.specs.declared.error.ASN1ErrorKind.TheVariants.{Invalid}
use Rattle.yasna_base.specs.declared.mode.BERMode.{BERMode}
use Rattle.yasna_base.specs.declared.tag.Tag.{Tag}
use Rattle.yasna_base.specs.Beginnings.{share_none, CodingByTags, ContentsByTags}
use Rattle.yasna_base.specs.Coding.{IsCoding, IsContentsCoding, Any}
use Rattle.yasna_base.specs.Default.{TakesDefault, DetectsDefault, DefaultOf}
use Rattle.yasna_base.specs.Error.{error_of}
use Rattle.yasna_base.specs.Grammar.{Grammar, Members}
use Rattle.yasna_base.specs.Identifier.{end_tag, AtEnd}
use Rattle.yasna_base.specs.Optional.{OptionOf, AnyOption}
use Rattle.yasna_base.specs.Sequence.{PartOf, AnyPart, SamePart}
use Rattle.yasna_base.proofs.Beginnings.{default_with_tags}
use Rattle.yasna_base.proofs.Default.{default_alike, default_before}
use Rattle.yasna_base.proofs.Optional.{IsUnambiguousBefore, some_not_empty}
use Rattle.yasna_reader.specs.declared.callback.Outcome.{Outcome}
use Rattle.yasna_reader.specs.declared.callback.Outcome.TheVariants.{Matched, NoMatch, Failed}
use Rattle.yasna_reader.specs.Callback.{Hands}
use Rattle.yasna_reader.specs.Decodes.{NotContents}
use Rattle.yasna_reader.specs.Optional.{optional, ReadsOptional, taken, equal, DefaultsTo, ReadsOrDefaults, ReadsDefault}
use Rattle.yasna_reader.specs.State.{Reading, IsFresh, untagged, failing_if, Does, UnlessFailed}
use Rattle.yasna_reader.proofs.OptionalParts.{first_error, ParsedFirst, DecodesFirst, IsFirstDecoder, NoMatchBefore, option_by}
use Rattle.yasna_reader.proofs.Sequences.{replaced}
use Rattle.yasna_reader.proofs.Tuples.{IsDecoder}

-- the laws of contents hold of fewer bytes, among which are the encodings
pub narrower_contents : {A : Type 0} {E : A → A → Type 0} {C : Grammar A} {S Q : Members} →
    ((m : BERMode) (n : ℕ) (b : List ℕ) → Q m n b → S m n b) → ((m : BERMode) (n : ℕ) (v : A) (b : List ℕ) → C m n v b → Q m n b) →
    IsContentsCoding E C S → IsContentsCoding E C Q
narrower_contents less among x = record {
  meaning = record { equal = x.meaning.equal; among = among; exact = x.meaning.exact; deeper = x.meaning.deeper };
  ends = λ m n k b c r s i j p q. x.ends m n k b c r s i j (less m n b p) (less m k c q);
}

-- what encodes some value of such a part is an encoding of a value, or nothing
pub some_default : {A : Type 0} {E : A → A → Type 0} {B : Grammar A} {S : Members} (is : A → Bool) → IsCoding E B S →
    (m : BERMode) (n : ℕ) (b : List ℕ) → Any (DefaultOf is B) m n b → AnyOption S m n b
some_default is x m n b (v, inl p) = inl (x.meaning.among m n v b p.0)
some_default is x m n b (v, inr p) = inr p.0

-- as `some_default`, with contents after the part
pub less : {A : Type 0} {E : A → A → Type 0} {B : Grammar A} {S : Members} (Q : Members) (is : A → Bool) → IsCoding E B S →
    (m : BERMode) (n : ℕ) (b : List ℕ) → AnyPart (Any (DefaultOf is B)) Q m n b → AnyPart (AnyOption S) Q m n b
less Q is x m n b p = record { prefix = p.prefix; rest = p.rest; joined = p.joined; here = some_default is x m n p.prefix p.here; more = p.more }

among : {A V : Type 0} {F : V → V → Type 0} (B : Grammar A) {C : Grammar V} {Q : Members} (is : A → Bool) → IsContentsCoding F C Q →
    (m : BERMode) (n : ℕ) (v : A × V) (b : List ℕ) → PartOf (DefaultOf is B) C m n v b → AnyPart (Any (DefaultOf is B)) Q m n b
among B is y m n v b p =
    record { prefix = p.prefix; rest = p.rest; joined = p.joined; here = (v.0, p.here); more = y.meaning.among m n v.1 p.rest p.more }

module _ {A V : Type 0} {E : A → A → Type 0} {F : V → V → Type 0} {B : Grammar A} {C : Grammar V} {S Q : Members} (is : A → Bool) (d : A)
    (explains : DetectsDefault E is d) where
  -- a part with a default, and contents after it that never begin as it does, satisfy the laws of contents by what is read of them
  pub default_part_before : IsCoding E B S → IsUnambiguousBefore S Q → IsContentsCoding F C Q →
      IsContentsCoding (SamePart E F) (PartOf (DefaultOf is B) C) (AnyPart (Any (DefaultOf is B)) Q)
  default_part_before x unambiguous y = narrower_contents (less Q is x) (among B is y) (default_before is d explains x unambiguous y)

  -- a part with a default satisfies the laws of contents where none of its tags is after it
  pub default_part_with_tags : {ts us : List Tag} → CodingByTags ts E B S → ContentsByTags us F C Q → share_none ts (end_tag ∷ us) ≡ true →
      ContentsByTags (ts ++ us) (SamePart E F) (PartOf (DefaultOf is B) C) (AnyPart (Any (DefaultOf is B)) Q)
  default_part_with_tags x y none =
      let z = default_with_tags is d explains x y none in
      record {
        coding = narrower_contents (less Q is x.coding) (among B is y.coding) z.coding;
        begins = record { at = λ m n c s i p. z.begins.at m n c s i (less Q is x.coding m n c p) };
      }

not_both : (b : Bool) → b ≡ true → b ≡ false → ⊥
not_both b e f = absurd (cc)

-- a part with a default, where what follows never begins as it does
module _ {A : Type 0} {E : A → A → Type 0} {B : Grammar A} {S : Members} (laws : IsCoding E B S) (may_allocate : Bool) (Q : Members)
    (is : A → Bool) (eq : A → A → Bool) (d : A) (explains : DetectsDefault E is d) (tests : (v : A) →
    is v ≡ eq v d) (s : Reading) (fresh : IsFresh s) where
  some_first : (v : A) (z : Reading) → ParsedFirst (OptionOf B s.mode s.levels) (AnyOption S s.mode s.levels) (Q s.mode s.levels) s (Some v) z →
      TakesDefault s.mode ⊎ (is v ≡ false) → DecodesFirst may_allocate (DefaultOf is B) (Any (DefaultOf is B)) Q s (Ok v) z
  some_first v z h may = record {
    parsed = record { prefix = h.parsed.prefix; rest = h.parsed.rest; joined = h.parsed.joined; member = inl (h.parsed.member, may); left = h.parsed.left };
    once = λ prefix rest x e i f g. h.once prefix rest x e i (some_default is laws s.mode s.levels prefix f) g;
  }

  none_first : (z : Reading) → ParsedFirst (OptionOf B s.mode s.levels) (AnyOption S s.mode s.levels) (Q s.mode s.levels) s None z →
      DecodesFirst may_allocate (DefaultOf is B) (Any (DefaultOf is B)) Q s (Ok d) z
  none_first z h = record {
    parsed = record {
      prefix = h.parsed.prefix;
      rest = h.parsed.rest;
      joined = h.parsed.joined;
      member = inr (h.parsed.member, (explains d).1 (laws.meaning.equal.reflexive d));
      left = h.parsed.left;
    };
    once = λ prefix rest x e i f g. h.once prefix rest x e i (some_default is laws s.mode s.levels prefix f) g;
  }

  fails_first : (e : ASN1Error) → NotContents may_allocate (AnyPart (AnyOption S) Q s.mode s.levels) s e →
      NotContents may_allocate (AnyPart (Any (DefaultOf is B)) Q s.mode s.levels) s e
  fails_first e h = record {
    none = λ o c x f i j. h.none o c x f i
        (record { prefix = j.prefix; rest = j.rest; joined = j.joined; here = some_default is laws s.mode s.levels j.prefix j.here; more = j.more });
    memory = h.memory;
  }

  -- where the default itself is and is rejected, no value of the part is
  rejected_first : (v : A) (z : Reading) → ParsedFirst (OptionOf B s.mode s.levels) (AnyOption S s.mode s.levels) (Q s.mode s.levels) s (Some v) z →
      (TakesDefault s.mode → ⊥) → is v ≡ true → NotContents may_allocate (AnyPart (Any (DefaultOf is B)) Q s.mode s.levels) s (error_of Invalid)
  rejected_first v z h rejects default = record { none = λ o c x f i j. none c x f i j.prefix j.rest j.joined j.here j.more; memory = λ o. absurd (cc) }
    where
      other : (prefix : List ℕ) → h.parsed.prefix ≡ prefix → Any (DefaultOf is B) s.mode s.levels prefix → ⊥
      other prefix same (w, inl p) =
          let equal = laws.meaning.exact s.mode s.levels s.levels v w prefix (subst (λ b. B s.mode s.levels v b) same h.parsed.member) p.0 in
          let also : is w ≡ true = sym (default_alike is d explains laws.meaning.equal v w equal) ∙ default in
          elim p.1 [
            | inl may ↦ rejects may
            | inr not ↦ not_both (is w) also not
          ]
      other prefix same (w, inr p) = some_not_empty laws s.mode s.levels v h.parsed.prefix h.parsed.member (same ∙ p.0)

      none : (c x : List ℕ) → s.left ≡ c ++ x → AtEnd x → (prefix rest : List ℕ) → c ≡ prefix ++ rest → Any (DefaultOf is B) s.mode s.levels prefix →
          Q s.mode s.levels rest → ⊥
      none c x f i prefix rest j here more =
          other prefix (h.once prefix rest x (f ∙ ap (λ z. z ++ x) j ∙ append_assoc prefix rest x) i (some_default is laws s.mode s.levels prefix here) more) here

  unfailed : (v : Option A) (z : Reading) → ParsedFirst (OptionOf B s.mode s.levels) (AnyOption S s.mode s.levels) (Q s.mode s.levels) s v z →
      z.failed ≡ None
  unfailed v z h = ap (λ (z : Reading). z.failed) h.parsed.left ∙ fresh.0

  first_as : (consumed : Bool) (z : Reading) (e : ASN1Error) → z.failed ≡ None → first_error (failing_if consumed z e).failed e ≡ e
  first_as true z e h = refl
  first_as false z e h = ap (λ k. first_error k e) h

  by_outcome : (o : Outcome A) (z : Reading) → DecodesFirst may_allocate (OptionOf B) (AnyOption S) Q s (optional o) z →
      (r : Result A ASN1Error) (s' : Reading) →
      DefaultsTo eq d (length s.left) o z r s' → DecodesFirst may_allocate (DefaultOf is B) (Any (DefaultOf is B)) Q s r s'
  by_outcome (Matched v) z h r s' (taken may returned state) =
      let mode = ap (λ (z : Reading). z.mode) h.parsed.left in
      replaced (DecodesFirst may_allocate (DefaultOf is B) (Any (DefaultOf is B)) Q s) returned state
      (some_first v z h (elim may [ inl takes ↦ inl (subst TakesDefault mode takes) | inr other ↦ inr (tests v ∙ other) ]))
  by_outcome (Matched v) z h r s' (equal not same returned state) =
      let mode = ap (λ (z : Reading). z.mode) h.parsed.left in
      let N = rejected_first v z h (λ may. not (subst TakesDefault (sym mode) may)) (tests v ∙ same) in
      replaced (DecodesFirst may_allocate (DefaultOf is B) (Any (DefaultOf is B)) Q s) returned state
      (subst (NotContents may_allocate (AnyPart (Any (DefaultOf is B)) Q s.mode s.levels) s)
      (sym (first_as (nat_lt (length z.left) (length s.left)) z (error_of Invalid) (unfailed (Some v) z h))) N)
  by_outcome (NoMatch e) z h r s' x = replaced (DecodesFirst may_allocate (DefaultOf is B) (Any (DefaultOf is B)) Q s) x.0 x.1 (none_first z h)
  by_outcome (Failed e) z h r s' x =
      replaced (DecodesFirst may_allocate (DefaultOf is B) (Any (DefaultOf is B)) Q s) x.0 x.1 (fails_first (first_error z.failed e) h)

  default_first : {N : Does A} → IsFirstDecoder may_allocate (OptionOf B) (AnyOption S) Q (ReadsOptional N) → (r : Result A ASN1Error) (s' : Reading) →
      ReadsDefault N eq d s r s' → DecodesFirst may_allocate (DefaultOf is B) (Any (DefaultOf is B)) Q s r s'
  default_first {N} option r s' h =
      let same : untagged s ≡ s = ap {A = Option Tag} {B = Reading} (λ t. record s { tag = t }) (sym fresh.1) in
      let x = subst (λ z. ReadsOrDefaults N eq d z r s') same (subst (λ k. UnlessFailed k s r s' (ReadsOrDefaults N eq d (untagged s) r s')) fresh.0 h) in
      let y = subst (λ k. UnlessFailed k s (optional x.outcome) x.between ((o : Outcome A) × Hands N (untagged s) o x.between
      × (optional x.outcome ≡ optional o)))
      (sym fresh.0) (x.outcome, subst (λ z. Hands N z x.outcome x.between) (sym same) x.hands, refl) in
      by_outcome x.outcome x.between (option.decodes s (optional x.outcome) x.between fresh y) r s' x.defaults

-- a part with the default d, where is tells it as eq does, by which values are compared
pub default_by : {A : Type 0} {E : A → A → Type 0} {may_allocate : Bool} {B : Grammar A} {S Q : Members} {N : Does A} (is : A → Bool) (eq : A → A →
    Bool) (d : A) →
    DetectsDefault E is d → ((v : A) → is v ≡ eq v d) → IsCoding E B S → IsDecoder may_allocate B S N → IsUnambiguousBefore S Q → NoMatchBefore N Q →
    IsFirstDecoder may_allocate (DefaultOf is B) (Any (DefaultOf is B)) Q (ReadsDefault N eq d)
default_by {may_allocate} {Q} is eq d explains tests laws decoder unambiguous no_match = record {
  decodes = λ s r s' fresh h. default_first laws may_allocate Q is eq d explains tests s fresh (option_by laws decoder unambiguous no_match) r s' h;
}
