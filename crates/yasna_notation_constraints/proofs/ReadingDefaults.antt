-- What reading a part does whose value is none for the default.
use Rattle.std.proofs.Common.{◌≡◌, ◌∷◌, [], ℕ, List, Bool, true, false, not, Option, Some, None, Result, Ok, Err, inl, inr, refl, ap}
use Rattle.std.proofs.lemmas.Bool.{and_parts, not-true}
use Rattle.std.specs.Prelude.{◌&&◌, ◌⊎◌}
use Rattle.yasna_base.specs.declared.error.ASN1Error.{ASN1Error}
use Rattle.yasna_base.specs.declared.error.ASN1ErrorKind.TheVariants.{Invalid}
use Rattle.yasna_base.specs.declared.mode.BERMode.{BERMode}
use Rattle.yasna_base.specs.declared.mode.BERMode.TheVariants.{Ber, Der, Cer}
use Rattle.yasna_base.specs.declared.tag.Tag.{Tag}
use Rattle.yasna_base.specs.Beginnings.{BeginsBy, share_none}
use Rattle.yasna_base.specs.Coding.{Any}
use Rattle.yasna_base.specs.Default.{TakesDefault}
use Rattle.yasna_base.specs.Error.{error_of}
use Rattle.yasna_base.specs.Exact.{Fitting}
use Rattle.yasna_base.specs.Grammar.{Grammar, Members, Encoding}
use Rattle.yasna_base.specs.Identifier.{AnyTag, end_tag}
use Rattle.yasna_base.specs.Optional.{OptionOf, AnyOption}
use Rattle.yasna_base.proofs.Beginnings.{unambiguous_before}
use Rattle.yasna_reader.specs.Optional.{ReadsOptional}
use Rattle.yasna_reader.specs.State.{Reading, Does}
use Rattle.yasna_reader.proofs.ByTags.{IsDecoderByTags, plain_by}
use Rattle.yasna_reader.proofs.OptionalParts.{DecodesFirst, IsFirstDecoder, option_by}
use Rattle.yasna_reader.proofs.PartsByTags.{no_match_before}
use Rattle.yasna_notation.specs.Notation.{IsNotation, NotationKeepsLaws, ReadsAs}
use Rattle.yasna_notation.specs.Parts.{AreParts, all_known, is_known}
use Rattle.yasna_notation.specs.WithinMode.{WithinMode, within_mode_coding}
use Rattle.yasna_notation.proofs.WithinMode.{ReadingLaws, mode_within, mode_outside, mode_none}
use Rattle.yasna_notation_constraints.specs.OrDefault.{accepted_by, OrDefaultOf}
use Rattle.yasna_notation_constraints.specs.TestedDefaults.{IsOneValue, one_alike}

-- what decodes by a grammar decodes by one of more, whose bytes are among those of the first
pub first_as : {A : Type 0} {may_allocate : Bool} {B D : Grammar A} {S T Q : Members} {N : Does A} →
    ((m : BERMode) (n : ℕ) (v : A) (b : List ℕ) → B m n v b → D m n v b) → ((m : BERMode) (n : ℕ) (b : List ℕ) → T m n b → S m n b) →
    IsFirstDecoder may_allocate B S Q N → IsFirstDecoder may_allocate D T Q N
first_as {A} {may_allocate} {B} {D} {S} {T} {Q} more among first = record { decodes = λ s r s' fresh h. by_result s r s' (first.decodes s r s' fresh h) }
  where
    by_result : (s : Reading) (r : Result A ASN1Error) (s' : Reading) → DecodesFirst may_allocate B S Q s r s' → DecodesFirst may_allocate D T Q s r s'
    by_result s (Ok v) s' h = record {
      parsed = record {
        prefix = h.parsed.prefix;
        rest = h.parsed.rest;
        joined = h.parsed.joined;
        member = more s.mode s.levels v h.parsed.prefix h.parsed.member;
        left = h.parsed.left;
      };
      once = λ prefix rest x e i f g. h.once prefix rest x e i (among s.mode s.levels prefix f) g;
    }
    by_result s (Err e) s' h = record {
      none = λ o c x f i j. h.none o c x f i
          (record { prefix = j.prefix; rest = j.rest; joined = j.joined; here = among s.mode s.levels j.prefix j.here; more = j.more });
      memory = h.memory;
    }

-- a value that the mode accepts isn't the default, or the mode takes defaults
pub accepted : {A : Type 0} (is : A → Bool) (m : BERMode) (v : A) → accepted_by is m v ≡ true → TakesDefault m ⊎ (is v ≡ false)
accepted is Ber v e = inl tt
accepted is Der v e = inr (not-true (is v) e)
accepted is Cer v e = inr (not-true (is v) e)

is_accepted : {A : Type 0} (is : A → Bool) (m : BERMode) (v : A) → TakesDefault m ⊎ (is v ≡ false) → accepted_by is m v ≡ true
is_accepted is Ber v e = refl
is_accepted is Der v (inl e) = absurd e
is_accepted is Der v (inr e) = ap not e
is_accepted is Cer v (inl e) = absurd e
is_accepted is Cer v (inr e) = ap not e

module _ {A : Type 0} (is : A → Bool) (B : Grammar A) where
  among_parts : (m : BERMode) (n : ℕ) (v : Option A) (b : List ℕ) → OptionOf (WithinMode (accepted_by is) B) m n v b → OrDefaultOf is B m n v b
  among_parts m n (Some v) b p = inl (p.0, accepted is m v p.1)
  among_parts m n None b p = p

  any_accepted : (m : BERMode) (n : ℕ) (b : List ℕ) → Any (OrDefaultOf is B) m n b → AnyOption (Any (WithinMode (accepted_by is) B)) m n b
  any_accepted m n b (Some v, inl p) = inl (v, (p.0, is_accepted is m v p.1))
  any_accepted m n b (Some v, inr p) = inr p.0
  any_accepted m n b (None, p) = inr p

-- where tags distinguish the part from what is after it
pub or_default_first : {A V : Type 0} {tags_known others : Bool} {ts us : List Tag} {retagged may_allocate : Bool} {E : A → A → Type 0} {G : V → V → Type 0}
    {B : Option Tag → Grammar A} {C : Grammar V} {Q : Members} {encoding : Encoding A} {encodings : Encoding V} {Fits : Fitting A}
    {Fit : Fitting V} {Can : A → Type 0} {Could : V → Type 0} {a b : Bool} (S : Option Tag → Members)
    (is : A → Bool) → (a ≡ true → IsNotation tags_known ts E (B None) (S None) encoding Fits Can) → (b ≡ true → AreParts others us G C Q encodings Fit Could) →
    all_known tags_known others (share_none ts (end_tag ∷ us)) (a && b) ≡ true →
    IsFirstDecoder may_allocate (OrDefaultOf is (B None)) (Any (OrDefaultOf is (B None))) Q
    (ReadsOptional (ReadsAs tags_known ts retagged may_allocate (λ u. WithinMode (accepted_by is) (B u)) (λ u. Any (WithinMode (accepted_by is) (B u)))))
or_default_first {tags_known = tags_known} {others = others} {ts = ts} {us = us} {retagged = retagged} {may_allocate = may_allocate} {B = B} {a = a} {b = b}
    S is first rest e =
    let t = is_known tags_known others (share_none ts (end_tag ∷ us)) (a && b) e in
    let z = and_parts a b t.all_unambiguous in
    let x = first z.0 in
    let y = rest z.1 in
    let passes = accepted_by is in
    let N = ReadsAs tags_known ts retagged may_allocate (λ u. WithinMode passes (B u)) (λ u. Any (WithinMode passes (B u))) in
    let value : IsDecoderByTags ts may_allocate (WithinMode passes (B None)) (Any (WithinMode passes (B None))) N =
    record { decodes = λ s r s' fresh h. let d = h.fresh fresh in record { decodes = d.decodes; no_match = d.no_match t.is_first_known } } in
    let coding = within_mode_coding passes x.coding in
    let begins : BeginsBy ts (Any (WithinMode passes (B None))) =
    record { at = λ m n b p. (x.begins t.is_first_known).at m n b (x.coding.meaning.among m n p.0 b p.1.0) } in
    let after = y.begins t.is_rest_known in
    first_as (among_parts is (B None)) (any_accepted is (B None))
    (option_by coding (plain_by value) (unambiguous_before begins after t.none_shared) (no_match_before value t.none_shared after y.in_range))

-- a value of a type is read, and put to the test of the mode
module _ {A : Type 0} (is : A → Bool) {E : A → A → Type 0} (one : IsOneValue E is) (B : Option Tag → Grammar A) (S : Option Tag → Members)
    (encoding : Option Tag → Encoding A) (tags_known : Bool) (ts : List Tag) (retagged may_allocate : Bool) {Fits : Fitting A} {Can : A → Type 0}
    (laws : NotationKeepsLaws tags_known ts retagged E B S encoding Fits Can) (s : Reading) where
  own : ReadingLaws tags_known ts E (B None) (S None)
  own = record { coding = laws.own.coding; begins = laws.own.begins }

  others : retagged ≡ true → AnyTag (λ t. ReadingLaws true (t ∷ []) E (B (Some t)) (S (Some t)))
  others may t not range = let z = laws.others may t not range in record { coding = z.coding; begins = z.begins }

  accepted_alike : (m : BERMode) (v w : A) → E v w → accepted_by is m v ≡ accepted_by is m w
  accepted_alike Ber v w e = refl
  accepted_alike Der v w e = ap not (one_alike is one laws.own.coding.meaning.equal v w e)
  accepted_alike Cer v w e = ap not (one_alike is one laws.own.coding.meaning.equal v w e)

  abbrev ReadsAll : Result A ASN1Error → Reading → Type 0
  ReadsAll r s' = ReadsAs tags_known ts retagged may_allocate B S s r s'

  abbrev ReadsAccepted : Result A ASN1Error → Reading → Type 0
  ReadsAccepted r s' = ReadsAs tags_known ts retagged may_allocate (λ u. WithinMode (accepted_by is) (B u)) (λ u. Any (WithinMode (accepted_by is) (B u))) s r s'

  -- one that the mode accepts
  pub value_accepted : (v : A) (s' : Reading) → accepted_by is s.mode v ≡ true → ReadsAll (Ok v) s' → ReadsAccepted (Ok v) s'
  value_accepted v s' e h = mode_within (λ v. v) B S (accepted_by is) accepted_alike tags_known ts retagged may_allocate own others s v s' e h

  -- one that it doesn't
  pub value_rejected : (v : A) (s' : Reading) → accepted_by is s.mode v ≡ false → ReadsAll (Ok v) s' → ReadsAccepted (Err (error_of Invalid)) s'
  value_rejected v s' e h = mode_outside (λ v. v) B S (accepted_by is) accepted_alike tags_known ts retagged may_allocate own others s v s' e h

  -- none
  pub value_not_read : (e : ASN1Error) (s' : Reading) → ReadsAll (Err e) s' → ReadsAccepted (Err e) s'
  value_not_read e s' h = mode_none {U = A} (λ v. v) B S (accepted_by is) accepted_alike tags_known ts retagged may_allocate own others s e s' h
