-- What reading a CHOICE does by the tag that was found.
use Rattle.std.proofs.Common.{◌≡◌, ◌++◌, ◌||◌, ◌∷◌, [], List, Bool, true, false, not, Option, None, Result, Ok, Err, inl, inr, refl, sym, ap, ap₂, subst, append-nil, ℕ}
use Rattle.std.proofs.lemmas.Bool.{and_parts, and_from, or_left, or_right, eq-eqb, eqb-true}
use Rattle.std.specs.List.{list_any}
use Rattle.std.specs.Prelude.{◌⊎◌, ◌&&◌, nat_eq}
use Rattle.yasna_base.specs.declared.error.ASN1Error.{ASN1Error}
use Rattle.yasna_base.specs.declared.tag.Tag.{Tag}
use Rattle.yasna_base.specs.Beginnings.{BeginsWithOne, BeginsBy, is_tag, share_none}
use Rattle.yasna_base.specs.Choice.{EitherOf, AnyEither}
use Rattle.yasna_base.specs.Coding.{IsCoding}
use Rattle.yasna_base.specs.Exact.{Fitting}
use Rattle.yasna_base.specs.Grammar.{Grammar, Members, Encoding}
use Rattle.yasna_base.specs.Identifier.{BeginsWithTag, class_number}
use Rattle.yasna_base.proofs.Beginnings.{no_common_tag}
use Rattle.yasna_base.proofs.Identifier.{class_same, begins_with}
use Rattle.yasna_reader.specs.Decodes.{RepeatsError}
use Rattle.yasna_reader.specs.Lookahead.{LooksAhead}
use Rattle.yasna_reader.specs.State.{Reading}
use Rattle.yasna_reader.proofs.Choices.{OnlyOf, the_choice, others_of, are_among, chosen_by_tags, found_none_by_tags}
use Rattle.yasna_reader.proofs.NextTag.{looked}
use Rattle.yasna_reader.proofs.PartsByTags.{differs_from}
use Rattle.yasna_reader.proofs.Tuples.{seen}
use Rattle.yasna_notation.specs.declared.choices.Either.TheVariants.{First, Second}
use Rattle.yasna_notation.specs.Choices.{ReadsFound, sides}
use Rattle.yasna_notation.specs.Notation.{IsNotation, ReadsAs}

-- tags are among themselves and more
among_more : (us ts : List Tag) (t : Tag) → are_among us ts ≡ true → are_among us (t ∷ ts) ≡ true
among_more [] ts t e = refl
among_more (u ∷ us) ts t e =
    let x = and_parts (list_any (is_tag u) ts) (are_among us ts) e in
    and_from (is_tag u t || list_any (is_tag u) ts) (are_among us (t ∷ ts)) (or_right (is_tag u t) (list_any (is_tag u) ts) x.0) (among_more us ts t x.1)

is_itself : (u : Tag) → is_tag u u ≡ true
is_itself u =
    and_from (nat_eq (class_number u.tag_class) (class_number u.tag_class)) (nat_eq u.tag_number u.tag_number)
    (eq-eqb (class_number u.tag_class) (class_number u.tag_class) refl) (eq-eqb u.tag_number u.tag_number refl)

among_before : (us vs : List Tag) → are_among us (us ++ vs) ≡ true
among_before [] vs = refl
among_before (u ∷ us) vs =
    and_from (is_tag u u || list_any (is_tag u) (us ++ vs)) (are_among us (u ∷ (us ++ vs)))
    (or_left (is_tag u u) (list_any (is_tag u) (us ++ vs)) (is_itself u)) (among_more us (us ++ vs) u (among_before us vs))

among_after : (ts vs : List Tag) → are_among vs (ts ++ vs) ≡ true
among_after [] vs = subst (λ z. are_among vs z ≡ true) (append-nil vs) (among_before vs [])
among_after (t ∷ ts) vs = among_more vs (ts ++ vs) t (among_after ts vs)

same_tag : (t u : Tag) → is_tag t u ≡ true → t ≡ u
same_tag t u e =
    let y = and_parts (nat_eq (class_number t.tag_class) (class_number u.tag_class)) (nat_eq t.tag_number u.tag_number) e in
    let c = class_same t.tag_class u.tag_class (eqb-true (class_number t.tag_class) (class_number u.tag_class) y.0) in
    let n = eqb-true t.tag_number u.tag_number y.1 in
    ap₂ (λ d k. record { tag_class = d; tag_number = k }) c n

either_true : (a b : Bool) → a || b ≡ true → (a ≡ true) ⊎ (b ≡ true)
either_true true b e = inl refl
either_true false b e = inr e

-- where a tag was found that is one of some, bytes begin with one of them
one_found : (ts : List Tag) (t : Tag) (s : List ℕ) → list_any (is_tag t) ts ≡ true → BeginsWithTag t s → BeginsWithOne ts s
one_found [] t s e x = absurd (cc)
one_found (u ∷ ts) t s e x = elim (either_true (is_tag t u) (list_any (is_tag t) ts) e) [
  | inl f ↦ inl (subst (λ z. BeginsWithTag z s) (same_tag t u f) x)
  | inr f ↦ inr (one_found ts t s f x)
]

-- bytes that go on begin as they did
one_with : (ts : List Tag) (s r : List ℕ) → BeginsWithOne ts s → BeginsWithOne ts (s ++ r)
one_with [] s r x = x
one_with (t ∷ ts) s r (inl x) = inl (begins_with t s r x)
one_with (t ∷ ts) s r (inr x) = inr (one_with ts s r x)

module _ {S Q : Members} (ts us : List Tag) (t : Tag) (s : Reading) (found : BeginsWithTag t s.left) where
  first_only : BeginsBy us Q → share_none ts us ≡ true → list_any (is_tag t) ts ≡ true → OnlyOf s (AnyEither S Q) S
  first_only y none is = record { only = λ b r e z. by_type b r e z }
    where
      here : BeginsWithOne ts s.left
      here = one_found ts t s.left is found

      by_type : (b r : List ℕ) → s.left ≡ b ++ r → AnyEither S Q s.mode s.levels b → S s.mode s.levels b
      by_type b r e (inl z) = z
      by_type b r e (inr z) = absurd
          (no_common_tag ts us s.left none here (subst (BeginsWithOne us) (sym e) (one_with us b r (y.at s.mode s.levels b z))))

-- where the tag is none of the first type's, one of the others is there
others_only : {S Q : Members} (ts : List Tag) (t : Tag) (s : Reading) → BeginsWithTag t s.left → BeginsBy ts S → list_any (is_tag t) ts ≡ false →
    OnlyOf s (AnyEither S Q) Q
others_only {S} {Q} ts t s found x is = others_of t s found x (differs_from t ts (ap not is)) (the_choice s (AnyEither S Q))

repeats_seen : {A U : Type 0} (f : A → U) (s : Reading) (x : Result A ASN1Error) (s' : Reading) → RepeatsError s x s' → RepeatsError s (seen f x) s'
repeats_seen f s (Ok v) s' h e failed = absurd (let x = (h e failed).0 in cc)
repeats_seen f s (Err d) s' h e failed =
    let x = h e failed in
    let same : d ≡ e = let y = x.0 in cc in
    (ap (λ z. Err z) same, x.1)

-- what holds where tags distinguish a type from others
record Split (tags_known none a b : Bool) : Type 0 where
  is_known : tags_known ≡ true
  none_shared : none ≡ true
  first_unambiguous : a ≡ true
  others_unambiguous : b ≡ true

split : (tags_known none a b : Bool) → tags_known && (none && (a && b)) ≡ true → Split tags_known none a b
split tags_known none a b e =
    let u = and_parts tags_known (none && (a && b)) e in
    let w = and_parts none (a && b) u.1 in
    let z = and_parts a b w.1 in
    record { is_known = u.0; none_shared = w.0; first_unambiguous = z.0; others_unambiguous = z.1 }

module _ {A V : Type 0} (tags_known : Bool) (ts us : List Tag) (p q : Bool) (B : Option Tag → Grammar A) (S : Option Tag → Members) (C : Grammar V)
    (Q : Members) (a b : Bool) (unambiguous : tags_known && (share_none ts us && (a && b)) ≡ true) (t : Tag) (s : Reading) where
  -- the first type
  pub first_found : {F : V → V → Type 0} {encodings : Encoding V} {Fit : Fitting V} {Could : V → Type 0} (retagged : Bool) →
      (b ≡ true → IsNotation true us F C Q encodings Fit Could) → (x : Result A ASN1Error) (s' : Reading) → list_any (is_tag t) ts ≡ true →
      ReadsAs tags_known ts retagged p B S s x s' →
      ReadsFound (ts ++ us) (p || q) (λ m n v b. EitherOf (B None) C m n (sides v) b) (AnyEither (S None) Q) t s (seen First x) s'
  first_found retagged rest x s' is h =
      let k = split tags_known (share_none ts us) a b unambiguous in
      record {
        decodes = λ fresh found.
            let d = h.fresh fresh in
            chosen_by_tags {more = p || q} First (λ m n v b y. y) (or_left p q) (among_before ts us) s
            (first_only ts us t s found ((rest k.others_unambiguous).begins refl) k.none_shared is) x s'
            (record { decodes = d.decodes; no_match = d.no_match k.is_known });
        repeats = repeats_seen First s x s' h.repeats;
      }

  -- one of the others
  pub other_found : {E : A → A → Type 0} {encoding : Encoding A} {Fits : Fitting A} {Can : A → Type 0} →
      (a ≡ true → IsNotation tags_known ts E (B None) (S None) encoding Fits Can) → (x : Result V ASN1Error) (s' : Reading) →
      list_any (is_tag t) ts ≡ false → ReadsFound us q C Q t s x s' →
      ReadsFound (ts ++ us) (p || q) (λ m n v b. EitherOf (B None) C m n (sides v) b) (AnyEither (S None) Q) t s (seen Second x) s'
  other_found first x s' is h =
      let k = split tags_known (share_none ts us) a b unambiguous in
      record {
        decodes = λ fresh found.
            chosen_by_tags {more = p || q} Second (λ m n v b y. y) (or_right p q) (among_after ts us) s
            (others_only ts t s found ((first k.first_unambiguous).begins k.is_known) is) x s' (h.decodes fresh found);
        repeats = repeats_seen Second s x s' h.repeats;
      }

-- the last type
pub last_found : {A : Type 0} {tags_known : Bool} {ts : List Tag} {retagged may_allocate : Bool} {B : Option Tag → Grammar A} {S : Option Tag → Members} {t : Tag}
    {s : Reading} {r : Result A ASN1Error} {s' : Reading} → tags_known ≡ true → ReadsAs tags_known ts retagged may_allocate B S s r s' →
    ReadsFound ts may_allocate (B None) (S None) t s r s'
last_found is h = record {
  decodes = λ fresh found. let d = h.fresh fresh in record { decodes = d.decodes; no_match = d.no_match is };
  repeats = h.repeats;
}

module _ {A : Type 0} {ts : List Tag} {may_allocate : Bool} {B : Grammar A} {S : Members} (s : Reading) where
  -- a CHOICE of which a tag was found
  pub choice_read : (t : Tag) (x : Result Tag ASN1Error) (r : Result A ASN1Error) (s' : Reading) → LooksAhead s.failed s.left x → x ≡ Ok t →
      ReadsFound ts may_allocate B S t s r s' → ReadsAs true ts false may_allocate (λ u. B) (λ u. S) s r s'
  choice_read t x r s' looks is h = record {
    fresh = λ fresh. let d = h.decodes fresh (looked s x (Ok t) looks fresh.0 is) in record { decodes = d.decodes; no_match = λ _. d.no_match };
    replaced = λ e u not range failed waits. absurd (cc);
    repeats = h.repeats;
  }

  -- a CHOICE of which no tag was found
  pub choice_not_read : {E : A → A → Type 0} → IsCoding E B S → (e : ASN1Error) (x : Result Tag ASN1Error) → LooksAhead s.failed s.left x → x ≡ Err e →
      ReadsAs true ts false may_allocate (λ u. B) (λ u. S) s (Err e) s
  choice_not_read laws e x looks is = record {
    fresh = λ fresh.
        let d = found_none_by_tags ts may_allocate laws s fresh e (looked s x (Err e) looks fresh.0 is) in
        record { decodes = d.decodes; no_match = λ _. d.no_match };
    replaced = λ f u not range failed waits. absurd (cc);
    repeats = λ k failed. let f = subst (λ z. LooksAhead z s.left x) failed looks in let same : e ≡ k = cc in (ap (λ z. Err z) same, refl);
  }
