-- With which tags contents may begin: so tags distinguish a part that may be omitted from elements after it with any other tag.
use Rattle.std.proofs.Common.{◌≡◌, ◌∷◌, ◌++◌, [], ◌<◌, ◌^◌, ◌||◌, ◌&&◌, ℕ, List, Bool, true, false, not, inl, inr, refl, sym, ap, ap₂, subst, ◌∙◌, append_assoc}
use Rattle.std.proofs.lemmas.Bool.{and_parts, and_from, eqb-true, eq-eqb, or_left, or_right}
use Rattle.std.specs.List.{list_any}
use Rattle.std.specs.Prelude.{◌⊎◌, nat_eq}
use Rattle.yasna_base.specs.declared.mode.BERMode.{BERMode}
use Rattle.yasna_base.specs.declared.tag.Tag.{Tag}
use Rattle.yasna_base.specs.Beginnings.{BeginsWithOne, BeginsBy, is_tag}
use Rattle.yasna_base.specs.Coding.{IsCoding}
use Rattle.yasna_base.specs.Exact.{Fitting}
use Rattle.yasna_base.specs.Grammar.{Grammar, Members, Encoding}
use Rattle.yasna_base.specs.Identifier.{AtEnd, BeginsWithTag, class_number, end_tag}
use Rattle.yasna_base.specs.Optional.{AnyOption}
use Rattle.yasna_base.specs.Sequence.{AnyPart, AnyNothing}
use Rattle.yasna_base.proofs.Identifier.{begins_once, begins_with, class_same}
use Rattle.yasna_base.proofs.Optional.{IsUnambiguousBefore}
use Rattle.yasna_base.proofs.Pieces.{starts_not_end}
use Rattle.yasna_notation.specs.Notation.{IsNotation}
use Rattle.yasna_notation_constraints.specs.TestedDefaults.{true_not_false}

-- s begins with a tag that the test passes, which isn't that of the end of contents
pub record StartsWithin (may : Tag → Bool) (s : List ℕ) : Type 0 where
  pub tag : Tag
  pub in_range : tag.tag_number < 2 ^ 64
  pub not_end : tag ≡ end_tag → ⊥
  pub begins : BeginsWithTag tag s
  pub passes : may tag ≡ true

-- contents in Q up to an end begin with a tag that the test passes, or are empty
pub record BeginWithin (may : Tag → Bool) (Q : Members) : Type 0 where
  pub at : (m : BERMode) (n : ℕ) (c s : List ℕ) → AtEnd s → Q m n c → StartsWithin may (c ++ s) ⊎ AtEnd (c ++ s)

-- the test for the tags of a part, if these are known
abbrev pub first_may : Bool → List Tag → Tag → Bool
first_may tags_known ts t = not tags_known || list_any (is_tag t) ts

-- none of the tags passes the test, nor is one that of the end of contents
abbrev pub none_may : (Tag → Bool) → List Tag → Bool
none_may may [] = true
none_may may (t ∷ ts) = not (is_tag t end_tag || may t) && none_may may ts

pub same_tag : (t u : Tag) → is_tag t u ≡ true → t ≡ u
same_tag t u e =
    let y = and_parts (nat_eq (class_number t.tag_class) (class_number u.tag_class)) (nat_eq t.tag_number u.tag_number) e in
    let c = class_same t.tag_class u.tag_class (eqb-true (class_number t.tag_class) (class_number u.tag_class) y.0) in
    let n = eqb-true t.tag_number u.tag_number y.1 in
    ap₂ (λ d k. record { tag_class = d; tag_number = k }) c n

pub is_itself : (t u : Tag) → t ≡ u → is_tag t u ≡ true
is_itself t u e =
    let c = ap (λ (x : Tag). class_number x.tag_class) e in
    let n = ap (λ (x : Tag). x.tag_number) e in
    and_from (nat_eq (class_number t.tag_class) (class_number u.tag_class)) (nat_eq t.tag_number u.tag_number)
    (eq-eqb (class_number t.tag_class) (class_number u.tag_class) c) (eq-eqb t.tag_number u.tag_number n)

-- if bytes begin with a tag and with one of some tags, it is among them
pub found : (t : Tag) (us : List Tag) (s : List ℕ) → BeginsWithTag t s → BeginsWithOne us s → list_any (is_tag t) us ≡ true
found t [] s x y = absurd y
found t (u ∷ us) s x (inl y) = or_left (is_tag t u) (list_any (is_tag t) us) (is_itself t u (begins_once t u s x y))
found t (u ∷ us) s x (inr y) = or_right (is_tag t u) (list_any (is_tag t) us) (found t us s x y)

pub record BothFalse (a b : Bool) : Type 0 where
  pub first : a ≡ false
  pub second : b ≡ false

pub fails : (a b : Bool) → not (a || b) ≡ true → BothFalse a b
fails true b e = absurd (cc)
fails false true e = absurd (cc)
fails false false e = record { first = refl; second = refl }

either_true : (a b : Bool) → a || b ≡ true → (a ≡ true) ⊎ (b ≡ true)
either_true true b e = inl refl
either_true false b e = inr e

-- a tag that passes is none of some tags, of which none passes
pub none_passes : (may : Tag → Bool) (ts : List Tag) (t : Tag) → none_may may ts ≡ true → list_any (is_tag t) ts ≡ true → may t ≡ true → ⊥
none_passes may [] t e f p = absurd (cc)
none_passes may (u ∷ us) t e f p =
    let y = and_parts (not (is_tag u end_tag || may u)) (none_may may us) e in
    elim (either_true (is_tag t u) (list_any (is_tag t) us) f) [
      | inl g ↦ true_not_false (may u) (subst (λ z. may z ≡ true) (same_tag t u g) p) (fails (is_tag u end_tag) (may u) y.0).second
      | inr g ↦ none_passes may us t y.1 g p
    ]

-- contents that begin with other tags never begin as members of S do
pub within_unambiguous : {A : Type 0} {E : A → A → Type 0} {B : Grammar A} {S Q : Members} {ts : List Tag} {may : Tag → Bool} → IsCoding E B S → BeginsBy ts S →
    BeginWithin may Q → none_may may ts ≡ true → IsUnambiguousBefore S Q
within_unambiguous {S = S} {Q = Q} {ts = ts} {may = may} x begins within none m n k b c r s i p q e = by_start (within.at m k c s i q)
  where
    by_start : StartsWithin may (c ++ s) ⊎ AtEnd (c ++ s) → ⊥
    by_start (inl z) =
        let o = x.opens m n b p in
        let here = subst (BeginsWithTag o.tag) e (begins_with o.tag b r o.begins) in
        let same = begins_once z.tag o.tag (c ++ s) z.begins here in
        none_passes may ts o.tag none (found o.tag ts b o.begins (begins.at m n b p)) (subst (λ t. may t ≡ true) same z.passes)
    by_start (inr z) = starts_not_end b r (c ++ s) (x.opens m n b p) z (sym e)

-- no parts
pub nothing_within : BeginWithin (λ t. false) AnyNothing
nothing_within = record { at = λ m n c s i p. inr (subst AtEnd (sym (ap (λ z. z ++ s) p)) i) }

module _ {A : Type 0} {tags_known : Bool} {ts : List Tag} {E : A → A → Type 0} {B : Grammar A} {S : Members} (x : IsCoding E B S)
    (begins : tags_known ≡ true → BeginsBy ts S) where
  starts : (tags_known' : Bool) → tags_known ≡ tags_known' → (m : BERMode) (n : ℕ) (b r : List ℕ) → S m n b → StartsWithin (first_may tags_known' ts) (b ++ r)
  starts true is m n b r p =
      let o = x.opens m n b p in
      record {
        tag = o.tag;
        in_range = o.in_range;
        not_end = o.not_end;
        begins = begins_with o.tag b r o.begins;
        passes = found o.tag ts b o.begins ((begins is).at m n b p);
      }
  starts false is m n b r p =
      let o = x.opens m n b p in
      record { tag = o.tag; in_range = o.in_range; not_end = o.not_end; begins = begins_with o.tag b r o.begins; passes = refl }

  -- a mandatory part, whatever follows it
  pub part_within : (Q : Members) → BeginWithin (first_may tags_known ts) (AnyPart S Q)
  part_within Q = record {
    at = λ m n c s i p. inl (subst (StartsWithin (first_may tags_known ts))
        (sym (ap (λ z. z ++ s) p.joined ∙ append_assoc p.prefix p.rest s)) (starts tags_known refl m n p.prefix (p.rest ++ s) p.here));
  }

  weaker : (may : Tag → Bool) (s : List ℕ) → StartsWithin (first_may tags_known ts) s → StartsWithin (λ t. first_may tags_known ts t || may t) s
  weaker may s z = record {
    tag = z.tag;
    in_range = z.in_range;
    not_end = z.not_end;
    begins = z.begins;
    passes = or_left (first_may tags_known ts z.tag) (may z.tag) z.passes;
  }

  others : (may : Tag → Bool) (s : List ℕ) → StartsWithin may s → StartsWithin (λ t. first_may tags_known ts t || may t) s
  others may s z = record {
    tag = z.tag;
    in_range = z.in_range;
    not_end = z.not_end;
    begins = z.begins;
    passes = or_right (first_may tags_known ts z.tag) (may z.tag) z.passes;
  }

  -- a part that may be omitted
  pub omitted_within : (may : Tag → Bool) (Q : Members) → BeginWithin may Q → BeginWithin (λ t. first_may tags_known ts t || may t) (AnyPart (AnyOption S) Q)
  omitted_within may Q y = record {
    at = λ m n c s i p. subst (λ z. StartsWithin (λ t. first_may tags_known ts t || may t) z ⊎ AtEnd z)
        (sym (ap (λ z. z ++ s) p.joined ∙ append_assoc p.prefix p.rest s)) (by_prefix m n p.prefix p.rest s i p.here p.more);
  }
    where
      after : (s : List ℕ) → StartsWithin may s ⊎ AtEnd s → StartsWithin (λ t. first_may tags_known ts t || may t) s ⊎ AtEnd s
      after s (inl z) = inl (others may s z)
      after s (inr z) = inr z

      by_prefix : (m : BERMode) (n : ℕ) (prefix rest s : List ℕ) → AtEnd s → AnyOption S m n prefix → Q m n rest →
          StartsWithin (λ t. first_may tags_known ts t || may t) (prefix ++ (rest ++ s)) ⊎ AtEnd (prefix ++ (rest ++ s))
      by_prefix m n prefix rest s i (inl p) q = inl (weaker may (prefix ++ (rest ++ s)) (starts tags_known refl m n prefix (rest ++ s) p))
      by_prefix m n prefix rest s i (inr p) q =
          subst (λ z. StartsWithin (λ t. first_may tags_known ts t || may t) (z ++ (rest ++ s)) ⊎ AtEnd (z ++ (rest ++ s))) (sym p)
          (after (rest ++ s) (y.at m n rest s i q))

-- a mandatory part of a notation
pub part_begins : {A : Type 0} {tags_known : Bool} {ts : List Tag} {E : A → A → Type 0} {B : Grammar A} {S : Members} {f : Encoding A} {P : Fitting A}
    {c : A → Type 0} {a : Bool} (b : Bool) (Q : Members) → (a ≡ true → IsNotation tags_known ts E B S f P c) → a && b ≡ true →
    BeginWithin (first_may tags_known ts) (AnyPart S Q)
part_begins {a = a} b Q first e = let x = first (and_parts a b e).0 in part_within x.coding x.begins Q

-- a part of a notation that may be omitted
pub possible_begins : {A : Type 0} {tags_known : Bool} {ts : List Tag} {E : A → A → Type 0} {B : Grammar A} {S : Members} {f : Encoding A} {P : Fitting A}
    {c : A → Type 0} {a b : Bool} (none : Bool) (may : Tag → Bool) {Q : Members} → (a ≡ true → IsNotation tags_known ts E B S f P c) → (b ≡ true → BeginWithin may Q) →
    tags_known && (none && (a && b)) ≡ true → BeginWithin (λ t. first_may tags_known ts t || may t) (AnyPart (AnyOption S) Q)
possible_begins {tags_known = tags_known} {a = a} {b = b} none may {Q} first rest e =
    let y = and_parts a b (and_parts none (a && b) (and_parts tags_known (none && (a && b)) e).1).1 in
    let x = first y.0 in
    omitted_within x.coding x.begins may Q (rest y.1)
