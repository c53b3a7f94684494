-- Parts that tags distinguish, which are read one by one: each takes one line, which says what it decodes and that it has no match where
-- what follows is there.
use Rattle.std.proofs.Common.{◌≡◌, ℕ, ◌^◌, ◌<◌, List, [], ◌∷◌, ◌++◌, length, Option, None, Err, Bool, true, false, not, inl, inr, refl, sym, ap, subst, ◌∙◌, append_assoc, arith}
use Rattle.std.proofs.lemmas.Bool.{and_parts}
use Rattle.std.specs.List.{list_any, AllByRecursion}
use Rattle.std.specs.Prelude.{◌⊎◌, ◌||◌}
use Rattle.yasna_base.specs.declared.mode.BERMode.{BERMode}
use Rattle.yasna_base.specs.declared.tag.Tag.{Tag}
use Rattle.yasna_base.specs.Beginnings.{BeginsWithOne, ContentsBeginBy, is_tag, share_none, CodingByTags}
use Rattle.yasna_base.specs.Coding.{IsCoding, Any}
use Rattle.yasna_base.specs.Default.{DetectsDefault, DefaultOf}
use Rattle.yasna_base.specs.Grammar.{Grammar, Members}
use Rattle.yasna_base.specs.Identifier.{BeginsWithTag, AtEnd, nothing as at_nothing, end as at_zeros, end_tag}
use Rattle.yasna_base.specs.Optional.{OptionOf, AnyOption}
use Rattle.yasna_base.specs.Sequence.{PartOf, NoParts, AnyPart, AnyNothing}
use Rattle.yasna_base.proofs.Beginnings.{tags_differ, unambiguous_before, nothing_by_tags, part_by_tags as part_begins_by, left_out_by_tags}
use Rattle.yasna_base.proofs.Identifier.{begins_once, begins_some, begins_with}
use Rattle.yasna_bytes.specs.Rejection.{IsElsewhere, another}
use Rattle.yasna_bytes.proofs.Rejection.{at_end_elsewhere}
use Rattle.yasna_reader.specs.ByTags.{AreElsewhere}
use Rattle.yasna_reader.specs.Decodes.{Step, Done}
use Rattle.yasna_reader.specs.Optional.{ReadsOptional, ReadsDefault}
use Rattle.yasna_reader.specs.State.{Does}
use Rattle.yasna_reader.proofs.ByTags.{IsDecoderByTags, plain_by}
use Rattle.yasna_reader.proofs.DefaultParts.{less, default_by}
use Rattle.yasna_reader.proofs.OptionalParts.{IsContentsDecoder, NoMatchBefore, then_by, part_by, option_by, end_by}
use Rattle.yasna_reader.proofs.OptionalReads.{StartsElsewhere}
use Rattle.yasna_reader.proofs.Tuples.{IsDecoder}

-- the tag that contents in Q begin with, up to an end, has a number of 64 bits
pub record BeginInRange (Q : Members) : Type 0 where
  pub at : (m : BERMode) (n : ℕ) (c s : List ℕ) (u : Tag) → AtEnd s → Q m n c → BeginsWithTag u (c ++ s) → u.tag_number < 2 ^ 64

first_differs : (a b : Bool) → not (a || b) ≡ true → (a ≡ false) × (not b ≡ true)
first_differs true b e = absurd (cc)
first_differs false b e = (refl, e)

-- a tag that the test finds in no list isn't there
pub differs_from : (t : Tag) (us : List Tag) → not (list_any (is_tag t) us) ≡ true → AllByRecursion (λ u. t ≡ u → ⊥) us
differs_from t [] e = tt
differs_from t (u ∷ us) e =
    let x = first_differs (is_tag t u) (list_any (is_tag t) us) e in
    (tags_differ t u x.0, differs_from t us x.1)

another_one : (t : Tag) (us : List Tag) (s : List ℕ) → AllByRecursion (λ u. t ≡ u → ⊥) us → ((u : Tag) → BeginsWithTag u s →
    u.tag_number < 2 ^ 64) →
    BeginsWithOne us s → IsElsewhere t s
another_one t [] s x range b = absurd b
another_one t (u ∷ us) s x range (inl b) = another u (range u b) (λ e. x.0 (sym e)) b
another_one t (u ∷ us) s x range (inr b) = another_one t us s x.1 range b

elsewhere_by : (t : Tag) (us : List Tag) (s : List ℕ) → AllByRecursion (λ u. t ≡ u → ⊥) (end_tag ∷ us) →
    ((u : Tag) → BeginsWithTag u s → u.tag_number < 2 ^ 64) → BeginsWithOne us s ⊎ AtEnd s → IsElsewhere t s
elsewhere_by t us s x range (inl b) = another_one t us s x.1 range b
elsewhere_by t us s x range (inr i) = at_end_elsewhere t s x.0 i

-- contents that begin by other tags don't begin by a tag
pub starts_elsewhere : {us : List Tag} {Q : Members} (t : Tag) → share_none (t ∷ []) (end_tag ∷ us) ≡ true → ContentsBeginBy us Q → BeginInRange Q →
    StartsElsewhere t Q
starts_elsewhere {us} t none x range m n c r i q =
    let y = and_parts (not (list_any (is_tag t) (end_tag ∷ us))) true none in
    elsewhere_by t us (c ++ r) (differs_from t (end_tag ∷ us) y.0) (λ u b. range.at m n c r u i q b) (x.at m n c r i q)

all_elsewhere : (ts us : List Tag) (s : List ℕ) → share_none ts (end_tag ∷ us) ≡ true → ((u : Tag) → BeginsWithTag u s → u.tag_number < 2 ^ 64) →
    BeginsWithOne us s ⊎ AtEnd s → AreElsewhere ts s
all_elsewhere [] us s e range b = tt
all_elsewhere (t ∷ ts) us s e range b =
    let y = and_parts (not (list_any (is_tag t) (end_tag ∷ us))) (share_none ts (end_tag ∷ us)) e in
    (elsewhere_by t us s (differs_from t (end_tag ∷ us) y.0) range b, all_elsewhere ts us s y.1 range b)

-- a decoder by tags has no match before contents that begin by other tags
pub no_match_before : {A : Type 0} {ts us : List Tag} {may_allocate : Bool} {B : Grammar A} {S Q : Members} {N : Does A} → IsDecoderByTags ts may_allocate B S N →
    share_none ts (end_tag ∷ us) ≡ true → ContentsBeginBy us Q → BeginInRange Q → NoMatchBefore N Q
no_match_before {ts} {us} {Q} value none x range = record {
  no_match = λ s e s' fresh h q.
      let b = x.at s.mode s.levels q.contents q.rest q.ends q.member in
      (value.decodes s (Err e) s' fresh h).no_match
      (all_elsewhere ts us s.left none
      (λ u i. range.at s.mode s.levels q.contents q.rest u q.ends q.member (subst (λ z. BeginsWithTag u z) q.joined i))
      (subst (λ z. BeginsWithOne us z ⊎ AtEnd z) (sym q.joined) b));
}

-- at an end only the end's own tag is there
pub end_in_range : (s : List ℕ) (u : Tag) → AtEnd s → BeginsWithTag u s → u.tag_number < 2 ^ 64
end_in_range s u (at_nothing e) b = absurd (omega (arith, begins_some u s b, ap length e))
end_in_range s u (at_zeros i) b =
    let same = begins_once u end_tag s b i in
    subst (λ (t : Tag). t.tag_number < 2 ^ 64) (sym same) (omega arith)

-- tags of 64 bits are in range
pub in_range_by : {us : List Tag} {Q : Members} → AllByRecursion (λ u. u.tag_number < 2 ^ 64) us → ContentsBeginBy us Q → BeginInRange Q
in_range_by {us} range x = record { at = λ m n c s u i q b. by_start (c ++ s) u b (x.at m n c s i q) }
  where
    one : (vs : List Tag) (s : List ℕ) (u : Tag) → AllByRecursion (λ v. v.tag_number < 2 ^ 64) vs → BeginsWithTag u s → BeginsWithOne vs s →
        u.tag_number < 2 ^ 64
    one [] s u r b x = absurd x
    one (v ∷ vs) s u r b (inl x) = subst (λ (t : Tag). t.tag_number < 2 ^ 64) (begins_once v u s x b) r.0
    one (v ∷ vs) s u r b (inr x) = one vs s u r.1 b x

    by_start : (s : List ℕ) (u : Tag) → BeginsWithTag u s → BeginsWithOne us s ⊎ AtEnd s → u.tag_number < 2 ^ 64
    by_start s u b (inl y) = one us s u range b y
    by_start s u b (inr i) = end_in_range s u i b

-- an encoding begins with a tag of 64 bits, whatever is after it
prefix_in_range : {A : Type 0} {E : A → A → Type 0} {B : Grammar A} {S : Members} → IsCoding E B S →
    (m : BERMode) (n : ℕ) (b r : List ℕ) (u : Tag) → S m n b →
    BeginsWithTag u (b ++ r) → u.tag_number < 2 ^ 64
prefix_in_range x m n b r u p i =
    let o = x.opens m n b p in
    subst (λ (t : Tag). t.tag_number < 2 ^ 64) (begins_once o.tag u (b ++ r) (begins_with o.tag b r o.begins) i) o.in_range

pub part_in_range : {A : Type 0} {E : A → A → Type 0} {B : Grammar A} {S : Members} (Q : Members) → IsCoding E B S → BeginInRange (AnyPart S Q)
part_in_range Q x = record {
  at = λ m n c s u i p b.
      prefix_in_range x m n p.prefix (p.rest ++ s) u p.here
      (subst (λ z. BeginsWithTag u z) (ap (λ z. z ++ s) p.joined ∙ append_assoc p.prefix p.rest s) b);
}

pub left_out_in_range : {A : Type 0} {E : A → A → Type 0} {B : Grammar A} {S Q : Members} → IsCoding E B S → BeginInRange Q →
    BeginInRange (AnyPart (AnyOption S) Q)
left_out_in_range {S} {Q} x y = record {
  at = λ m n c s u i p b.
      by_prefix m n p.prefix p.rest s u i p.here p.more
      (subst (λ z. BeginsWithTag u z) (ap (λ z. z ++ s) p.joined ∙ append_assoc p.prefix p.rest s) b);
}
  where
    by_prefix : (m : BERMode) (n : ℕ) (prefix rest s : List ℕ) (u : Tag) → AtEnd s → AnyOption S m n prefix → Q m n rest →
        BeginsWithTag u (prefix ++ (rest ++ s)) → u.tag_number < 2 ^ 64
    by_prefix m n prefix rest s u i (inl p) q b = prefix_in_range x m n prefix (rest ++ s) u p b
    by_prefix m n prefix rest s u i (inr e) q b = y.at m n rest s u i q (subst (λ z. BeginsWithTag u (z ++ (rest ++ s))) e b)

-- each run of P on a fresh reading decodes contents that make a value, and these begin by the tags
pub record IsPartsDecoderByTags {U A : Type 0} (ts : List Tag) (may_allocate : Bool) (C : Grammar A) (S : Members) (make : A →
    U) (P : Does U) : Type 0 where
  pub contents : IsContentsDecoder may_allocate C S make P
  pub begins : ContentsBeginBy ts S
  pub in_range : BeginInRange S

-- no more part
pub end_by_tags : {U : Type 0} {make : Unit {0} → U} → IsPartsDecoderByTags [] false NoParts AnyNothing make (Done (make tt))
end_by_tags = record {
  contents = end_by;
  begins = nothing_by_tags;
  in_range = record { at = λ m n c s u i q b. end_in_range s u i (subst (λ z. BeginsWithTag u (z ++ s)) q b) };
}

module _ {A V U : Type 0} {E : A → A →
    Type 0} {B : Grammar A} {S : Members} {N : Does A} {ts us : List Tag} {p q : Bool} {C : Grammar V} {Q : Members} where
  -- a part that isn't omitted, and where it was there, others
  pub part_by_tags : {make : A × V → U} {K : A → Does U} → CodingByTags ts E B S → IsDecoder p B S N →
      ((v : A) → IsPartsDecoderByTags us q C Q (λ w. make (v, w)) (K v)) →
      IsPartsDecoderByTags ts (p || q) (PartOf B C) (AnyPart S Q) make (Step N K)
  part_by_tags laws value more = record {
    contents = then_by (part_by laws.coding value) (λ v. (more v).contents);
    begins = part_begins_by Q laws.begins;
    in_range = part_in_range Q laws.coding;
  }

  -- an optional part, where none of its tags is after it
  pub option_by_tags : {make : Option A × V → U} {K : Option A → Does U} → CodingByTags ts E B S → IsDecoderByTags ts p B S N →
      share_none ts (end_tag ∷ us) ≡ true → ((v : Option A) → IsPartsDecoderByTags us q C Q (λ w. make (v, w)) (K v)) →
      IsPartsDecoderByTags (ts ++ us) (p || q) (PartOf (OptionOf B) C) (AnyPart (AnyOption S) Q) make (Step (ReadsOptional N) K)
  option_by_tags laws value none more =
      let y = more None in
      record {
        contents = then_by
            (option_by laws.coding (plain_by value) (unambiguous_before laws.begins y.begins none) (no_match_before value none y.begins y.in_range))
            (λ v. (more v).contents);
        begins = left_out_by_tags laws.begins y.begins;
        in_range = left_out_in_range laws.coding y.in_range;
      }

  -- a part that is the default d where it is omitted
  pub default_by_tags : {make : A × V → U} {K : A → Does U} (is : A → Bool) (eq : A → A → Bool) (d : A) → DetectsDefault E is d →
      ((v : A) → is v ≡ eq v d) → CodingByTags ts E B S → IsDecoderByTags ts p B S N → share_none ts (end_tag ∷ us) ≡ true →
      ((v : A) → IsPartsDecoderByTags us q C Q (λ w. make (v, w)) (K v)) →
      IsPartsDecoderByTags (ts ++ us) (p || q) (PartOf (DefaultOf is B) C) (AnyPart (Any (DefaultOf is B)) Q) make (Step (ReadsDefault N eq d) K)
  default_by_tags is eq d explains tests laws value none more =
      let y = more d in
      let begins = left_out_by_tags laws.begins y.begins in
      let range = left_out_in_range laws.coding y.in_range in
      record {
        contents = then_by
            (default_by is eq d explains tests laws.coding (plain_by value) (unambiguous_before laws.begins y.begins none)
            (no_match_before value none y.begins y.in_range))
            (λ v. (more v).contents);
        begins = record { at = λ m n c s i b. begins.at m n c s i (less Q is laws.coding m n c b) };
        in_range = record { at = λ m n c s u i b. range.at m n c s u i (less Q is laws.coding m n c b) };
      }
