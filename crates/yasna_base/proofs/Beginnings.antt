-- Tags distinguish the types of a CHOICE, and parts that may be omitted from what is after them.
use Rattle.std.proofs.Common.{◌≡◌, ℕ, List, [], ◌∷◌, ◌++◌, Bool, true, false, true≢false, not, ◌||◌}
use Rattle.std.proofs.Common.{◌⊎◌, inl, inr, length, refl, ap, ◌∙◌, sym, arith, subst}
use Rattle.std.specs.List.{list_any}
use Rattle.std.specs.Prelude.{nat_eq}
use Rattle.std.proofs.lemmas.Bool.{eq-eqb, and_from, and_parts}
use Rattle.yasna_base.specs.declared.mode.BERMode.{BERMode}
use Rattle.yasna_base.specs.declared.tag.Tag.{Tag}
use Rattle.yasna_base.specs.Beginnings.{BeginsWithOne, BeginsBy, ContentsBeginBy, is_tag, share_none, CodingByTags, ContentsByTags}
use Rattle.yasna_base.specs.Choice.{EitherOf, AnyEither, SameEither}
use Rattle.yasna_base.specs.Coding.{Any}
use Rattle.yasna_base.specs.Segmented.{Segmentation, IsSegmented}
use Rattle.yasna_base.specs.Default.{DetectsDefault, DefaultOf}
use Rattle.yasna_base.specs.Element.{Primitively, AnyEnclosed}
use Rattle.yasna_base.specs.Grammar.{Grammar, Members}
use Rattle.yasna_base.specs.Identifier.{class_number, end_tag, BeginsWithTag, AtEnd, nothing, end}
use Rattle.yasna_base.specs.Octets.{octets_segmentation}
use Rattle.yasna_base.specs.Optional.{OptionOf, AnyOption, SameOption}
use Rattle.yasna_base.specs.Sequence.{PartOf, NoParts, AnyPart, AnyNothing, SamePart, SameNothing}
use Rattle.yasna_base.specs.Text.{IsStringOf}
use Rattle.yasna_base.proofs.ExplicitTags.{enclosed_begins}
use Rattle.yasna_base.proofs.Choice.{AreUnambiguous, choice}
use Rattle.yasna_base.proofs.Coding.{primitively_begins, parts_contents}
use Rattle.yasna_base.proofs.Segmented.{segmented_begins}
use Rattle.yasna_base.proofs.Default.{default_before}
use Rattle.yasna_base.proofs.Identifier.{begins_once, begins_some, begins_with}
use Rattle.yasna_base.proofs.Optional.{IsUnambiguousBefore, part_before, option_before}
use Rattle.yasna_base.proofs.Sequence.{no_part}

-- the test passes a tag and itself
is_itself : (t u : Tag) → t ≡ u → is_tag t u ≡ true
is_itself t u e =
    let c = ap (λ (x : Tag). class_number x.tag_class) e in
    let n = ap (λ (x : Tag). x.tag_number) e in
    and_from (nat_eq (class_number t.tag_class) (class_number u.tag_class)) (nat_eq t.tag_number u.tag_number)
    (eq-eqb (class_number t.tag_class) (class_number u.tag_class) c) (eq-eqb t.tag_number u.tag_number n)

-- tags that the test distinguishes differ
pub tags_differ : (t u : Tag) → is_tag t u ≡ false → t ≡ u → ⊥
tags_differ t u e f = true≢false (sym (is_itself t u f) ∙ e)

found : (t : Tag) (us : List Tag) (s : List ℕ) → BeginsWithTag t s → BeginsWithOne us s → list_any (is_tag t) us ≡ true
found t [] s x y = absurd y
found t (u ∷ us) s x (inl y) = ap (λ b. b || list_any (is_tag t) us) (is_itself t u (begins_once t u s x y))
found t (u ∷ us) s x (inr y) = after (is_tag t u) (found t us s x y)
  where
    after : (b : Bool) → list_any (is_tag t) us ≡ true → b || list_any (is_tag t) us ≡ true
    after true e = refl
    after false e = e

not_both : (b : Bool) → b ≡ true → not b ≡ true → ⊥
not_both true e f = absurd (cc)
not_both false e f = absurd (cc)

-- no bytes begin with a tag of each of two lists that share none
pub no_common_tag : (ts us : List Tag) (s : List ℕ) → share_none ts us ≡ true → BeginsWithOne ts s → BeginsWithOne us s → ⊥
no_common_tag [] us s e x y = x
no_common_tag (t ∷ ts) us s e (inl x) y =
    not_both (list_any (is_tag t) us) (found t us s x y) (and_parts (not (list_any (is_tag t) us)) (share_none ts us) e).0
no_common_tag (t ∷ ts) us s e (inr x) y = no_common_tag ts us s (and_parts (not (list_any (is_tag t) us)) (share_none ts us) e).1 x y

-- bytes that go on begin as they did
one_with : (ts : List Tag) (s r : List ℕ) → BeginsWithOne ts s → BeginsWithOne ts (s ++ r)
one_with [] s r x = x
one_with (t ∷ ts) s r (inl x) = inl (begins_with t s r x)
one_with (t ∷ ts) s r (inr x) = inr (one_with ts s r x)

-- a tag of one list is among more
one_before : (ts us : List Tag) (s : List ℕ) → BeginsWithOne ts s → BeginsWithOne (ts ++ us) s
one_before [] us s x = absurd x
one_before (t ∷ ts) us s (inl x) = inl x
one_before (t ∷ ts) us s (inr x) = inr (one_before ts us s x)

one_after : (ts us : List Tag) (s : List ℕ) → BeginsWithOne us s → BeginsWithOne (ts ++ us) s
one_after [] us s x = x
one_after (t ∷ ts) us s x = inr (one_after ts us s x)

-- what begins with a tag isn't at its end, where the end's own tag isn't shared
not_ended : (ts us : List Tag) (s : List ℕ) → share_none ts (end_tag ∷ us) ≡ true → BeginsWithOne ts s → AtEnd s → ⊥
not_ended ts us s e x (nothing f) = some ts x f
  where
    some : (vs : List Tag) → BeginsWithOne vs s → s ≡ [] → ⊥
    some [] y g = y
    some (v ∷ vs) (inl y) g = omega (arith, begins_some v s y, ap length g)
    some (v ∷ vs) (inr y) g = some vs y g
not_ended ts us s e x (end f) = no_common_tag ts (end_tag ∷ us) s e x (inl f)

-- members of types that share no tag never begin the same bytes
pub are_unambiguous : {ts us : List Tag} {S Q : Members} → BeginsBy ts S → BeginsBy us Q → share_none ts us ≡ true → AreUnambiguous S Q
are_unambiguous {ts} {us} x y none m n k b c r s p q e =
    no_common_tag ts us (c ++ s) none (subst (BeginsWithOne ts) e (one_with ts b r (x.at m n b p))) (one_with us c s (y.at m k c q))

-- contents that begin with other tags never begin as members of S do; the end of contents has a tag too, which none of S has
pub unambiguous_before : {ts us : List Tag} {S Q : Members} → BeginsBy ts S → ContentsBeginBy us Q → share_none ts (end_tag ∷ us) ≡ true → IsUnambiguousBefore S Q
unambiguous_before {ts} {us} x y none m n k b c r s i p q e = by_rest (y.at m k c s i q)
  where
    here : BeginsWithOne ts (c ++ s)
    here = subst (BeginsWithOne ts) e (one_with ts b r (x.at m n b p))

    by_rest : BeginsWithOne us (c ++ s) ⊎ AtEnd (c ++ s) → ⊥
    by_rest (inl z) = no_common_tag ts (end_tag ∷ us) (c ++ s) none here (inr z)
    by_rest (inr z) = not_ended ts us (c ++ s) none here z

-- a type of one tag begins by it
pub begins_by_tag : {S : Members} (t : Tag) → ((m : BERMode) (n : ℕ) (b : List ℕ) → S m n b → BeginsWithTag t b) → BeginsBy (t ∷ []) S
begins_by_tag t f = record { at = λ m n b p. inl (f m n b p) }

-- primitive elements begin by their tag
pub primitive_by_tag : {A : Type 0} (W : BERMode → A → List ℕ → Type 0) (t : Tag) → BeginsBy (t ∷ []) (Any (Primitively W t))
primitive_by_tag W t = begins_by_tag t (primitively_begins W t)

-- strings, whole or in pieces
pub segmented_by_tag : {A : Type 0} (k : Segmentation A) (t : Tag) → BeginsBy (t ∷ []) (Any (IsSegmented k t))
segmented_by_tag k t = begins_by_tag t (λ m n b p. segmented_begins k n m t p.0 b p.1)

-- strings of text begin by their tag
pub string_by_tag : {A : Type 0} (K : BERMode → A → List ℕ → Type 0) (t : Tag) → BeginsBy (t ∷ []) (Any (IsStringOf K t))
string_by_tag K t = begins_by_tag t (λ m n b p. segmented_begins octets_segmentation n m t p.1.octets b p.1.string)

-- elements around contents begin by their tag
pub enclosed_by_tag : (S : Members) (t : Tag) → BeginsBy (t ∷ []) (AnyEnclosed S t)
enclosed_by_tag S t = begins_by_tag t (enclosed_begins S t)

-- a CHOICE begins by the tags of its types
pub either_by_tags : {ts us : List Tag} {S Q : Members} → BeginsBy ts S → BeginsBy us Q → BeginsBy (ts ++ us) (AnyEither S Q)
either_by_tags {ts} {us} {S} {Q} x y = record { at = by_type }
  where
    by_type : (m : BERMode) (n : ℕ) (b : List ℕ) → AnyEither S Q m n b → BeginsWithOne (ts ++ us) b
    by_type m n b (inl p) = one_before ts us b (x.at m n b p)
    by_type m n b (inr p) = one_after ts us b (y.at m n b p)

-- where no part is left there is no tag
pub nothing_by_tags : ContentsBeginBy [] AnyNothing
nothing_by_tags = record { at = λ m n c s i p. inr (subst AtEnd (sym (ap (λ z. z ++ s) p)) i) }

-- a part, whatever is after it, begins by its own tags
pub part_by_tags : {ts : List Tag} {S : Members} (R : Members) → BeginsBy ts S → ContentsBeginBy ts (AnyPart S R)
part_by_tags {ts} R x = record {
  at = λ m n c s i p. inl (one_with ts c s (subst (BeginsWithOne ts) (sym p.joined) (one_with ts p.prefix p.rest (x.at m n p.prefix p.here))));
}

-- one that may be omitted begins by them or as what is after it
pub left_out_by_tags : {ts us : List Tag} {S Q : Members} → BeginsBy ts S → ContentsBeginBy us Q →
    ContentsBeginBy (ts ++ us) (AnyPart (AnyOption S) Q)
left_out_by_tags {ts} {us} {S} {Q} x y =
    record {
      at = λ m n c s i p.
          subst (λ z. BeginsWithOne (ts ++ us) (z ++ s) ⊎ AtEnd (z ++ s)) (sym p.joined) (by_prefix m n p.prefix p.rest s i p.here p.more);
    }
  where
    after_part : (s : List ℕ) → BeginsWithOne us s ⊎ AtEnd s → BeginsWithOne (ts ++ us) s ⊎ AtEnd s
    after_part s (inl z) = inl (one_after ts us s z)
    after_part s (inr z) = inr z

    by_prefix : (m : BERMode) (n : ℕ) (prefix rest s : List ℕ) → AtEnd s → AnyOption S m n prefix → Q m n rest →
        BeginsWithOne (ts ++ us) ((prefix ++ rest) ++ s) ⊎ AtEnd ((prefix ++ rest) ++ s)
    by_prefix m n prefix rest s i (inl p) q =
        inl (one_with (ts ++ us) (prefix ++ rest) s (one_with (ts ++ us) prefix rest (one_before ts us prefix (x.at m n prefix p))))
    by_prefix m n prefix rest s i (inr p) q =
        subst (λ z. BeginsWithOne (ts ++ us) ((z ++ rest) ++ s) ⊎ AtEnd ((z ++ rest) ++ s)) (sym p) (after_part (rest ++ s) (y.at m n rest s i q))

-- a CHOICE of types that share no tag satisfies the laws of reading
pub choice_with_tags : {A V : Type 0} {ts us : List Tag} {E : A → A → Type 0} {F : V → V → Type 0} {B : Grammar A} {C : Grammar V} {S Q : Members} →
    CodingByTags ts E B S → CodingByTags us F C Q → share_none ts us ≡ true →
    CodingByTags (ts ++ us) (SameEither E F) (EitherOf B C) (AnyEither S Q)
choice_with_tags x y none =
    record { coding = choice x.coding y.coding (are_unambiguous x.begins y.begins none); begins = either_by_tags x.begins y.begins }

-- no part keeps them
pub end_with_tags : ContentsByTags [] SameNothing NoParts AnyNothing
end_with_tags = record { coding = parts_contents no_part; begins = nothing_by_tags }

-- a part and contents after it keep them
pub part_with_tags : {A V : Type 0} {ts us : List Tag} {E : A → A → Type 0} {F : V → V → Type 0} {B : Grammar A} {C : Grammar V} {S Q : Members} →
    CodingByTags ts E B S → ContentsByTags us F C Q → ContentsByTags ts (SamePart E F) (PartOf B C) (AnyPart S Q)
part_with_tags {Q} x y = record { coding = part_before x.coding y.coding; begins = part_by_tags Q x.begins }

-- an optional part satisfies the laws of contents where none of its tags is after it
pub option_with_tags : {A V : Type 0} {ts us : List Tag} {E : A → A → Type 0} {F : V → V → Type 0} {B : Grammar A} {C : Grammar V} {S Q : Members} →
    CodingByTags ts E B S → ContentsByTags us F C Q → share_none ts (end_tag ∷ us) ≡ true →
    ContentsByTags (ts ++ us) (SamePart (SameOption E) F) (PartOf (OptionOf B) C) (AnyPart (AnyOption S) Q)
option_with_tags x y none = record {
  coding = option_before x.coding (unambiguous_before x.begins y.begins none) y.coding;
  begins = left_out_by_tags x.begins y.begins;
}

-- a part with a default satisfies the laws of contents where none of its tags is after it
pub default_with_tags : {A V : Type 0} {ts us : List Tag} {E : A → A → Type 0} {F : V → V → Type 0} {B : Grammar A} {C : Grammar V} {S Q : Members}
    (is : A → Bool) (d : A) → DetectsDefault E is d → CodingByTags ts E B S → ContentsByTags us F C Q → share_none ts (end_tag ∷ us) ≡ true →
    ContentsByTags (ts ++ us) (SamePart E F) (PartOf (DefaultOf is B) C) (AnyPart (AnyOption S) Q)
default_with_tags is d detects x y none = record {
  coding = default_before is d detects x.coding (unambiguous_before x.begins y.begins none) y.coding;
  begins = left_out_by_tags x.begins y.begins;
}
