-- A CHOICE that is read by the next tag (X.690, 8.13), of any number of types: the tag determines which of them is there.
use Rattle.std.proofs.Common.{◌≡◌, ℕ, List, [], ◌∷◌, ◌++◌, Result, Ok, Err, Bool, true, false, not, ◌||◌, inl, inr, refl, sym, subst, ap₂}
use Rattle.std.proofs.lemmas.Bool.{eqb-true, and_parts}
use Rattle.std.specs.List.{list_any, AllByRecursion}
use Rattle.std.specs.Prelude.{◌⊎◌, ◌&&◌, nat_eq}
use Rattle.yasna_base.specs.declared.error.ASN1Error.{ASN1Error}
use Rattle.yasna_base.specs.declared.mode.BERMode.{BERMode}
use Rattle.yasna_base.specs.declared.tag.Tag.{Tag}
use Rattle.yasna_base.specs.Beginnings.{BeginsWithOne, BeginsBy, is_tag, share_none}
use Rattle.yasna_base.specs.Choice.{AnyEither}
use Rattle.yasna_base.specs.Coding.{IsCoding}
use Rattle.yasna_base.specs.Grammar.{Grammar, Members}
use Rattle.yasna_base.specs.Identifier.{BeginsWithTag, class_number}
use Rattle.yasna_base.proofs.Identifier.{class_same}
use Rattle.yasna_bytes.specs.Rejection.{IsElsewhere}
use Rattle.yasna_reader.specs.ByTags.{AreElsewhere, NoMatchElsewhere, DecodesByTags}
use Rattle.yasna_reader.specs.Lookahead.{FindsTag}
use Rattle.yasna_reader.specs.State.{Reading, IsFresh}
use Rattle.yasna_reader.proofs.NextTag.{found_none, found_other}
use Rattle.yasna_reader.proofs.PartsByTags.{differs_from}
use Rattle.yasna_reader.proofs.Tuples.{seen, chosen}

-- of the members of T that s begins with, each is one of S
pub record OnlyOf (s : Reading) (T S : Members) : Type 0 where
  pub only : (b r : List ℕ) → s.left ≡ b ++ r → T s.mode s.levels b → S s.mode s.levels b

-- a CHOICE is itself
pub the_choice : (s : Reading) (T : Members) → OnlyOf s T T
the_choice s T = record { only = λ b r e x. x }

none_begins : (t : Tag) (us : List Tag) (s b r : List ℕ) → AllByRecursion (λ u. t ≡ u → ⊥) us → BeginsWithTag t s → s ≡ b ++ r →
    BeginsWithOne us b → ⊥
none_begins t [] s b r x found e y = y
none_begins t (u ∷ us) s b r x found e (inl y) = found_other t u s b r found y e x.0
none_begins t (u ∷ us) s b r x found e (inr y) = none_begins t us s b r x.1 found e y

-- where a tag was found that none of the other types has, the first type is there
pub first_of : {us : List Tag} {S Q T : Members} (t : Tag) (s : Reading) → BeginsWithTag t s.left → BeginsBy us Q →
    share_none (t ∷ []) us ≡ true → OnlyOf s T (AnyEither S Q) → OnlyOf s T S
first_of {us} {S} {Q} t s found x none choice = record { only = λ b r e y. by_type b r e (choice.only b r e y) }
  where
    by_type : (b r : List ℕ) → s.left ≡ b ++ r → AnyEither S Q s.mode s.levels b → S s.mode s.levels b
    by_type b r e (inl z) = z
    by_type b r e (inr z) = absurd
        (none_begins t us s.left b r (differs_from t us (and_parts (not (list_any (is_tag t) us)) true none).0) found e (x.at s.mode s.levels b z))

-- where a tag was found that the first type doesn't have, one of the other types has it
pub others_of : {ts : List Tag} {S Q T : Members} (t : Tag) (s : Reading) → BeginsWithTag t s.left → BeginsBy ts S →
    AllByRecursion (λ u. t ≡ u → ⊥) ts → OnlyOf s T (AnyEither S Q) → OnlyOf s T Q
others_of {ts} {S} {Q} t s found x none choice = record { only = λ b r e y. by_type b r e (choice.only b r e y) }
  where
    by_type : (b r : List ℕ) → s.left ≡ b ++ r → AnyEither S Q s.mode s.levels b → Q s.mode s.levels b
    by_type b r e (inl z) = absurd (none_begins t ts s.left b r none found e (x.at s.mode s.levels b z))
    by_type b r e (inr z) = z

-- whether each of some tags is among others
abbrev pub are_among : List Tag → List Tag → Bool
are_among [] ts = true
are_among (u ∷ us) ts = list_any (is_tag u) ts && are_among us ts

same_tag : (t u : Tag) → is_tag t u ≡ true → t ≡ u
same_tag t u e =
    let y = and_parts (nat_eq (class_number t.tag_class) (class_number u.tag_class)) (nat_eq t.tag_number u.tag_number) e in
    let c = class_same t.tag_class u.tag_class (eqb-true (class_number t.tag_class) (class_number u.tag_class) y.0) in
    let n = eqb-true t.tag_number u.tag_number y.1 in
    ap₂ (λ d k. record { tag_class = d; tag_number = k }) c n

either_true : (a b : Bool) → a || b ≡ true → (a ≡ true) ⊎ (b ≡ true)
either_true true b e = inl refl
either_true false b e = inr e

elsewhere_too : (u : Tag) (ts : List Tag) (s : List ℕ) → list_any (is_tag u) ts ≡ true → AreElsewhere ts s → AreElsewhere (u ∷ []) s
elsewhere_too u [] s e x = absurd (cc)
elsewhere_too u (t ∷ ts) s e x = elim (either_true (is_tag u t) (list_any (is_tag u) ts) e) [
  | inl f ↦ (subst (λ z. IsElsewhere z s) (sym (same_tag u t f)) x.0, tt)
  | inr f ↦ elsewhere_too u ts s f x.1
]

-- where none of some tags is there, none of those among them is
pub fewer_elsewhere : (us ts : List Tag) (s : List ℕ) → are_among us ts ≡ true → AreElsewhere ts s → AreElsewhere us s
fewer_elsewhere [] ts s e x = tt
fewer_elsewhere (u ∷ us) ts s e x =
    let y = and_parts (list_any (is_tag u) ts) (are_among us ts) e in
    ((elsewhere_too u ts s y.0 x).0, fewer_elsewhere us ts s y.1 x)

no_match_so : {A U : Type 0} (f : A → U) (us ts : List Tag) → are_among us ts ≡ true → (s : Reading) (x : Result A ASN1Error) (s' : Reading) →
    NoMatchElsewhere us s x s' → NoMatchElsewhere ts s (seen f x) s'
no_match_so f us ts among s (Ok v) s' q = tt
no_match_so f us ts among s (Err e) s' q = λ a. q (fewer_elsewhere us ts s.left among a)

-- what reads the type that is there reads the CHOICE: its values are by f for those of the choice
pub chosen_by_tags : {A U : Type 0} {us ts : List Tag} {may_allocate more : Bool} {B : Grammar A} {S : Members} {D : Grammar U} {T : Members} (f : A → U) →
    ((m : BERMode) (n : ℕ) (v : A) (b : List ℕ) → B m n v b → D m n (f v) b) → (may_allocate ≡ true → more ≡ true) → are_among us ts ≡ true →
    (s : Reading) → OnlyOf s T S → (x : Result A ASN1Error) (s' : Reading) → DecodesByTags us may_allocate B S s x s' →
    DecodesByTags ts more D T s (seen f x) s'
chosen_by_tags {us} {ts} {may_allocate} {more} {B} {S} {D} {T} f obeys up among s only x s' h =
    record { decodes = chosen may_allocate more B S D T f obeys up s only.only x s' h.decodes; no_match = no_match_so f us ts among s x s' h.no_match }

-- where no tag was found none of the types is there
pub found_none_by_tags : {A : Type 0} {E : A → A → Type 0} {B : Grammar A} {S : Members} (ts : List Tag) (may_allocate : Bool) →
    IsCoding E B S → (s : Reading) → IsFresh s → (e : ASN1Error) → FindsTag s.left (Err e) → DecodesByTags ts may_allocate B S s (Err e) s
found_none_by_tags ts may_allocate laws s fresh e h = record { decodes = found_none may_allocate laws s fresh e h; no_match = λ a. (refl, h.0) }
