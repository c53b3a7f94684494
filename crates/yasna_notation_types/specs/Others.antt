-- The rest of an extensible SEQUENCE after parts that may be omitted: elements of which the first has none of their tags (X.680, 25 and 52).
use Rattle.std.proofs.Common.{◌≡◌, ◌∷◌, ◌++◌, [], ◌<◌, ◌^◌, ◌||◌, ◌&&◌, ℕ, List, Bool, true, false, not, None, Vec, inl, inr, refl, sym, ap, subst}
use Rattle.std.proofs.lemmas.Bool.{and_parts}
use Rattle.std.specs.Global.{Global}
use Rattle.std.specs.List.{list_any, AllByRecursion, concat}
use Rattle.std.specs.Prelude.{◌⊎◌}
use Rattle.yasna_base.specs.declared.mode.BERMode.{BERMode}
use Rattle.yasna_base.specs.declared.tag.Tag.{Tag}
use Rattle.yasna_base.specs.Beginnings.{is_tag}
use Rattle.yasna_base.specs.Coding.{IsCoding, IsContentsCoding, Any}
use Rattle.yasna_base.specs.Default.{DetectsDefault, DefaultOf, default_encoding, default_can, default_fits}
use Rattle.yasna_base.specs.Exact.{Fitting, IsExact, elements_fit, part_fits, option_fits}
use Rattle.yasna_base.specs.Grammar.{Grammar, Members, Encoding}
use Rattle.yasna_base.specs.Identifier.{AtEnd, BeginsWithTag, StartsElement}
use Rattle.yasna_base.specs.Optional.{OptionOf, AnyOption, SameOption, option_encoding, option_can}
use Rattle.yasna_base.specs.Pieces.{Each}
use Rattle.yasna_base.specs.Sequence.{PartOf, AnyPart, SamePart, part_encoding, part_can}
use Rattle.yasna_base.specs.SequenceOf.{ElementsOf, AnyElements, elements_encoding}
use Rattle.yasna_base.proofs.Default.{default_alike, default_exact}
use Rattle.yasna_base.proofs.Exact.{part_exact, option_exact}
use Rattle.yasna_base.proofs.Identifier.{begins_with}
use Rattle.yasna_base.proofs.Optional.{option_before}
use Rattle.yasna_reader.proofs.DefaultParts.{default_part_before, less}
use Rattle.yasna_reader.proofs.PartsByTags.{left_out_in_range}
use Rattle.yasna_reader.specs.State.{Reading}
use Rattle.yasna_notation.specs.Elements.{option_joined}
use Rattle.yasna_notation.specs.Notation.{IsNotation}
use Rattle.yasna_notation.specs.Parts.{AreParts}
use Rattle.yasna_notation_types.specs.Beginning.{BeginWithin, StartsWithin, none_may, first_may, within_unambiguous, possible_begins}
use Rattle.yasna_notation_types.specs.Rest.{rest_laws}

-- c begins with none of the tags
abbrev pub BeginsOther : List Tag → List ℕ → Type 0
BeginsOther ts c = (t : Tag) → BeginsWithTag t c → list_any (is_tag t) ts ≡ false

-- contents that begin with none of the tags
abbrev pub OthersOf : {A : Type 0} → List Tag → Grammar A → Grammar A
OthersOf ts C m n v c = C m n v c × BeginsOther ts c

abbrev pub AnyOthers : List Tag → Members → Members
AnyOthers ts S m n c = S m n c × BeginsOther ts c

abbrev pub others_fit : {A : Type 0} → List Tag → Encoding A → Fitting A → Fitting A
others_fit ts encoding F m n v = F m n v × BeginsOther ts (encoding m v)

others_contents : {A : Type 0} {E : A → A → Type 0} {C : Grammar A} {S : Members} (ts : List Tag) → IsContentsCoding E C S →
    IsContentsCoding E (OthersOf ts C) (AnyOthers ts S)
others_contents ts x = record {
  meaning = record {
    equal = x.meaning.equal;
    among = λ m n v c p. (x.meaning.among m n v c p.0, p.1);
    exact = λ m n k v w c p q. x.meaning.exact m n k v w c p.0 q.0;
    deeper = λ m n k v c below p. (x.meaning.deeper m n k v c below p.0, p.1);
  };
  ends = λ m n k b c r s i j p q e. x.ends m n k b c r s i j p.0 q.0 e;
}

others_exact : {A : Type 0} {E : A → A → Type 0} {C : Grammar A} {encoding : Encoding A} {Fits : Fitting A} {Can : A → Type 0} (ts : List Tag) →
    IsExact E C encoding Fits Can → IsExact E (OthersOf ts C) encoding (others_fit ts encoding Fits) Can
others_exact ts x = record {
  in_bytes = λ m n v f short. x.in_bytes m n v f.0 short;
  holds = λ m o n v h f short. (x.holds m o n v h f.0 short, f.1);
  only = λ m n v c h p. let y = x.only m n v c h p.0 in (y.0, (y.1, subst (BeginsOther ts) y.0 p.1));
  can = λ m n v f. x.can m n v f.0;
  same = λ m v w e. let y = x.same m v w e in (y.0, y.1, λ n f. (y.2 n f.0, subst (BeginsOther ts) y.0 f.1));
}

-- elements begin with an identifier, or there are none
pub elements_start : {A : Type 0} {E : A → A → Type 0} {B : Grammar A} {S : Members} → IsCoding E B S → (m : BERMode) (n : ℕ) (c : List ℕ) →
    AnyElements S m n c → (c ≡ []) ⊎ StartsElement c
elements_start {S = S} x m n c p = by_pieces p.0 p.1.pieces c p.1.joined p.1.each
  where
    by_pieces : (us : List (Unit {0})) (bs : List (List ℕ)) (c : List ℕ) → c ≡ concat bs → Each (λ v. S m n) us bs → (c ≡ []) ⊎ StartsElement c
    by_pieces us [] c j e = inl j
    by_pieces [] (d ∷ ds) c j e = absurd e
    by_pieces (u ∷ us) (d ∷ ds) c j e =
        let o = x.opens m n d e.0 in
        inr (subst StartsElement (sym j)
        (record { tag = o.tag; in_range = o.in_range; not_end = o.not_end; begins = begins_with o.tag d (concat ds) o.begins }))

-- the test for other tags
abbrev pub other_may : List Tag → Tag → Bool
other_may ts t = not (list_any (is_tag t) ts)

pub others_within : {A : Type 0} {E : A → A → Type 0} {B : Grammar A} {S : Members} (ts : List Tag) → IsCoding E B S →
    BeginWithin (other_may ts) (AnyOthers ts (AnyElements S))
others_within {S = S} ts x = record { at = λ m n c s i p. by_start c s i p.1 (elements_start x m n c p.0) }
  where
    by_start : (c s : List ℕ) → AtEnd s → BeginsOther ts c → (c ≡ []) ⊎ StartsElement c → StartsWithin (other_may ts) (c ++ s) ⊎ AtEnd (c ++ s)
    by_start c s i other (inl e) = inr (subst AtEnd (sym (ap (λ z. z ++ s) e)) i)
    by_start c s i other (inr o) = inl (record {
      tag = o.tag;
      in_range = o.in_range;
      not_end = o.not_end;
      begins = begins_with o.tag c s o.begins;
      passes = ap not (other o.tag o.begins);
    })

-- the laws of elements of a type, of which the first has none of the tags
pub others_laws : {A : Type 0} {tags_known : Bool} {us : List Tag} {E : A → A → Type 0} {B : Grammar A} {S : Members} {f : Encoding A} {P : Fitting A}
    {c : A → Type 0} (ts : List Tag) → IsNotation tags_known us E B S f P c →
    AreParts false [] (λ (v w : Vec A Global). Each E v.items w.items) (OthersOf ts (λ m n (v : Vec A Global) d. ElementsOf B m n v.items d))
    (AnyOthers ts (AnyElements S)) (λ m (v : Vec A Global). elements_encoding f m v.items)
    (others_fit ts (λ m (v : Vec A Global). elements_encoding f m v.items) (λ m n (v : Vec A Global). elements_fit P m n v.items))
    (λ (v : Vec A Global). AllByRecursion c v.items)
others_laws ts x =
    let y = rest_laws x in
    record {
      coding = others_contents ts y.coding;
      begins = λ e. absurd (cc);
      in_range = record { at = λ m n c s u i p b. y.in_range.at m n c s u i p.0 b };
      joined = λ m n c p. y.joined m n c p.0;
      exact = others_exact ts y.exact;
    }

-- what the test of a part that may be omitted, and of the contents after it, says
pub record PossibleKnown (tags_known none a b : Bool) : Type 0 where
  pub is_known : tags_known ≡ true
  pub none_shared : none ≡ true
  pub first_unambiguous : a ≡ true
  pub others_unambiguous : b ≡ true

pub possible_known : (tags_known none a b : Bool) → tags_known && (none && (a && b)) ≡ true → PossibleKnown tags_known none a b
possible_known tags_known none a b e =
    let u = and_parts tags_known (none && (a && b)) e in
    let w = and_parts none (a && b) u.1 in
    let z = and_parts a b w.1 in
    record { is_known = u.0; none_shared = w.0; first_unambiguous = z.0; others_unambiguous = z.1 }

-- the laws of a part that may be omitted, before contents that begin with other tags
pub possible_laws : {A V : Type 0} {tags_known others : Bool} {ts us : List Tag} {E : A → A → Type 0} {F : V → V → Type 0} {B : Grammar A} {C : Grammar V}
    {S Q : Members} {f : Encoding A} {g : Encoding V} {P : Fitting A} {R : Fitting V} {c : A → Type 0} {d : V → Type 0} {a b : Bool} (may : Tag → Bool) →
    (a ≡ true → IsNotation tags_known ts E B S f P c) → (b ≡ true → AreParts others us F C Q g R d) → (b ≡ true → BeginWithin may Q) →
    tags_known && (none_may may ts && (a && b)) ≡ true →
    AreParts false [] (SamePart (SameOption E) F) (PartOf (OptionOf B) C) (AnyPart (AnyOption S) Q) (part_encoding (option_encoding f) g)
    (part_fits (option_fits P) R) (part_can (option_can c) d)
possible_laws {tags_known = tags_known} {ts = ts} {a = a} {b = b} may first rest within e =
    let t = possible_known tags_known (none_may may ts) a b e in
    let x = first t.first_unambiguous in
    let y = rest t.others_unambiguous in
    record {
      coding = option_before x.coding (within_unambiguous x.coding (x.begins t.is_known) (within t.others_unambiguous) t.none_shared) y.coding;
      begins = λ f. absurd (cc);
      in_range = left_out_in_range x.coding y.in_range;
      joined = option_joined x.single y.joined;
      exact = part_exact (option_exact x.exact) y.exact;
    }

-- whether s begins with one of the tags, if no error is sticky
pub record LooksFor (ts : List Tag) (s : Reading) (b : Bool) : Type 0 where
  pub yes : s.failed ≡ None → b ≡ true → (t : Tag) × BeginsWithTag t s.left × (list_any (is_tag t) ts ≡ true)
  pub no : s.failed ≡ None → b ≡ false → (t : Tag) → t.tag_number < 2 ^ 64 → BeginsWithTag t s.left → list_any (is_tag t) ts ≡ false

-- as `possible_laws`, of a part whose tags are known
pub possible : {A V : Type 0} {others : Bool} {ts us : List Tag} {E : A → A → Type 0} {F : V → V → Type 0} {B : Grammar A} {C : Grammar V}
    {S Q : Members} {f : Encoding A} {g : Encoding V} {P : Fitting A} {R : Fitting V} {c : A → Type 0} {d : V → Type 0} (may : Tag → Bool) →
    none_may may ts ≡ true → IsNotation true ts E B S f P c → AreParts others us F C Q g R d → BeginWithin may Q →
    AreParts false [] (SamePart (SameOption E) F) (PartOf (OptionOf B) C) (AnyPart (AnyOption S) Q) (part_encoding (option_encoding f) g)
    (part_fits (option_fits P) R) (part_can (option_can c) d)
possible may unambiguous first rest within =
    possible_laws {tags_known = true} {a = true} {b = true} may (λ _. first) (λ _. rest) (λ _. within)
    (subst (λ z. true && (z && (true && true)) ≡ true) (sym unambiguous) refl)

-- the laws of a part with a default, before contents that begin with other tags
pub possible_default_laws : {A V : Type 0} {tags_known others : Bool} {ts us : List Tag} {E : A → A → Type 0} {F : V → V → Type 0} {B : Grammar A}
    {C : Grammar V} {S Q : Members} {f : Encoding A} {g : Encoding V} {P : Fitting A} {R : Fitting V} {c : A → Type 0} {d : V → Type 0} {a b : Bool}
    (may : Tag → Bool) (is : A → Bool) (default : A) → DetectsDefault E is default → (a ≡ true → IsNotation tags_known ts E B S f P c) →
    (b ≡ true → AreParts others us F C Q g R d) → (b ≡ true → BeginWithin may Q) → tags_known && (none_may may ts && (a && b)) ≡ true →
    AreParts false [] (SamePart E F) (PartOf (DefaultOf is B) C) (AnyPart (Any (DefaultOf is B)) Q) (part_encoding (default_encoding is f) g)
    (part_fits (default_fits is P) R) (part_can (default_can is c) d)
possible_default_laws {tags_known = tags_known} {ts = ts} {Q = Q} {a = a} {b = b} may is default detects first rest within e =
    let t = possible_known tags_known (none_may may ts) a b e in
    let x = first t.first_unambiguous in
    let y = rest t.others_unambiguous in
    let range = left_out_in_range x.coding y.in_range in
    record {
      coding = default_part_before is default detects x.coding (within_unambiguous x.coding (x.begins t.is_known) (within t.others_unambiguous) t.none_shared) y.coding;
      begins = λ f. absurd (cc);
      in_range = record { at = λ m n c s u i b. range.at m n c s u i (less Q is x.coding m n c b) };
      joined = λ m n c b. option_joined x.single y.joined m n c (less Q is x.coding m n c b);
      exact = part_exact (default_exact is (default_alike is default detects x.coding.meaning.equal) x.exact) y.exact;
    }

pub possible_default_begins : {A : Type 0} {tags_known : Bool} {ts : List Tag} {E : A → A → Type 0} {B : Grammar A} {S : Members} {f : Encoding A} {P : Fitting A}
    {c : A → Type 0} {a b : Bool} (none : Bool) (may : Tag → Bool) (is : A → Bool) {Q : Members} → (a ≡ true → IsNotation tags_known ts E B S f P c) →
    (b ≡ true → BeginWithin may Q) → tags_known && (none && (a && b)) ≡ true →
    BeginWithin (λ t. first_may tags_known ts t || may t) (AnyPart (Any (DefaultOf is B)) Q)
possible_default_begins {tags_known = tags_known} {a = a} {b = b} none may is {Q} first rest e =
    let z = possible_begins {a = a} {b = b} none may first rest e in
    let y = possible_known tags_known none a b e in
    record { at = λ m n c s i p. z.at m n c s i (less Q is (first y.first_unambiguous).coding m n c p) }

pub possible_default : {A V : Type 0} {others : Bool} {ts us : List Tag} {E : A → A → Type 0} {F : V → V → Type 0} {B : Grammar A} {C : Grammar V}
    {S Q : Members} {f : Encoding A} {g : Encoding V} {P : Fitting A} {R : Fitting V} {c : A → Type 0} {d : V → Type 0} (may : Tag → Bool) (is : A → Bool)
    (default : A) → DetectsDefault E is default → none_may may ts ≡ true → IsNotation true ts E B S f P c → AreParts others us F C Q g R d →
    BeginWithin may Q →
    AreParts false [] (SamePart E F) (PartOf (DefaultOf is B) C) (AnyPart (Any (DefaultOf is B)) Q) (part_encoding (default_encoding is f) g)
    (part_fits (default_fits is P) R) (part_can (default_can is c) d)
possible_default may is default detects unambiguous first rest within =
    possible_default_laws {tags_known = true} {a = true} {b = true} may is default detects (λ _. first) (λ _. rest) (λ _. within)
    (subst (λ z. true && (z && (true && true)) ≡ true) (sym unambiguous) refl)

-- with which tags a part that may be omitted, or the contents after it, may begin
abbrev pub possible_may : List Tag → (Tag → Bool) → Tag → Bool
possible_may ts may t = first_may true ts t || may t

pub possible_within : {A : Type 0} {ts : List Tag} {E : A → A → Type 0} {B : Grammar A} {S : Members} {f : Encoding A} {P : Fitting A}
    {c : A → Type 0} (may : Tag → Bool) {Q : Members} → IsNotation true ts E B S f P c → BeginWithin may Q →
    BeginWithin (possible_may ts may) (AnyPart (AnyOption S) Q)
possible_within may first rest = possible_begins {tags_known = true} {a = true} {b = true} true may (λ _. first) (λ _. rest) refl
