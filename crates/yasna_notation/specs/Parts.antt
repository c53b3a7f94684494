-- The laws of parts of a SEQUENCE made as the notation says, and what reading them does.
use Rattle.std.proofs.Common.{◌≡◌, ◌∷◌, ◌++◌, [], ℕ, List, Bool, true, false, not, Option, Result, subst, refl}
use Rattle.std.proofs.lemmas.Bool.{and_parts, eq-eqb, eqb-true}
use Rattle.std.specs.Prelude.{◌&&◌, nat_eq}
use Rattle.std.specs.Bool.{beq}
use Rattle.yasna_base.specs.declared.error.ASN1Error.{ASN1Error}
use Rattle.yasna_base.specs.declared.mode.BERMode.{BERMode}
use Rattle.yasna_base.specs.declared.tag.Tag.{Tag}
use Rattle.yasna_base.specs.Beginnings.{share_none, ContentsBeginBy}
use Rattle.yasna_base.specs.Canonical.{Always, enclosed_encoding}
use Rattle.yasna_base.specs.Coding.{IsContentsCoding, Any}
use Rattle.yasna_base.specs.Default.{DetectsDefault, DefaultOf, default_encoding, default_can, default_fits}
use Rattle.yasna_base.specs.Exact.{Fitting, IsExact, enclosed_fits, part_fits, nothing_fits, option_fits}
use Rattle.yasna_base.specs.Element.{Enclosed, AnyEnclosed}
use Rattle.yasna_base.specs.Grammar.{Grammar, Members, Encoding}
use Rattle.yasna_base.specs.Identifier.{end_tag, BeginsWithTag}
use Rattle.yasna_base.specs.Optional.{OptionOf, AnyOption, SameOption, option_encoding, option_can}
use Rattle.yasna_base.specs.Sequence.{PartOf, NoParts, AnyPart, AnyNothing, SamePart, SameNothing, part_encoding, part_can, nothing_encoding}
use Rattle.yasna_base.specs.UnderTags.{IsExactUnderTags}
use Rattle.yasna_base.proofs.Beginnings.{unambiguous_before, nothing_by_tags, part_by_tags, left_out_by_tags}
use Rattle.yasna_base.proofs.Coding.{enclosed, parts_contents}
use Rattle.yasna_base.proofs.Default.{default_alike, default_exact}
use Rattle.yasna_base.proofs.Exact.{enclosed_exact, exact_along, no_part_exact, part_exact, option_exact}
use Rattle.yasna_base.proofs.Optional.{part_before, option_before, unambiguous_before_nothing}
use Rattle.yasna_base.proofs.Sequence.{no_part}
use Rattle.yasna_reader.specs.Decodes.{DecodesContents}
use Rattle.yasna_reader.specs.Parse.{unless_failed}
use Rattle.yasna_reader.specs.State.{Reading}
use Rattle.yasna_reader.proofs.DefaultParts.{default_part_with_tags, less}
use Rattle.yasna_reader.proofs.PartsByTags.{BeginInRange, end_in_range, part_in_range, left_out_in_range}
use Rattle.yasna_notation.specs.Elements.{AreJoined, nothing_joined, part_joined, option_joined}
use Rattle.yasna_notation.specs.Notation.{IsNotation}

-- contents that satisfy the laws of reading and of a canonical mode, are elements, and begin by the tags where that is known
pub record AreParts {A : Type 0} (tags_known : Bool) (ts : List Tag) (E : A → A → Type 0) (C : Grammar A) (S : Members) (encoding : Encoding A)
    (Fits : Fitting A) (Can : A → Type 0) : Type 0 where
  pub coding : IsContentsCoding E C S
  pub begins : tags_known ≡ true → ContentsBeginBy ts S
  pub in_range : BeginInRange S
  pub joined : AreJoined S
  pub exact : IsExact E C encoding Fits Can

-- what reading them up to their end does: the sticky error is what it returns, if there is one
abbrev pub ReadsContents : {A : Type 0} → Bool → Grammar A → Members → Reading → Result A ASN1Error → Reading → Type 0
ReadsContents may_allocate C S s r s' = DecodesContents may_allocate C S s (unless_failed s'.failed r) s'

-- references to values are written as the values are: these encodings are one, and what can be written by the first can be by the second
pub record WrittenAlike {A : Type 0} (encoding : Encoding A) (can : A → Type 0) (encoding_by : Encoding A) (can_by : A → Type 0) : Type 0 where
  pub encodings : (m : BERMode) (v : A) → encoding m v ≡ encoding_by m v
  pub allowed : (v : A) → can v → can_by v

-- whether the tags of a part and of what follows it are known and distinguish them, and all else is unambiguous
abbrev pub all_known : Bool → Bool → Bool → Bool → Bool
all_known first others none unambiguous = first && (others && (none && unambiguous))

pub record AllKnown (first others none unambiguous : Bool) : Type 0 where
  pub is_first_known : first ≡ true
  pub is_rest_known : others ≡ true
  pub none_shared : none ≡ true
  pub all_unambiguous : unambiguous ≡ true

pub is_known : (a b c d : Bool) → all_known a b c d ≡ true → AllKnown a b c d
is_known a b c d e =
    let x = and_parts a (b && (c && d)) e in
    let y = and_parts b (c && d) x.1 in
    let z = and_parts c d y.1 in
    record { is_first_known = x.0; is_rest_known = y.0; none_shared = z.0; all_unambiguous = z.1 }

-- no parts
pub no_parts : AreParts true [] SameNothing NoParts AnyNothing nothing_encoding nothing_fits Always
no_parts = record {
  coding = parts_contents no_part;
  begins = λ _. nothing_by_tags;
  in_range = record { at = λ m n c s u i q b. end_in_range s u i (subst (λ z. BeginsWithTag u (z ++ s)) q b) };
  joined = nothing_joined;
  exact = no_part_exact;
}

module _ {A V : Type 0} {tags_known others : Bool} {ts us : List Tag} {E : A → A → Type 0} {F : V → V → Type 0} {B : Grammar A} {C : Grammar V}
    {S Q : Members} {f : Encoding A} {g : Encoding V} {P : Fitting A} {R : Fitting V} {c : A → Type 0} {d : V → Type 0} {a b : Bool} where
  -- a part that is there, and others
  pub part_laws : (a ≡ true → IsNotation tags_known ts E B S f P c) → (b ≡ true → AreParts others us F C Q g R d) → a && b ≡ true →
      AreParts tags_known ts (SamePart E F) (PartOf B C) (AnyPart S Q) (part_encoding f g) (part_fits P R) (part_can c d)
  part_laws first rest e =
      let z = and_parts a b e in
      let x = first z.0 in
      let y = rest z.1 in
      record {
        coding = part_before x.coding y.coding;
        begins = λ t. part_by_tags Q (x.begins t);
        in_range = part_in_range Q x.coding;
        joined = part_joined x.single y.joined;
        exact = part_exact x.exact y.exact;
      }

  -- one that may be omitted, and others
  pub option_laws : (a ≡ true → IsNotation tags_known ts E B S f P c) → (b ≡ true → AreParts others us F C Q g R d) →
      all_known tags_known others (share_none ts (end_tag ∷ us)) (a && b) ≡ true →
      AreParts true (ts ++ us) (SamePart (SameOption E) F) (PartOf (OptionOf B) C) (AnyPart (AnyOption S) Q) (part_encoding (option_encoding f) g)
      (part_fits (option_fits P) R) (part_can (option_can c) d)
  option_laws first rest e =
      let t = is_known tags_known others (share_none ts (end_tag ∷ us)) (a && b) e in
      let z = and_parts a b t.all_unambiguous in
      let x = first z.0 in
      let y = rest z.1 in
      let begins = x.begins t.is_first_known in
      let after = y.begins t.is_rest_known in
      record {
        coding = option_before x.coding (unambiguous_before begins after t.none_shared) y.coding;
        begins = λ _. left_out_by_tags begins after;
        in_range = left_out_in_range x.coding y.in_range;
        joined = option_joined x.single y.joined;
        exact = part_exact (option_exact x.exact) y.exact;
      }

module _ {A V : Type 0} {tags_known others : Bool} {ts us : List Tag} {E : A → A → Type 0} {F : V → V → Type 0} {B : Grammar A} {C : Grammar V}
    {S Q : Members} {f : Encoding A} {g : Encoding V} {P : Fitting A} {R : Fitting V} {c : A → Type 0} {d : V → Type 0} {a b : Bool} where
  -- one that is a default where it is omitted, and others
  pub default_laws : (is : A → Bool) (default : A) → DetectsDefault E is default → (a ≡ true → IsNotation tags_known ts E B S f P c) →
      (b ≡ true → AreParts others us F C Q g R d) → all_known tags_known others (share_none ts (end_tag ∷ us)) (a && b) ≡ true →
      AreParts true (ts ++ us) (SamePart E F) (PartOf (DefaultOf is B) C) (AnyPart (Any (DefaultOf is B)) Q) (part_encoding (default_encoding is f) g)
      (part_fits (default_fits is P) R) (part_can (default_can is c) d)
  default_laws is default detects first rest e =
      let t = is_known tags_known others (share_none ts (end_tag ∷ us)) (a && b) e in
      let z = and_parts a b t.all_unambiguous in
      let x = first z.0 in
      let y = rest z.1 in
      let begins = x.begins t.is_first_known in
      let after = y.begins t.is_rest_known in
      let k = default_part_with_tags is default detects (record { coding = x.coding; begins = begins })
      (record { coding = y.coding; begins = after }) t.none_shared in
      let range = left_out_in_range x.coding y.in_range in
      record {
        coding = k.coding;
        begins = λ _. k.begins;
        in_range = record { at = λ m n c s u i b. range.at m n c s u i (less Q is x.coding m n c b) };
        joined = λ m n c b. option_joined x.single y.joined m n c (less Q is x.coding m n c b);
        exact = part_exact (default_exact is (default_alike is default detects x.coding.meaning.equal) x.exact) y.exact;
      }

-- contents whose values represent those of others satisfy the laws
pub contents_along : {U A : Type 0} {E : A → A → Type 0} {C : Grammar A} {S : Members} (f : U → A) → IsContentsCoding E C S →
    IsContentsCoding (λ v w. E (f v) (f w)) (λ m n v c. C m n (f v) c) S
contents_along f x = record {
  meaning = record {
    equal = record {
      reflexive = λ v. x.meaning.equal.reflexive (f v);
      symmetric = λ v w. x.meaning.equal.symmetric (f v) (f w);
      transitive = λ u v w. x.meaning.equal.transitive (f u) (f v) (f w);
    };
    among = λ m n v. x.meaning.among m n (f v);
    exact = λ m n k v w. x.meaning.exact m n k (f v) (f w);
    deeper = λ m n k v. x.meaning.deeper m n k (f v);
  };
  ends = x.ends;
}

-- parts whose values represent those of others satisfy the laws
pub represented_parts : {U A : Type 0} {tags_known : Bool} {ts : List Tag} {E : A → A → Type 0} {C : Grammar A} {S : Members} {encoding : Encoding A}
    {Fits : Fitting A} {Can : A → Type 0} (f : U → A) → AreParts tags_known ts E C S encoding Fits Can →
    AreParts tags_known ts (λ v w. E (f v) (f w)) (λ m n v c. C m n (f v) c) S (λ m v. encoding m (f v)) (λ m n v. Fits m n (f v)) (λ v. Can (f v))
represented_parts f x = record {
  coding = contents_along f x.coding;
  begins = x.begins;
  in_range = x.in_range;
  joined = x.joined;
  exact = exact_along f x.exact;
}

-- a part at the end that may be omitted
pub last_part_laws : {A : Type 0} {tags_known : Bool} {ts : List Tag} {E : A → A → Type 0} {B : Grammar A} {S : Members} {f : Encoding A} {P : Fitting A}
    {c : A → Type 0} → IsNotation tags_known ts E B S f P c →
    AreParts tags_known (ts ++ []) (λ v w. SamePart (SameOption E) SameNothing (v, tt) (w, tt)) (λ m n v c. PartOf (OptionOf B) NoParts m n (v, tt) c)
    (AnyPart (AnyOption S) AnyNothing) (λ m v. part_encoding (option_encoding f) nothing_encoding m (v, tt))
    (λ m n v. part_fits (option_fits P) nothing_fits m n (v, tt)) (λ v. part_can (option_can c) Always (v, tt {0}))
last_part_laws {A} x =
    let paired : Option A → Option A × Unit {0} = λ v. (v, tt) in
    record {
      coding = contents_along paired (option_before x.coding (unambiguous_before_nothing x.coding) (parts_contents no_part));
      begins = λ t. left_out_by_tags (x.begins t) nothing_by_tags;
      in_range = left_out_in_range x.coding no_parts.in_range;
      joined = option_joined x.single nothing_joined;
      exact = exact_along paired (part_exact (option_exact x.exact) no_part_exact);
    }

-- a SEQUENCE of parts
pub sequence_laws : {A : Type 0} {tags_known : Bool} {ts : List Tag} {E : A → A → Type 0} {C : Grammar A} {S : Members} {encoding : Encoding A} {Fits : Fitting A}
    {Can : A → Type 0} → AreParts tags_known ts E C S encoding Fits Can →
    IsExactUnderTags E (λ t. Enclosed C t) (λ t. AnyEnclosed S t) (λ t. enclosed_encoding encoding t) (enclosed_fits Fits) Can
sequence_laws x t not_end range = (enclosed t not_end x.coding, enclosed_exact t range x.exact)

-- the defaults FALSE and n
pub detects_false : DetectsDefault (λ v w. v ≡ w) not false
detects_false true = (λ e. absurd (cc), λ e. absurd (cc))
detects_false false = (λ e. refl, λ e. refl)

pub tests_false : (v : Bool) → not v ≡ beq v false
tests_false true = refl
tests_false false = refl

pub detects_number : (n : ℕ) → DetectsDefault (λ v w. v ≡ w) (λ v. nat_eq v n) n
detects_number n v = (λ e. eqb-true v n e, λ e. eq-eqb v n e)
