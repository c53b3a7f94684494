-- DEFAULT of a part whose value is none for the default (X.690, 8.9.3 and 11.5).
use Rattle.std.proofs.Common.{◌≡◌, ◌≤◌, ◌∷◌, ◌++◌, [], ℕ, List, Bool, true, not, Option, Some, None, inl, inr, refl, sym, ap}
use Rattle.std.proofs.lemmas.Bool.{and_parts}
use Rattle.std.specs.Prelude.{◌&&◌, if◌then◌else◌}
use Rattle.yasna_base.specs.declared.mode.BERMode.{BERMode}
use Rattle.yasna_base.specs.declared.mode.BERMode.TheVariants.{Ber, Der, Cer}
use Rattle.yasna_base.specs.declared.tag.Tag.{Tag}
use Rattle.yasna_base.specs.Beginnings.{share_none}
use Rattle.yasna_base.specs.Canonical.{IsWritten}
use Rattle.yasna_base.specs.Coding.{IsSame, IsMeaning, IsCoding, IsContentsCoding, Any}
use Rattle.yasna_base.specs.Default.{DefaultOf, default_encoding, default_depth, default_can, default_fits}
use Rattle.yasna_base.specs.Exact.{Fitting, IsExact, part_fits, option_fits}
use Rattle.yasna_base.specs.Grammar.{Grammar, Members, Encoding, Depth}
use Rattle.yasna_base.specs.Identifier.{end_tag}
use Rattle.yasna_base.specs.Optional.{OptionOf, AnyOption, SameOption, option_encoding, option_depth, option_can}
use Rattle.yasna_base.specs.Sequence.{PartOf, AnyPart, SamePart, part_encoding, part_depth, part_can}
use Rattle.yasna_base.proofs.Beginnings.{unambiguous_before, left_out_by_tags}
use Rattle.yasna_base.proofs.Default.{default_exact, default_written}
use Rattle.yasna_base.proofs.Exact.{part_exact, option_exact}
use Rattle.yasna_base.proofs.Optional.{some_not_empty, left_out_before, option_written}
use Rattle.yasna_base.proofs.Sequence.{part_written}
use Rattle.yasna_reader.proofs.DefaultParts.{narrower_contents}
use Rattle.yasna_reader.proofs.PartsByTags.{left_out_in_range}
use Rattle.yasna_notation.specs.Elements.{option_joined}
use Rattle.yasna_notation.specs.Notation.{IsNotation}
use Rattle.yasna_notation.specs.Parts.{AreParts, all_known, is_known}
use Rattle.yasna_notation_constraints.specs.TestedDefaults.{IsOneValue, one_alike, true_not_false}

-- DER and CER accept no value that is the default
abbrev pub accepted_by : {A : Type 0} → (A → Bool) → BERMode → A → Bool
accepted_by is Ber v = true
accepted_by is Der v = not (is v)
accepted_by is Cer v = not (is v)

-- values are equal if both are the default, or both are there and equal
abbrev pub SameOrDefault : {A : Type 0} → (A → Bool) → (A → A → Type 0) → Option A → Option A → Type 0
SameOrDefault is E (Some v) (Some w) = E v w
SameOrDefault is E (Some v) None = is v ≡ true
SameOrDefault is E None (Some w) = is w ≡ true
SameOrDefault is E None None = Unit {0}

-- none is an omitted part, and the default if it is there is one too
abbrev pub OrDefaultOf : {A : Type 0} → (A → Bool) → Grammar A → Grammar (Option A)
OrDefaultOf is B = OptionOf (DefaultOf is B)

abbrev pub or_default_encoding : {A : Type 0} → (A → Bool) → Encoding A → Encoding (Option A)
or_default_encoding is f = option_encoding (default_encoding is f)

abbrev pub or_default_depth : {A : Type 0} → (A → Bool) → Depth A → Depth (Option A)
or_default_depth is f = option_depth (default_depth is f)

-- the default can always be written
abbrev pub or_default_can : {A : Type 0} → (A → Bool) → (A → Type 0) → Option A → Type 0
or_default_can is c = option_can (default_can is c)

abbrev pub or_default_fits : {A : Type 0} → (A → Bool) → Fitting A → Fitting (Option A)
or_default_fits is F = option_fits (default_fits is F)

module _ {A : Type 0} {E : A → A → Type 0} (is : A → Bool) (one : IsOneValue E is) (equal : IsSame E) where
  reflexive : (v : Option A) → SameOrDefault is E v v
  reflexive (Some v) = equal.reflexive v
  reflexive None = tt

  symmetric : (v w : Option A) → SameOrDefault is E v w → SameOrDefault is E w v
  symmetric (Some v) (Some w) e = equal.symmetric v w e
  symmetric (Some v) None e = e
  symmetric None (Some w) e = e
  symmetric None None e = tt

  transitive : (u v w : Option A) → SameOrDefault is E u v → SameOrDefault is E v w → SameOrDefault is E u w
  transitive (Some u) (Some v) (Some w) d e = equal.transitive u v w d e
  transitive (Some u) (Some v) None d e = (one v e u).1 d
  transitive (Some u) None (Some w) d e = (one w e u).0 d
  transitive (Some u) None None d e = d
  transitive None (Some v) (Some w) d e = (one v d w).1 (equal.symmetric v w e)
  transitive None (Some v) None d e = tt
  transitive None None (Some w) d e = e
  transitive None None None d e = tt

  or_default_same : IsSame (SameOrDefault is E)
  or_default_same = record { reflexive = reflexive; symmetric = symmetric; transitive = transitive }

module _ {A : Type 0} {E : A → A → Type 0} {B : Grammar A} {S : Members} (is : A → Bool) (one : IsOneValue E is) (x : IsCoding E B S) where
  among_options : (m : BERMode) (n : ℕ) (v : Option A) (b : List ℕ) → OrDefaultOf is B m n v b → AnyOption S m n b
  among_options m n (Some v) b (inl p) = inl (x.meaning.among m n v b p.0)
  among_options m n (Some v) b (inr p) = inr p.0
  among_options m n None b p = inr p

  one_value : (m : BERMode) (n k : ℕ) (v w : Option A) (b : List ℕ) → OrDefaultOf is B m n v b → OrDefaultOf is B m k w b → SameOrDefault is E v w
  one_value m n k (Some v) (Some w) b (inl p) (inl q) = x.meaning.exact m n k v w b p.0 q.0
  one_value m n k (Some v) (Some w) b (inl p) (inr q) = absurd (some_not_empty x m n v b p.0 q.0)
  one_value m n k (Some v) (Some w) b (inr p) (inl q) = absurd (some_not_empty x m k w b q.0 p.0)
  one_value m n k (Some v) (Some w) b (inr p) (inr q) = (one w q.1 v).0 p.1
  one_value m n k (Some v) None b (inl p) q = absurd (some_not_empty x m n v b p.0 q)
  one_value m n k (Some v) None b (inr p) q = p.1
  one_value m n k None (Some w) b p (inl q) = absurd (some_not_empty x m k w b q.0 p)
  one_value m n k None (Some w) b p (inr q) = q.1
  one_value m n k None None b p q = tt

  within_more : (m : BERMode) (n k : ℕ) (v : Option A) (b : List ℕ) → n ≤ k → OrDefaultOf is B m n v b → OrDefaultOf is B m k v b
  within_more m n k (Some v) b below (inl p) = inl (x.meaning.deeper m n k v b below p.0, p.1)
  within_more m n k (Some v) b below (inr p) = inr p
  within_more m n k None b below p = p

  or_default_meaning : IsMeaning (SameOrDefault is E) (OrDefaultOf is B) (AnyOption S)
  or_default_meaning = record {
    equal = or_default_same is one x.meaning.equal;
    among = among_options;
    exact = one_value;
    deeper = within_more;
  }

  -- what encodes some value of such a part is an encoding of the type, or nothing
  pub some_or_default : (m : BERMode) (n : ℕ) (b : List ℕ) → Any (OrDefaultOf is B) m n b → AnyOption S m n b
  some_or_default m n b p = among_options m n p.0 b p.1

  -- as `some_or_default`, with contents after the part
  pub fewer : (Q : Members) (m : BERMode) (n : ℕ) (b : List ℕ) → AnyPart (Any (OrDefaultOf is B)) Q m n b → AnyPart (AnyOption S) Q m n b
  fewer Q m n b p = record { prefix = p.prefix; rest = p.rest; joined = p.joined; here = some_or_default m n p.prefix p.here; more = p.more }

among_parts : {A V : Type 0} {F : V → V → Type 0} (D : Grammar (Option A)) {C : Grammar V} {Q : Members} → IsContentsCoding F C Q →
    (m : BERMode) (n : ℕ) (v : Option A × V) (b : List ℕ) → PartOf D C m n v b → AnyPart (Any D) Q m n b
among_parts D y m n v b p =
    record { prefix = p.prefix; rest = p.rest; joined = p.joined; here = (v.0, p.here); more = y.meaning.among m n v.1 p.rest p.more }

module _ {A : Type 0} {E : A → A → Type 0} {B : Grammar A} {f : Encoding A} {Fits : Fitting A} {Can : A → Type 0} (is : A → Bool)
    (alike : (v w : A) → E v w → is v ≡ is w) (x : IsExact E B f Fits Can) where
  all_but_same : IsExact (SameOption E) (OrDefaultOf is B) (or_default_encoding is f) (or_default_fits is Fits) (or_default_can is Can)
  all_but_same = option_exact (default_exact is alike x)

  alike_written : (m : BERMode) (v w : Option A) → SameOrDefault is E v w → (or_default_encoding is f m v ≡ or_default_encoding is f m w)
      × (or_default_can is Can v → or_default_can is Can w) × ((n : ℕ) → or_default_fits is Fits m n v → or_default_fits is Fits m n w)
  alike_written m (Some v) (Some w) e = all_but_same.same m (Some v) (Some w) e
  alike_written m (Some v) None e = (ap (λ b. if b then [] else (f m v)) e, λ can. tt, λ n fits. tt)
  alike_written m None (Some w) e = (
    sym (ap (λ b. if b then [] else (f m w)) e),
    λ can other. absurd (true_not_false (is w) e other),
    λ n fits other. absurd (true_not_false (is w) e other),
  )
  alike_written m None None e = (refl, λ can. tt, λ n fits. tt)

  -- such a part satisfies the laws of a canonical mode
  or_default_exact : IsExact (SameOrDefault is E) (OrDefaultOf is B) (or_default_encoding is f) (or_default_fits is Fits) (or_default_can is Can)
  or_default_exact = record {
    in_bytes = all_but_same.in_bytes;
    holds = all_but_same.holds;
    only = all_but_same.only;
    can = all_but_same.can;
    same = alike_written;
  }

module _ {A : Type 0} {E : A → A → Type 0} {B : Grammar A} {f : Encoding A} {k : Depth A} {Can : A → Type 0} (is : A → Bool)
    (alike : (v w : A) → E v w → is v ≡ is w) (x : IsWritten E B f k Can) where
  but_same : IsWritten (SameOption E) (OrDefaultOf is B) (or_default_encoding is f) (or_default_depth is k) (or_default_can is Can)
  but_same = option_written (default_written is alike x)

  written_alike : (m : BERMode) (v w : Option A) → SameOrDefault is E v w → (or_default_encoding is f m v ≡ or_default_encoding is f m w)
      × (or_default_can is Can v → or_default_can is Can w) × (or_default_depth is k m v ≡ or_default_depth is k m w)
  written_alike m (Some v) (Some w) e = but_same.same m (Some v) (Some w) e
  written_alike m (Some v) None e = (ap (λ b. if b then [] else (f m v)) e, λ can. tt, ap (λ b. if b then 0 else (k m v)) e)
  written_alike m None (Some w) e = (
    sym (ap (λ b. if b then [] else (f m w)) e),
    λ can other. absurd (true_not_false (is w) e other),
    sym (ap (λ b. if b then 0 else (k m w)) e),
  )
  written_alike m None None e = (refl, λ can. tt, refl)

  -- and those of writing
  or_default_written : IsWritten (SameOrDefault is E) (OrDefaultOf is B) (or_default_encoding is f) (or_default_depth is k) (or_default_can is Can)
  or_default_written = record { has = but_same.has; any = but_same.any; same = written_alike }

module _ {A V : Type 0} {tags_known others : Bool} {ts us : List Tag} {E : A → A → Type 0} {F : V → V → Type 0} {B : Grammar A} {C : Grammar V}
    {S Q : Members} {f : Encoding A} {g : Encoding V} {P : Fitting A} {R : Fitting V} {c : A → Type 0} {d : V → Type 0} {a b : Bool}
    (is : A → Bool) (one : IsOneValue E is) where
  -- such a part, and others
  pub or_default_laws : (a ≡ true → IsNotation tags_known ts E B S f P c) → (b ≡ true → AreParts others us F C Q g R d) →
      all_known tags_known others (share_none ts (end_tag ∷ us)) (a && b) ≡ true →
      AreParts true (ts ++ us) (SamePart (SameOrDefault is E) F) (PartOf (OrDefaultOf is B) C) (AnyPart (Any (OrDefaultOf is B)) Q)
      (part_encoding (or_default_encoding is f) g) (part_fits (or_default_fits is P) R) (part_can (or_default_can is c) d)
  or_default_laws first rest e =
      let t = is_known tags_known others (share_none ts (end_tag ∷ us)) (a && b) e in
      let z = and_parts a b t.all_unambiguous in
      let x = first z.0 in
      let y = rest z.1 in
      let begins = x.begins t.is_first_known in
      let after = y.begins t.is_rest_known in
      let options = left_out_by_tags begins after in
      let range = left_out_in_range x.coding y.in_range in
      record {
        coding = narrower_contents (fewer is one x.coding Q) (among_parts (OrDefaultOf is B) y.coding)
            (left_out_before x.coding (or_default_meaning is one x.coding) (unambiguous_before begins after t.none_shared) y.coding);
        begins = λ _. record { at = λ m n h s i p. options.at m n h s i (fewer is one x.coding Q m n h p) };
        in_range = record { at = λ m n h s u i p. range.at m n h s u i (fewer is one x.coding Q m n h p) };
        joined = λ m n h p. option_joined x.single y.joined m n h (fewer is one x.coding Q m n h p);
        exact = part_exact (or_default_exact is (one_alike is one x.coding.meaning.equal) x.exact) y.exact;
      }

-- the laws of writing of such a part, and others
pub or_default_writes : {A V : Type 0} {ts : List Tag} {E : A → A → Type 0} {F : V → V → Type 0} {B : Grammar A} {C : Grammar V} {S : Members}
    {f : Encoding A} {g : Encoding V} {k : Depth A} {l : Depth V} {P : Fitting A} {c : A → Type 0} {d : V → Type 0} {a b : Bool} (is : A → Bool) →
    IsOneValue E is → (tags_known others none : Bool) → (a ≡ true → IsWritten E B f k c) → (b ≡ true → IsWritten F C g l d) →
    (a ≡ true → IsNotation tags_known ts E B S f P c) → all_known tags_known others none (a && b) ≡ true →
    IsWritten (SamePart (SameOrDefault is E) F) (PartOf (OrDefaultOf is B) C) (part_encoding (or_default_encoding is f) g)
    (part_depth (or_default_depth is k) l) (part_can (or_default_can is c) d)
or_default_writes {a = a} {b = b} is one tags_known others none first rest laws all =
    let z = and_parts a b (is_known tags_known others none (a && b) all).all_unambiguous in
    part_written (or_default_written is (one_alike is one (laws z.0).coding.meaning.equal) (first z.0)) (rest z.1)
