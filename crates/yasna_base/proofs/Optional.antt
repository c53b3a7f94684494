-- The laws of a SEQUENCE of which parts may be omitted: of its contents, which are read up to their end.
use Rattle.std.proofs.Common.{◌≡◌, ℕ, ◌^◌, ◌<◌, ◌≤◌, List, [], ◌++◌, length, Option, Some, None, inl, inr, refl, ap, ap₂, ◌∙◌, sym, arith, append_assoc, subst}
use Rattle.yasna_base.specs.declared.mode.BERMode.{BERMode}
use Rattle.yasna_base.specs.declared.mode.BERMode.TheVariants.{Ber, Der}
use Rattle.yasna_base.specs.Canonical.{IsCanonicalMode, HoldsEncoding, IsWritten}
use Rattle.yasna_base.specs.Choice.{AnyEither}
use Rattle.yasna_base.specs.Coding.{IsMeaning, IsCoding, IsContentsCoding}
use Rattle.yasna_base.specs.Digits.{IsBytes}
use Rattle.yasna_base.specs.Element.{Enclosed, AnyEnclosed}
use Rattle.yasna_base.specs.Grammar.{Grammar, Members, Encoding, Depth}
use Rattle.yasna_base.specs.Identifier.{AtEnd, nothing}
use Rattle.yasna_base.specs.Optional.{OptionOf, AnyOption, SameOption, option_encoding, option_depth, option_can}
use Rattle.yasna_base.specs.Sequence.{sequence_tag, PartOf, AnyPart, AnyNothing, SamePart}
use Rattle.yasna_base.proofs.Choice.{AreUnambiguous}
use Rattle.yasna_base.proofs.Coding.{along, enclosed}
use Rattle.yasna_base.proofs.Identifier.{not_end}
use Rattle.yasna_base.proofs.Lists.{append_same}
use Rattle.yasna_base.proofs.Pieces.{starts_not_end}

-- contents in Q that go up to an end never begin as members of S
abbrev pub IsUnambiguousBefore : Members → Members → Type 0
IsUnambiguousBefore S Q = (m : BERMode) (n k : ℕ) (b c r s : List ℕ) → AtEnd s → S m n b → Q m k c → b ++ r ≡ c ++ s → ⊥

-- where nothing follows, the end of contents never begins as a member of S
pub unambiguous_before_nothing : {A : Type 0} {E : A → A → Type 0} {B : Grammar A} {S : Members} → IsCoding E B S → IsUnambiguousBefore S AnyNothing
unambiguous_before_nothing x m n k b c r s i p q e = starts_not_end b r s (x.opens m n b p) i (sym (e ∙ ap (λ z. z ++ s) q))

-- nor where a part follows that never begins the same bytes
pub unambiguous_before_part : {S Q : Members} (R : Members) → AreUnambiguous S Q → IsUnambiguousBefore S (AnyPart Q R)
unambiguous_before_part R unambiguous m n k b c r s i p q e =
    unambiguous m n k b q.prefix r (q.rest ++ s) p q.here (e ∙ ap (λ z. z ++ s) q.joined ∙ append_assoc q.prefix q.rest s)

-- nor where that part may be omitted, and what follows it doesn't
pub unambiguous_before_option : {S Q R : Members} → AreUnambiguous S Q → IsUnambiguousBefore S R → IsUnambiguousBefore S (AnyPart (AnyOption Q) R)
unambiguous_before_option {S} {Q} {R} unambiguous after m n k b c r s i p q e = by_prefix q.here
  where
    by_prefix : AnyOption Q m k q.prefix → ⊥
    by_prefix (inl x) = unambiguous m n k b q.prefix r (q.rest ++ s) p x (e ∙ ap (λ z. z ++ s) q.joined ∙ append_assoc q.prefix q.rest s)
    by_prefix (inr x) = after m n k b q.rest r s i p q.more (e ∙ ap (λ z. z ++ s) (q.joined ∙ ap (λ z. z ++ q.rest) x))

-- nor does a CHOICE of types as neither of which they begin
pub either_unambiguous_before : {S Q R : Members} → IsUnambiguousBefore S R → IsUnambiguousBefore Q R → IsUnambiguousBefore (AnyEither S Q) R
either_unambiguous_before one other m n k b c r s i (inl p) q e = one m n k b c r s i p q e
either_unambiguous_before one other m n k b c r s i (inr p) q e = other m n k b c r s i p q e

-- what follows two prefixes that are the same is the same
after : (prefix x other y : List ℕ) → prefix ≡ other → prefix ++ x ≡ other ++ y → x ≡ y
after prefix x other y f e = append_same other x y (sym (ap (λ z. z ++ x) f) ∙ e)

whole_of : (prefix rest r other more s b c : List ℕ) → b ≡ prefix ++ rest → c ≡ other ++ more → b ++ r ≡ c ++ s → prefix ++ (rest ++ r) ≡ other ++ (more ++ s)
whole_of prefix rest r other more s b c f g e =
    sym (append_assoc prefix rest r) ∙ sym (ap (λ z. z ++ r) f) ∙ e ∙ ap (λ z. z ++ s) g ∙ append_assoc other more s

-- a part and contents after it have one meaning, where the same bytes fall into them in one way
parts_meaning : {A V : Type 0} {E : A → A → Type 0} {F : V → V → Type 0} {B : Grammar A} {C : Grammar V}
    {S Q : Members} → IsMeaning E B S → IsMeaning F C Q →
    ((m : BERMode) (n k : ℕ) (b : List ℕ) (p : AnyPart S Q m n b) (q : AnyPart S Q m k b) → (p.prefix ≡ q.prefix) × (p.rest ≡ q.rest)) →
    IsMeaning (SamePart E F) (PartOf B C) (AnyPart S Q)
parts_meaning {E} {F} {B} {C} {S} {Q} x y once = record {
  equal = record {
    reflexive = λ v. (x.equal.reflexive v.0, y.equal.reflexive v.1);
    symmetric = λ v w e. (x.equal.symmetric v.0 w.0 e.0, y.equal.symmetric v.1 w.1 e.1);
    transitive = λ u v w d e. (x.equal.transitive u.0 v.0 w.0 d.0 e.0, y.equal.transitive u.1 v.1 w.1 d.1 e.1);
  };
  among = among;
  exact = λ m n k v w b p q.
      let same = once m n k b (among m n v b p) (among m k w b q) in (
        x.exact m n k v.0 w.0 q.prefix (subst (λ c. B m n v.0 c) same.0 p.here) q.here,
        y.exact m n k v.1 w.1 q.rest (subst (λ c. C m n v.1 c) same.1 p.more) q.more,
      );
  deeper = λ m n k v c below p. record {
    prefix = p.prefix;
    rest = p.rest;
    joined = p.joined;
    here = x.deeper m n k v.0 p.prefix below p.here;
    more = y.deeper m n k v.1 p.rest below p.more;
  };
}
  where
    among : (m : BERMode) (n : ℕ) (v : _) (b : List ℕ) → PartOf B C m n v b → AnyPart S Q m n b
    among m n v b p = record {
      prefix = p.prefix;
      rest = p.rest;
      joined = p.joined;
      here = x.among m n v.0 p.prefix p.here;
      more = y.among m n v.1 p.rest p.more;
    }

-- a part and contents after it satisfy the laws of contents, where the same bytes fall into them in one way
parts_coding : {A V : Type 0} {E : A → A → Type 0} {F : V → V → Type 0} {B : Grammar A} {C : Grammar V}
    {S Q : Members} → IsMeaning E B S → IsMeaning F C Q →
    ((m : BERMode) (n k : ℕ) (b c r s : List ℕ) → AtEnd r → AtEnd s → (p : AnyPart S Q m n b) (q : AnyPart S Q m k c) → b ++ r ≡ c ++ s →
    (p.prefix ≡ q.prefix) × (p.rest ≡ q.rest)) → IsContentsCoding (SamePart E F) (PartOf B C) (AnyPart S Q)
parts_coding x y once = record {
  meaning = parts_meaning x y (λ m n k b p q. once m n k b b [] [] (nothing refl) (nothing refl) p q refl);
  ends = λ m n k b c r s i j p q e.
      let same = once m n k b c r s i j p q e in
      p.joined ∙ ap₂ (λ y z. y ++ z) same.0 same.1 ∙ sym q.joined;
}

rests_same : {V : Type 0} {F : V → V → Type 0} {C : Grammar V} {Q : Members} → IsContentsCoding F C Q →
    (m : BERMode) (n k : ℕ) (prefix rest r other more s : List ℕ) → AtEnd r → AtEnd s → Q m n rest → Q m k more → prefix ≡ other →
    prefix ++ (rest ++ r) ≡ other ++ (more ++ s) → (prefix ≡ other) × (rest ≡ more)
rests_same y m n k prefix rest r other more s i j p q f e = (f, y.ends m n k rest more r s i j p q (after prefix (rest ++ r) other (more ++ s) f e))

-- a part and contents after it satisfy the laws of contents
pub part_before : {A V : Type 0} {E : A → A → Type 0} {F : V → V → Type 0} {B : Grammar A} {C : Grammar V} {S Q : Members} →
    IsCoding E B S → IsContentsCoding F C Q → IsContentsCoding (SamePart E F) (PartOf B C) (AnyPart S Q)
part_before x y = parts_coding x.meaning y.meaning (λ m n k b c r s i j p q e.
    let whole = whole_of p.prefix p.rest r q.prefix q.rest s b c p.joined q.joined e in
    rests_same y m n k p.prefix p.rest r q.prefix q.rest s i j p.more q.more
    (x.prefix_free m n k p.prefix q.prefix (p.rest ++ r) (q.rest ++ s) p.here q.here whole) whole)

module _ {A O V : Type 0} {E : A → A → Type 0} {G : O → O → Type 0} {F : V → V → Type 0} {B : Grammar A} {D : Grammar O} {C : Grammar V}
    {S Q : Members} (x : IsCoding E B S) (meaning : IsMeaning G D (AnyOption S)) (unambiguous : IsUnambiguousBefore S Q) (y : IsContentsCoding F C Q) where
  prefixes_same : (m : BERMode) (n k : ℕ) (prefix rest r other more s : List ℕ) → AtEnd r → AtEnd s → AnyOption S m n prefix → AnyOption S m k other →
      Q m n rest → Q m k more → prefix ++ (rest ++ r) ≡ other ++ (more ++ s) → prefix ≡ other
  prefixes_same m n k prefix rest r other more s i j (inl f) (inl g) p q e = x.prefix_free m n k prefix other (rest ++ r) (more ++ s) f g e
  prefixes_same m n k prefix rest r other more s i j (inl f) (inr g) p q e =
      absurd (unambiguous m n k prefix more (rest ++ r) s j f q (e ∙ ap (λ z. z ++ (more ++ s)) g))
  prefixes_same m n k prefix rest r other more s i j (inr f) (inl g) p q e =
      absurd (unambiguous m k n other rest (more ++ s) r i g p (sym e ∙ ap (λ z. z ++ (rest ++ r)) f))
  prefixes_same m n k prefix rest r other more s i j (inr f) (inr g) p q e = f ∙ sym g

  -- what may be omitted, whatever that means, and contents after it that never begin as it does satisfy the laws of contents
  pub left_out_before : IsContentsCoding (SamePart G F) (PartOf D C) (AnyPart (AnyOption S) Q)
  left_out_before = parts_coding meaning y.meaning (λ m n k b c r s i j p q e.
      let whole = whole_of p.prefix p.rest r q.prefix q.rest s b c p.joined q.joined e in
      rests_same y m n k p.prefix p.rest r q.prefix q.rest s i j p.more q.more
      (prefixes_same m n k p.prefix p.rest r q.prefix q.rest s i j p.here q.here p.more q.more whole) whole)

module _ {A : Type 0} {E : A → A → Type 0} {B : Grammar A} {S : Members} (x : IsCoding E B S) where
  option_reflexive : (v : Option A) → SameOption E v v
  option_reflexive (Some v) = x.meaning.equal.reflexive v
  option_reflexive None = tt

  option_symmetric : (v w : Option A) → SameOption E v w → SameOption E w v
  option_symmetric (Some v) (Some w) e = x.meaning.equal.symmetric v w e
  option_symmetric (Some v) None e = absurd e
  option_symmetric None (Some w) e = absurd e
  option_symmetric None None e = tt

  option_transitive : (u v w : Option A) → SameOption E u v → SameOption E v w → SameOption E u w
  option_transitive (Some u) (Some v) (Some w) d e = x.meaning.equal.transitive u v w d e
  option_transitive (Some u) (Some v) None d e = absurd e
  option_transitive (Some u) None w d e = absurd d
  option_transitive None (Some v) w d e = absurd d
  option_transitive None None w d e = e

  option_among : (m : BERMode) (n : ℕ) (v : Option A) (b : List ℕ) → OptionOf B m n v b → AnyOption S m n b
  option_among m n (Some v) b p = inl (x.meaning.among m n v b p)
  option_among m n None b p = inr p

  -- no encoding is empty
  pub some_not_empty : (m : BERMode) (n : ℕ) (v : A) (b : List ℕ) → B m n v b → b ≡ [] → ⊥
  some_not_empty m n v b p e = starts_not_end b [] [] (x.opens m n b (x.meaning.among m n v b p)) (nothing refl) (sym (ap (λ z. z ++ []) e))

  option_exact : (m : BERMode) (n k : ℕ) (v w : Option A) (b : List ℕ) → OptionOf B m n v b → OptionOf B m k w b → SameOption E v w
  option_exact m n k (Some v) (Some w) b p q = x.meaning.exact m n k v w b p q
  option_exact m n k (Some v) None b p q = some_not_empty m n v b p q
  option_exact m n k None (Some w) b p q = some_not_empty m k w b q p
  option_exact m n k None None b p q = tt

  option_deeper : (m : BERMode) (n k : ℕ) (v : Option A) (b : List ℕ) → n ≤ k → OptionOf B m n v b → OptionOf B m k v b
  option_deeper m n k (Some v) b below p = x.meaning.deeper m n k v b below p
  option_deeper m n k None b below p = p

  option_meaning : IsMeaning (SameOption E) (OptionOf B) (AnyOption S)
  option_meaning = record {
    equal = record { reflexive = option_reflexive; symmetric = option_symmetric; transitive = option_transitive };
    among = option_among;
    exact = option_exact;
    deeper = option_deeper;
  }

-- a part that may be omitted, and contents after it that never begin as it does, satisfy the laws of contents
pub option_before : {A V : Type 0} {E : A → A → Type 0} {F : V → V → Type 0} {B : Grammar A} {C : Grammar V} {S Q : Members} →
    IsCoding E B S → IsUnambiguousBefore S Q → IsContentsCoding F C Q →
    IsContentsCoding (SamePart (SameOption E) F) (PartOf (OptionOf B) C) (AnyPart (AnyOption S) Q)
option_before x unambiguous y = left_out_before x (option_meaning x) unambiguous y

-- a type whose values represent contents satisfies the laws of reading as a SEQUENCE
pub sequence : {U A : Type 0} {E : A → A → Type 0} {C : Grammar A} {S : Members} (f : U → A) →
    IsContentsCoding E C S → IsCoding (λ v w. E (f v) (f w)) (λ m n v b. Enclosed C sequence_tag m n (f v) b) (AnyEnclosed S sequence_tag)
sequence f x = along f (enclosed sequence_tag (not_end 16 (λ e. omega arith)) x)

module _ {A : Type 0} {E : A → A → Type 0} {B : Grammar A} {encoding : Encoding A} {depth : Depth A} {Can : A → Type 0} (x : IsWritten E B encoding depth Can) where
  option_bytes : (m : BERMode) (v : Option A) → option_can Can v → length (option_encoding encoding m v) < 2 ^ 64 → IsBytes (option_encoding encoding m v)
  option_bytes m (Some v) can short = x.has.in_bytes m v can short
  option_bytes m None can short = tt

  option_holds : (m o : BERMode) (n : ℕ) (v : Option A) → HoldsEncoding m o → option_can Can v → option_depth depth m v ≤ n →
      length (option_encoding encoding m v) < 2 ^ 64 → OptionOf B o n v (option_encoding encoding m v)
  option_holds m o n (Some v) h can level short = x.has.holds m o n v h can level short
  option_holds m o n None h can level short = refl

  option_only : (m : BERMode) (n : ℕ) (v : Option A) (b : List ℕ) → IsCanonicalMode m → OptionOf B m n v b →
      (b ≡ option_encoding encoding m v) × option_can Can v × (option_depth depth m v ≤ n)
  option_only m n (Some v) b h p = x.has.only m n v b h p
  option_only m n None b h p = (p, tt, omega arith)

  option_any : (n : ℕ) (v : Option A) (b : List ℕ) → OptionOf B Ber n v b → option_can Can v × (option_depth depth Der v ≤ n)
  option_any n (Some v) b p = x.any n v b p
  option_any n None b p = (tt, omega arith)

  option_alike : (m : BERMode) (v w : Option A) → SameOption E v w → (option_encoding encoding m v ≡ option_encoding encoding m w) × (option_can Can v → option_can Can w) ×
      (option_depth depth m v ≡ option_depth depth m w)
  option_alike m (Some v) (Some w) e = x.same m v w e
  option_alike m (Some v) None e = absurd e
  option_alike m None (Some w) e = absurd e
  option_alike m None None e = (refl, λ can. tt, refl)

  -- a part that may be omitted satisfies the laws of writing
  pub option_written : IsWritten (SameOption E) (OptionOf B) (option_encoding encoding) (option_depth depth) (option_can Can)
  option_written = record {
    has = record { in_bytes = option_bytes; holds = option_holds; only = option_only };
    any = option_any;
    same = option_alike;
  }
