-- The laws of a part with a default.
use Rattle.std.proofs.Common.{◌≡◌, ℕ, ◌^◌, ◌<◌, ◌≤◌, Bool, true, false, List, [], length, inl, inr, refl, ap, ap₂, sym, ◌∙◌, subst, arith}
use Rattle.std.specs.Prelude.{◌⊎◌, if◌then◌else◌}
use Rattle.yasna_base.specs.declared.mode.BERMode.{BERMode}
use Rattle.yasna_base.specs.declared.mode.BERMode.TheVariants.{Ber, Der, Cer}
use Rattle.yasna_base.specs.Canonical.{IsCanonicalMode, IsWritten}
use Rattle.yasna_base.specs.Coding.{IsSame, IsMeaning, IsCoding, IsContentsCoding}
use Rattle.yasna_base.specs.Default.{TakesDefault, DetectsDefault, DefaultOf, default_encoding, default_depth, default_can, default_fits}
use Rattle.yasna_base.specs.Digits.{IsBytes}
use Rattle.yasna_base.specs.Exact.{Fitting, IsExact}
use Rattle.yasna_base.specs.Grammar.{Grammar, Members, Encoding, Depth}
use Rattle.yasna_base.specs.Optional.{AnyOption}
use Rattle.yasna_base.specs.Sequence.{PartOf, AnyPart, SamePart}
use Rattle.yasna_base.proofs.Optional.{IsUnambiguousBefore, some_not_empty, left_out_before}

-- a canonical mode takes no value that is its default
not_default : (m : BERMode) (b : Bool) → IsCanonicalMode m → TakesDefault m ⊎ (b ≡ false) → b ≡ false
not_default m b h (inr e) = e
not_default Ber b h (inl x) = absurd h
not_default Der b h (inl x) = absurd x
not_default Cer b h (inl x) = absurd x

not_both : (b : Bool) → b ≡ true → b ≡ false → ⊥
not_both b e f = absurd (cc)

-- equal values are the default alike
pub default_alike : {A : Type 0} {E : A → A → Type 0} (is : A → Bool) (d : A) → DetectsDefault E is d → IsSame E → (v w : A) → E v w → is v ≡ is w
default_alike {A} {E} is d detects equal v w same = by_tests (is v) (is w) refl refl
  where
    by_tests : (a b : Bool) → is v ≡ a → is w ≡ b → is v ≡ is w
    by_tests true b e f = e ∙ sym ((detects w).1 (equal.transitive w v d (equal.symmetric v w same) ((detects v).0 e)))
    by_tests false true e f = absurd (not_both (is v) ((detects v).1 (equal.transitive v w d same ((detects w).0 f))) e)
    by_tests false false e f = e ∙ sym f

module _ {A : Type 0} {E : A → A → Type 0} {B : Grammar A} {S : Members} (is : A → Bool) (d : A)
    (detects : DetectsDefault E is d) (x : IsCoding E B S) where
  among_options : (m : BERMode) (n : ℕ) (v : A) (b : List ℕ) → DefaultOf is B m n v b → AnyOption S m n b
  among_options m n v b (inl p) = inl (x.meaning.among m n v b p.0)
  among_options m n v b (inr p) = inr p.0

  one_value : (m : BERMode) (n k : ℕ) (v w : A) (b : List ℕ) → DefaultOf is B m n v b → DefaultOf is B m k w b → E v w
  one_value m n k v w b (inl p) (inl q) = x.meaning.exact m n k v w b p.0 q.0
  one_value m n k v w b (inl p) (inr q) = absurd (some_not_empty x m n v b p.0 q.0)
  one_value m n k v w b (inr p) (inl q) = absurd (some_not_empty x m k w b q.0 p.0)
  one_value m n k v w b (inr p) (inr q) = x.meaning.equal.transitive v d w ((detects v).0 p.1) (x.meaning.equal.symmetric w d ((detects w).0 q.1))

  within_more : (m : BERMode) (n k : ℕ) (v : A) (b : List ℕ) → n ≤ k → DefaultOf is B m n v b → DefaultOf is B m k v b
  within_more m n k v b below (inl p) = inl (x.meaning.deeper m n k v b below p.0, p.1)
  within_more m n k v b below (inr p) = inr p

  default_meaning : IsMeaning E (DefaultOf is B) (AnyOption S)
  default_meaning = record { equal = x.meaning.equal; among = among_options; exact = one_value; deeper = within_more }

  -- a part with a default, and contents after it that never begin as it does, satisfy the laws of contents
  pub default_before : {V : Type 0} {F : V → V → Type 0} {C : Grammar V} {Q : Members} → IsUnambiguousBefore S Q → IsContentsCoding F C Q →
      IsContentsCoding (SamePart E F) (PartOf (DefaultOf is B) C) (AnyPart (AnyOption S) Q)
  default_before unambiguous y = left_out_before x default_meaning unambiguous y

module _ {A : Type 0} (is : A → Bool) (encoding : Encoding A) (m : BERMode) (v : A) where
  bytes_by : (is v ≡ false → length (encoding m v) < 2 ^ 64 → IsBytes (encoding m v)) →
      length (default_encoding is encoding m v) < 2 ^ 64 → IsBytes (default_encoding is encoding m v)
  bytes_by f = by_test (is v) refl
    where
      by_test : (b : Bool) → is v ≡ b → length (if b then [] else (encoding m v)) < 2 ^ 64 → IsBytes (if b then [] else (encoding m v))
      by_test true e short = tt
      by_test false e short = f e short

  held_by : (B : Grammar A) (o : BERMode) (n : ℕ) → (is v ≡ false → length (encoding m v) < 2 ^ 64 → B o n v (encoding m v)) →
      length (default_encoding is encoding m v) < 2 ^ 64 → DefaultOf is B o n v (default_encoding is encoding m v)
  held_by B o n f = by_test (is v) refl
    where
      by_test : (b : Bool) → is v ≡ b → length (if b then [] else (encoding m v)) < 2 ^ 64 → DefaultOf is B o n v (if b then [] else (encoding m v))
      by_test true e short = inr (refl, e)
      by_test false e short = inl (f e short, inr e)

  only_by : (B : Grammar A) (n : ℕ) (b : List ℕ) (X : Type 0) → IsCanonicalMode m → (B m n v b → (b ≡ encoding m v) × X) → DefaultOf is B m n v b →
      (b ≡ default_encoding is encoding m v) × (is v ≡ false → X)
  only_by B n b X h f (inl p) =
      let one = f p.0 in
      let e = not_default m (is v) h p.1 in
      (one.0 ∙ sym (ap (λ c. if c then [] else (encoding m v)) e), λ unequal. one.1)
  only_by B n b X h f (inr p) = (p.0 ∙ sym (ap (λ c. if c then [] else (encoding m v)) p.1), λ unequal. absurd (not_both (is v) p.1 unequal))

-- what is omitted has no level
depth_by : {A : Type 0} (is : A → Bool) (depth : Depth A) (m : BERMode) (n : ℕ) (v : A) → (is v ≡ false → depth m v ≤ n) → default_depth is depth m v ≤ n
depth_by is depth m n v f = by_test (is v) refl
  where
    by_test : (b : Bool) → is v ≡ b → (if b then 0 else (depth m v)) ≤ n
    by_test true e = omega arith
    by_test false e = f e

module _ {A : Type 0} {E : A → A → Type 0} {B : Grammar A} {encoding : Encoding A} {depth : Depth A}
    {Can : A → Type 0} (is : A → Bool) (alike : (v w : A) → E v w → is v ≡ is w) (x : IsWritten E B encoding depth Can) where
  written_only : (m : BERMode) (n : ℕ) (v : A) (b : List ℕ) → IsCanonicalMode m → DefaultOf is B m n v b →
      (b ≡ default_encoding is encoding m v) × default_can is Can v × (default_depth is depth m v ≤ n)
  written_only m n v b h p =
      let y = only_by is encoding m v B n b (Can v × (depth m v ≤ n)) h (λ q. let z = x.has.only m n v b h q in (z.0, (z.1, z.2))) p in
      (y.0, λ e. (y.1 e).0, depth_by is depth m n v (λ e. (y.1 e).1))

  written_any : (n : ℕ) (v : A) (b : List ℕ) → DefaultOf is B Ber n v b → default_can is Can v × (default_depth is depth Der v ≤ n)
  written_any n v b (inl p) = let y = x.any n v b p.0 in (λ e. y.0, depth_by is depth Der n v (λ e. y.1))
  written_any n v b (inr p) = (λ e. absurd (not_both (is v) p.1 e), depth_by is depth Der n v (λ e. absurd (not_both (is v) p.1 e)))

  -- a part with a default satisfies the laws of writing
  pub default_written : IsWritten E (DefaultOf is B) (default_encoding is encoding) (default_depth is depth) (default_can is Can)
  default_written = record {
    has = record {
      in_bytes = λ m v can. bytes_by is encoding m v (λ e. x.has.in_bytes m v (can e));
      holds = λ m o n v h can level. held_by is encoding m v B o n (λ e. x.has.holds m o n v h (can e) (level_left m n v e level));
      only = written_only;
    };
    any = written_any;
    same = λ m v w e.
        let y = x.same m v w e in (
          ap₂ (λ (c : Bool) (z : List ℕ). if c then [] else z) (alike v w e) y.0,
          λ can f. y.1 (can (alike v w e ∙ f)),
          ap₂ (λ (c : Bool) (k : ℕ). if c then 0 else k) (alike v w e) y.2,
        );
  }
    where
      level_left : (m : BERMode) (n : ℕ) (v : A) → is v ≡ false → default_depth is depth m v ≤ n → depth m v ≤ n
      level_left m n v e level = subst (λ (b : Bool). (if b then 0 else (depth m v)) ≤ n) e level

module _ {A : Type 0} {E : A → A → Type 0} {B : Grammar A} {encoding : Encoding A} {Fits : Fitting A}
    {Can : A → Type 0} (is : A → Bool) (alike : (v w : A) → E v w → is v ≡ is w) (x : IsExact E B encoding Fits Can) where
  -- a part with a default satisfies the laws of a canonical mode
  pub default_exact : IsExact E (DefaultOf is B) (default_encoding is encoding) (default_fits is Fits) (default_can is Can)
  default_exact = record {
    in_bytes = λ m n v fits. bytes_by is encoding m v (λ e. x.in_bytes m n v (fits e));
    holds = λ m o n v h fits. held_by is encoding m v B o n (λ e. x.holds m o n v h (fits e));
    only = λ m n v b h p. only_by is encoding m v B n b (Fits m n v) h (x.only m n v b h) p;
    can = λ m n v fits e. x.can m n v (fits e);
    same = λ m v w e.
        let y = x.same m v w e in (
          ap₂ (λ (c : Bool) (z : List ℕ). if c then [] else z) (alike v w e) y.0,
          λ can f. y.1 (can (alike v w e ∙ f)),
          λ n fits f. y.2 n (fits (alike v w e ∙ f)),
        );
  }
