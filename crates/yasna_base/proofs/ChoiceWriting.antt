-- The laws of writing of a CHOICE of two types.
use Rattle.std.proofs.Common.{◌≡◌, ℕ, ◌^◌, ◌<◌, ◌≤◌, List, length, inl, inr}
use Rattle.std.specs.Prelude.{◌⊎◌}
use Rattle.yasna_base.specs.declared.mode.BERMode.{BERMode}
use Rattle.yasna_base.specs.declared.mode.BERMode.TheVariants.{Ber, Der}
use Rattle.yasna_base.specs.Canonical.{IsCanonicalMode, HoldsEncoding, IsWritten}
use Rattle.yasna_base.specs.Choice.{EitherOf, SameEither, either_encoding, either_depth, either_can, either_fits}
use Rattle.yasna_base.specs.Digits.{IsBytes}
use Rattle.yasna_base.specs.Exact.{Fitting, IsExact}
use Rattle.yasna_base.specs.Grammar.{Grammar, Encoding, Depth}

module _ {A V : Type 0} {E : A → A → Type 0} {F : V → V → Type 0} {B : Grammar A} {C : Grammar V}
    {f : Encoding A} {g : Encoding V} {n : Depth A} {o : Depth V} {c : A → Type 0} {d : V → Type 0} (x : IsWritten E B f n c) (y : IsWritten F C g o d) where
  written_bytes : (m : BERMode) (v : A ⊎ V) → either_can c d v → length (either_encoding f g m v) < 2 ^ 64 → IsBytes (either_encoding f g m v)
  written_bytes m (inl v) = x.has.in_bytes m v
  written_bytes m (inr v) = y.has.in_bytes m v

  written_holds : (m p : BERMode) (k : ℕ) (v : A ⊎ V) → HoldsEncoding m p → either_can c d v → either_depth n o m v ≤ k →
      length (either_encoding f g m v) < 2 ^ 64 → EitherOf B C p k v (either_encoding f g m v)
  written_holds m p k (inl v) = x.has.holds m p k v
  written_holds m p k (inr v) = y.has.holds m p k v

  written_only : (m : BERMode) (k : ℕ) (v : A ⊎ V) (b : List ℕ) → IsCanonicalMode m → EitherOf B C m k v b →
      (b ≡ either_encoding f g m v) × either_can c d v × (either_depth n o m v ≤ k)
  written_only m k (inl v) = x.has.only m k v
  written_only m k (inr v) = y.has.only m k v

  written_any : (k : ℕ) (v : A ⊎ V) (b : List ℕ) → EitherOf B C Ber k v b → either_can c d v × (either_depth n o Der v ≤ k)
  written_any k (inl v) = x.any k v
  written_any k (inr v) = y.any k v

  written_alike : (m : BERMode) (v w : A ⊎ V) → SameEither E F v w →
      (either_encoding f g m v ≡ either_encoding f g m w) × (either_can c d v → either_can c d w) × (either_depth n o m v ≡ either_depth n o m w)
  written_alike m (inl v) (inl w) e = x.same m v w e
  written_alike m (inl v) (inr w) e = absurd e
  written_alike m (inr v) (inl w) e = absurd e
  written_alike m (inr v) (inr w) e = y.same m v w e

  -- a CHOICE of two types satisfies the laws of writing
  pub choice_written : IsWritten (SameEither E F) (EitherOf B C) (either_encoding f g) (either_depth n o) (either_can c d)
  choice_written = record {
    has = record { in_bytes = written_bytes; holds = written_holds; only = written_only };
    any = written_any;
    same = written_alike;
  }

module _ {A V : Type 0} {E : A → A → Type 0} {F : V → V → Type 0} {B : Grammar A} {C : Grammar V}
    {f : Encoding A} {g : Encoding V} {P : Fitting A} {Q : Fitting V} {c : A → Type 0} {d : V → Type 0} (x : IsExact E B f P c) (y : IsExact F C g Q d) where
  exact_bytes : (m : BERMode) (n : ℕ) (v : A ⊎ V) → either_fits P Q m n v → length (either_encoding f g m v) < 2 ^ 64 → IsBytes (either_encoding f g m v)
  exact_bytes m n (inl v) = x.in_bytes m n v
  exact_bytes m n (inr v) = y.in_bytes m n v

  exact_holds : (m o : BERMode) (n : ℕ) (v : A ⊎ V) → HoldsEncoding m o → either_fits P Q m n v → length (either_encoding f g m v) < 2 ^ 64 →
      EitherOf B C o n v (either_encoding f g m v)
  exact_holds m o n (inl v) = x.holds m o n v
  exact_holds m o n (inr v) = y.holds m o n v

  exact_only : (m : BERMode) (n : ℕ) (v : A ⊎ V) (b : List ℕ) → IsCanonicalMode m → EitherOf B C m n v b →
      (b ≡ either_encoding f g m v) × either_fits P Q m n v
  exact_only m n (inl v) = x.only m n v
  exact_only m n (inr v) = y.only m n v

  exact_can : (m : BERMode) (n : ℕ) (v : A ⊎ V) → either_fits P Q m n v → either_can c d v
  exact_can m n (inl v) = x.can m n v
  exact_can m n (inr v) = y.can m n v

  exact_alike : (m : BERMode) (v w : A ⊎ V) → SameEither E F v w →
      (either_encoding f g m v ≡ either_encoding f g m w) × (either_can c d v → either_can c d w) × ((n : ℕ) → either_fits P Q m n v → either_fits P Q m n w)
  exact_alike m (inl v) (inl w) e = x.same m v w e
  exact_alike m (inl v) (inr w) e = absurd e
  exact_alike m (inr v) (inl w) e = absurd e
  exact_alike m (inr v) (inr w) e = y.same m v w e

  -- a CHOICE of two types satisfies the laws of a canonical mode
  pub choice_exact : IsExact (SameEither E F) (EitherOf B C) (either_encoding f g) (either_fits P Q) (either_can c d)
  choice_exact = record { in_bytes = exact_bytes; holds = exact_holds; only = exact_only; can = exact_can; same = exact_alike }
