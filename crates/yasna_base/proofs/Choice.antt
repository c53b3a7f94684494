-- The laws of reading of a CHOICE of two types.
use Rattle.std.proofs.Common.{◌≡◌, ℕ, ◌≤◌, List, [], ◌++◌, refl, sym, ◌⊎◌, inl, inr, subst}
use Rattle.yasna_base.specs.declared.mode.BERMode.{BERMode}
use Rattle.yasna_base.specs.declared.tag.Tag.{Tag}
use Rattle.yasna_base.specs.Choice.{EitherOf, AnyEither, SameEither}
use Rattle.yasna_base.specs.Coding.{IsCoding}
use Rattle.yasna_base.specs.Grammar.{Grammar, Members}
use Rattle.yasna_base.specs.Identifier.{BeginsWithTag, StartsElement}
use Rattle.yasna_base.proofs.Identifier.{begins_once, begins_with}

-- members of S and of Q never begin the same bytes
abbrev pub AreUnambiguous : Members → Members → Type 0
AreUnambiguous S Q = (m : BERMode) (n k : ℕ) (b c r s : List ℕ) → S m n b → Q m k c → b ++ r ≡ c ++ s → ⊥

-- members of S and of Q never begin the same bytes where they begin with two tags
pub unambiguous_by_tags : {S Q : Members} (t u : Tag) → (t ≡ u → ⊥) → ((m : BERMode) (n : ℕ) (b : List ℕ) → S m n b → BeginsWithTag t b) →
    ((m : BERMode) (n : ℕ) (b : List ℕ) → Q m n b → BeginsWithTag u b) → AreUnambiguous S Q
unambiguous_by_tags t u other x y m n k b c r s p q e =
    other (begins_once t u (c ++ s) (subst (λ z. BeginsWithTag t z) e (begins_with t b r (x m n b p))) (begins_with u c s (y m k c q)))

-- what is apart from two types is apart from a CHOICE of them
pub unambiguous_with_either : {S Q R : Members} → AreUnambiguous S Q → AreUnambiguous S R → AreUnambiguous S (AnyEither Q R)
unambiguous_with_either one other m n k b c r s p (inl q) e = one m n k b c r s p q e
unambiguous_with_either one other m n k b c r s p (inr q) e = other m n k b c r s p q e

module _ {A V : Type 0} {E : A → A → Type 0} {F : V → V → Type 0} {B : Grammar A} {C : Grammar V}
    {S Q : Members} (x : IsCoding E B S) (y : IsCoding F C Q) (unambiguous : AreUnambiguous S Q) where
  either_reflexive : (v : A ⊎ V) → SameEither E F v v
  either_reflexive (inl v) = x.meaning.equal.reflexive v
  either_reflexive (inr v) = y.meaning.equal.reflexive v

  either_symmetric : (v w : A ⊎ V) → SameEither E F v w → SameEither E F w v
  either_symmetric (inl v) (inl w) e = x.meaning.equal.symmetric v w e
  either_symmetric (inl v) (inr w) e = absurd e
  either_symmetric (inr v) (inl w) e = absurd e
  either_symmetric (inr v) (inr w) e = y.meaning.equal.symmetric v w e

  either_transitive : (u v w : A ⊎ V) → SameEither E F u v → SameEither E F v w → SameEither E F u w
  either_transitive (inl u) (inl v) (inl w) d e = x.meaning.equal.transitive u v w d e
  either_transitive (inl u) (inl v) (inr w) d e = absurd e
  either_transitive (inl u) (inr v) w d e = absurd d
  either_transitive (inr u) (inl v) w d e = absurd d
  either_transitive (inr u) (inr v) (inl w) d e = absurd e
  either_transitive (inr u) (inr v) (inr w) d e = y.meaning.equal.transitive u v w d e

  either_among : (m : BERMode) (n : ℕ) (v : A ⊎ V) (b : List ℕ) → EitherOf B C m n v b → AnyEither S Q m n b
  either_among m n (inl v) b p = inl (x.meaning.among m n v b p)
  either_among m n (inr v) b p = inr (y.meaning.among m n v b p)

  either_exact : (m : BERMode) (n k : ℕ) (v w : A ⊎ V) (b : List ℕ) → EitherOf B C m n v b → EitherOf B C m k w b → SameEither E F v w
  either_exact m n k (inl v) (inl w) b p q = x.meaning.exact m n k v w b p q
  either_exact m n k (inl v) (inr w) b p q = unambiguous m n k b b [] [] (x.meaning.among m n v b p) (y.meaning.among m k w b q) refl
  either_exact m n k (inr v) (inl w) b p q = unambiguous m k n b b [] [] (x.meaning.among m k w b q) (y.meaning.among m n v b p) refl
  either_exact m n k (inr v) (inr w) b p q = y.meaning.exact m n k v w b p q

  either_deeper : (m : BERMode) (n k : ℕ) (v : A ⊎ V) (b : List ℕ) → n ≤ k → EitherOf B C m n v b → EitherOf B C m k v b
  either_deeper m n k (inl v) b l p = x.meaning.deeper m n k v b l p
  either_deeper m n k (inr v) b l p = y.meaning.deeper m n k v b l p

  either_opens : (m : BERMode) (n : ℕ) (b : List ℕ) → AnyEither S Q m n b → StartsElement b
  either_opens m n b (inl p) = x.opens m n b p
  either_opens m n b (inr p) = y.opens m n b p

  either_prefix_free : (m : BERMode) (n k : ℕ) (b c r s : List ℕ) → AnyEither S Q m n b → AnyEither S Q m k c → b ++ r ≡ c ++ s → b ≡ c
  either_prefix_free m n k b c r s (inl p) (inl q) e = x.prefix_free m n k b c r s p q e
  either_prefix_free m n k b c r s (inl p) (inr q) e = absurd (unambiguous m n k b c r s p q e)
  either_prefix_free m n k b c r s (inr p) (inl q) e = absurd (unambiguous m k n c b s r q p (sym e))
  either_prefix_free m n k b c r s (inr p) (inr q) e = y.prefix_free m n k b c r s p q e

  -- a CHOICE of two types satisfies the laws of reading
  pub choice : IsCoding (SameEither E F) (EitherOf B C) (AnyEither S Q)
  choice = record {
    meaning = record {
      equal = record { reflexive = either_reflexive; symmetric = either_symmetric; transitive = either_transitive };
      among = either_among;
      exact = either_exact;
      deeper = either_deeper;
    };
    opens = either_opens;
    prefix_free = either_prefix_free;
  }
