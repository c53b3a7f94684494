-- Types of which only some values are accepted (X.680, 49 to 51).
use Rattle.std.proofs.Common.{◌≡◌, ◌∷◌, [], ℕ, ℤ, List, Bool, true, not, Option, Vec, length, pos, suc, refl, sym, ap, ◌∙◌}
use Rattle.std.specs.Global.{Global}
use Rattle.std.specs.Prelude.{◌&&◌, int_le, nat_eq, nat_lt}
use Rattle.std.proofs.lemmas.List.Sorted.{length_permutation}
use Rattle.yasna_base.specs.declared.tag.Tag.{Tag}
use Rattle.yasna_base.specs.AnyOrder.{SameSetOf}
use Rattle.yasna_base.specs.Coding.{IsCoding, Any}
use Rattle.yasna_base.specs.Exact.{Fitting, IsExact}
use Rattle.yasna_base.specs.Grammar.{Grammar, Members, Encoding}
use Rattle.yasna_base.specs.Pieces.{Each}
use Rattle.yasna_notation.specs.Notation.{IsNotation, NotationKeepsLaws}

-- only this number
abbrev pub exactly : ℕ → ℕ → Bool
exactly n v = nat_eq v n

-- the numbers from low to high
abbrev pub from_to : ℕ → ℕ → ℕ → Bool
from_to low high v = not (nat_lt v low) && not (nat_lt high v)

-- the integers from 0 to high
abbrev pub up_to : ℤ → ℤ → Bool
up_to high v = int_le (pos 0) v && int_le v high

-- the integers from 0 on
abbrev pub from_zero : ℤ → Bool
from_zero v = int_le (pos 0) v

-- what has a size that passes a test
abbrev pub sized : {A : Type 0} → (ℕ → Bool) → Vec A Global → Bool
sized test v = test (length v.items)

-- b encodes a value by B, and the test passes it
abbrev pub Within : {A : Type 0} → (A → Bool) → Grammar A → Grammar A
Within passes B m n v b = B m n v b × (passes v ≡ true)

module _ {A : Type 0} {E : A → A → Type 0} (passes : A → Bool) (alike : (v w : A) → E v w → passes v ≡ passes w) where
  within_coding : {B : Grammar A} {S : Members} → IsCoding E B S → IsCoding E (Within passes B) (Any (Within passes B))
  within_coding x = record {
    meaning = record {
      equal = x.meaning.equal;
      among = λ m n v b p. (v, p);
      exact = λ m n k v w b p q. x.meaning.exact m n k v w b p.0 q.0;
      deeper = λ m n k v b le p. (x.meaning.deeper m n k v b le p.0, p.1);
    };
    opens = λ m n b p. x.opens m n b (x.meaning.among m n p.0 b p.1.0);
    prefix_free = λ m n k b c r s p q. x.prefix_free m n k b c r s (x.meaning.among m n p.0 b p.1.0) (x.meaning.among m k q.0 c q.1.0);
  }

  within_exact : {B : Grammar A} {encoding : Encoding A} {Fits : Fitting A} {Can : A → Type 0} → IsExact E B encoding Fits Can →
      IsExact E (Within passes B) encoding (λ m n v. Fits m n v × (passes v ≡ true)) (λ v. Can v × (passes v ≡ true))
  within_exact x = record {
    in_bytes = λ m n v f short. x.in_bytes m n v f.0 short;
    holds = λ m o n v h f short. (x.holds m o n v h f.0 short, f.1);
    only = λ m n v b h p. let y = x.only m n v b h p.0 in (y.0, (y.1, p.1));
    can = λ m n v f. (x.can m n v f.0, f.1);
    same = λ m v w e.
        let y = x.same m v w e in
        let other = sym (alike v w e) in
        (y.0, (λ c. (y.1 c.0, other ∙ c.1)), (λ n f. (y.2 n f.0, other ∙ f.1)));
  }

  -- the values of a type that a test passes satisfy the laws
  pub within_laws : {tags_known : Bool} {ts : List Tag} {B : Grammar A} {S : Members} {encoding : Encoding A} {Fits : Fitting A} {Can : A → Type 0} →
      IsNotation tags_known ts E B S encoding Fits Can →
      IsNotation tags_known ts E (Within passes B) (Any (Within passes B)) encoding (λ m n v. Fits m n v × (passes v ≡ true)) (λ v. Can v × (passes v ≡ true))
  within_laws x = record {
    coding = within_coding x.coding;
    begins = λ t. let y = x.begins t in record { at = λ m n b p. y.at m n b (x.coding.meaning.among m n p.0 b p.1.0) };
    single = λ m n b p. x.single m n b (x.coding.meaning.among m n p.0 b p.1.0);
    exact = within_exact x.exact;
  }

-- under other tags too
pub within_lawful : {A : Type 0} {tags_known : Bool} {ts : List Tag} {retagged : Bool} {E : A → A → Type 0} {B : Option Tag → Grammar A}
    {S : Option Tag → Members} {encoding : Option Tag → Encoding A} {Fits : Fitting A} {Can : A → Type 0} (passes : A → Bool) →
    ((v w : A) → E v w → passes v ≡ passes w) → NotationKeepsLaws tags_known ts retagged E B S encoding Fits Can →
    NotationKeepsLaws tags_known ts retagged E (λ u. Within passes (B u)) (λ u. Any (Within passes (B u))) encoding (λ m n v. Fits m n v × (passes v ≡ true))
    (λ v. Can v × (passes v ≡ true))
within_lawful passes alike x = record {
  own = within_laws passes alike x.own;
  others = λ r t not_end range. within_laws passes alike (x.others r t not_end range);
}

each_length : {A : Type 0} (E : A → A → Type 0) (vs ws : List A) → Each E vs ws → length vs ≡ length ws
each_length E [] [] e = refl
each_length E [] (w ∷ ws) e = absurd e
each_length E (v ∷ vs) [] e = absurd e
each_length E (v ∷ vs) (w ∷ ws) e = ap suc (each_length E vs ws e.1)

-- lists whose items are equal one by one have one size
pub sizes_alike : {A : Type 0} (E : A → A → Type 0) (test : ℕ → Bool) (vs ws : List A) → Each E vs ws → test (length vs) ≡ test (length ws)
sizes_alike E test vs ws e = ap test (each_length E vs ws e)

-- lists whose items are equal in some order have one size
pub set_sizes_alike : {A : Type 0} (E : A → A → Type 0) (test : ℕ → Bool) (vs ws : List A) → SameSetOf E vs ws → test (length vs) ≡ test (length ws)
set_sizes_alike E test vs ws e = ap test (sym (length_permutation vs e.items e.permuted) ∙ each_length E e.items ws e.each)

-- what is the same passes a test alike
pub passes_alike : {A : Type 0} (test : A → Bool) {v w : A} → v ≡ w → test v ≡ test w
passes_alike test e = ap test e
