-- The counts of octets of identifiers and of lengths, and lengths that are longer than they need to be.
use Rattle.std.proofs.Common.{◌≡◌, ◌↔◌, ℕ, zero, suc, ◌+◌, ◌/◌, ◌%◌, ◌^◌, ◌<◌, ◌≤◌, List, [], ◌∷◌, ◌++◌, length, refl, sym, ap, subst, ◌∙◌, inl, inr, arith, length-append}
use Rattle.std.specs.Prelude.{false, Option, Some, None, IsTrue, nat_lt}
use Rattle.std.specs.Int.Digits.{digits_of, number_from_digits}
use Rattle.std.proofs.lemmas.Bool.{cases_lt, lt-ltb, ltb-true}
use Rattle.std.proofs.lemmas.Int.Digits.{digits_of_step, number_lt}
use Rattle.std.proofs.Math.Nat.{le-div_iff_mul-le}
use Rattle.yasna_base.specs.Digits.{IsBytes, digits, marked, base128}
use Rattle.yasna_base.specs.Identifier.{identifier}
use Rattle.yasna_base.specs.Length.{shortest_length, IsLongLength, one_byte, counted}
use Rattle.yasna_base.specs.declared.mode.BERMode.{BERMode}
use Rattle.yasna_base.specs.declared.tag.PCBit.{PCBit}
use Rattle.yasna_base.specs.declared.tag.Tag.{Tag}
use Rattle.yasna_base.proofs.Digits.{digits_small, digits_length, digits_only, number_cons}
use Rattle.yasna_base.proofs.Identifier.{identifier_short, identifier_long}
use Rattle.yasna_base.proofs.Length.{short_length, counted_length, spells_long}
use Rattle.asn1show_walk.specs.Listing.{IsHeaded, with_length, with_zeros}
use Rattle.asn1show_printer.specs.Headers.{HasLongLength}

digits_are : (b k : ℕ) → 2 ≤ b → 0 < k → digits_of b k ≡ digits b k
unfolding digits
digits_are b zero two h = absurd (omega arith)
digits_are b (suc k) two h = refl

positive_quotient : (b k : ℕ) → 2 ≤ b → b ≤ k → 0 < k / b
positive_quotient b k two h = (le-div_iff_mul-le {x = 1} (omega arith)).1 (omega arith)

digits_step : (b k : ℕ) → 2 ≤ b → b ≤ k → digits b k ≡ digits b (k / b) ++ (k % b ∷ [])
unfolding digits
digits_step b zero two h = absurd (omega arith)
digits_step b (suc k) two h = digits_of_step b (suc k) two (omega arith) ∙ ap (λ ds. ds ++ (suc k % b ∷ []))
    (digits_are b (suc k / b) two (positive_quotient b (suc k) two h))

-- a number has one digit more than its quotient
count_step : (b k : ℕ) → 2 ≤ b → b ≤ k → length (digits b k) ≡ length (digits b (k / b)) + 1
count_step b k two h = ap length (digits_step b k two h) ∙ length-append (digits b (k / b)) (k % b ∷ [])

pub octets_small : (k : ℕ) → k < 256 → length (digits 256 k) ≡ 1
octets_small k h = ap length (digits_small 256 k (omega arith) h)

pub octets_step : (k : ℕ) → 256 ≤ k → length (digits 256 k) ≡ length (digits 256 (k / 256)) + 1
octets_step k h = count_step 256 k (omega arith) h

pub octets_at_most : (k : ℕ) → k < 2 ^ 64 → length (digits 256 k) ≤ 8
octets_at_most k h = digits_length 256 k 8 (omega arith) (omega arith) (omega arith)

pub shortest_small : (k : ℕ) → k < 128 → length (shortest_length k) ≡ 1
shortest_small k h = ap length (short_length k h)

pub shortest_large : (k : ℕ) → 128 ≤ k → length (shortest_length k) ≡ length (digits 256 k) + 1
shortest_large k h = omega (arith, ap length (counted_length k h))

marked_length : (ds : List ℕ) → length (marked ds) ≡ length ds
marked_length [] = refl
marked_length (d ∷ []) = refl
marked_length (d ∷ e ∷ ds) = ap suc (marked_length (e ∷ ds))

base128_digits : (k : ℕ) → length (base128 k) ≡ length (digits 128 k)
unfolding base128
base128_digits k = marked_length (digits 128 k)

pub base128_small : (k : ℕ) → k < 128 → length (base128 k) ≡ 1
base128_small k h = base128_digits k ∙ ap length (digits_small 128 k (omega arith) h)

pub base128_step : (k : ℕ) → 128 ≤ k → length (base128 k) ≡ length (base128 (k / 128)) + 1
base128_step k h = omega (arith, base128_digits k, base128_digits (k / 128), count_step 128 k (omega arith) h)

pub base128_at_most : (k : ℕ) → k < 2 ^ 64 → length (base128 k) ≤ 10
base128_at_most k h = omega (arith, base128_digits k, digits_length 128 k 10 (omega arith) (omega arith) (omega arith))

pub identifier_small : (t : Tag) (p : PCBit) → t.tag_number < 31 → length (identifier t p) ≡ 1
identifier_small t p h = ap length (identifier_short t p h)

pub identifier_large : (t : Tag) (p : PCBit) → 31 ≤ t.tag_number → length (identifier t p) ≡ length (base128 t.tag_number) + 1
identifier_large t p h = omega (arith, ap length (identifier_long t p h))

-- without its leading zeros a number has fewer digits
zero_first : (ds : List ℕ) (k : ℕ) → IsBytes ds → number_from_digits 256 (0 ∷ ds) ≡ k → 128 ≤ k → length (digits 256 k) ≤ length ds
zero_first [] k p e h = absurd (omega (arith, number_cons 256 0 [], number_lt 256 [] p))
zero_first (d ∷ ds) k p e h =
    let n : number_from_digits 256 (d ∷ ds) ≡ k = omega (arith, number_cons 256 0 (d ∷ ds)) in
    digits_length 256 k (length (d ∷ ds)) (omega arith) (omega arith) (subst (λ x. x < 256 ^ length (d ∷ ds)) n (number_lt 256 (d ∷ ds) p))

-- digits that are no more than those of their number are these
fewest_digits : (ds : List ℕ) (k : ℕ) → IsBytes ds → number_from_digits 256 ds ≡ k → 128 ≤ k → length ds ≤ length (digits 256 k) → ds ≡ digits 256 k
fewest_digits [] k p e h few = absurd (omega (arith, number_lt 256 [] p))
fewest_digits (zero ∷ ds) k p e h few = absurd (omega (arith, zero_first ds k p.1 e h))
fewest_digits (suc d ∷ ds) k p e h few = sym (ap (digits 256) (sym e) ∙ digits_only 256 (suc d ∷ ds) (omega arith) p (omega arith))

-- a spelled length in no more octets than the shortest one is that one
pub fewest_octets : (k : ℕ) (l : List ℕ) → IsLongLength k l → length l ≤ length (shortest_length k) → l ≡ shortest_length k
fewest_octets k l (one_byte h e) few = e ∙ sym (short_length k h)
fewest_octets k l (counted ds some most p n e) few = elim (cases_lt k 128) [
  | inl i ↦ absurd (omega (arith, shortest_small k i, ap length e))
  | inr i ↦
      let s : length ds ≤ length (digits 256 k) = omega (arith, shortest_large k i, ap length e) in
      let same = fewest_digits ds k p n i s in
      e ∙ ap (λ x. (128 + length x) ∷ x) same ∙ sym (counted_length k i)
]

some_same : (a b : ℕ) → Some a ≡ Some b → a ≡ b
some_same a b e = cc

-- it is said that a length is long exactly if it isn't the shortest
pub says_length : (m : BERMode) (t : Tag) (bit : PCBit) (c b : List ℕ) (h k n s : ℕ) (size : Option ℕ) → size ≡ Some k → n ≡ length (identifier t bit) →
    s ≡ length (shortest_length k) → IsHeaded m t bit c b h size → IsTrue (nat_lt (n + s) h) ↔ HasLongLength t bit c b size
says_length m t bit c b h k n s size is first second (with_zeros x e len) = absurd (cc)
says_length m t bit c b h k n s size is first second (with_length d e len) = (more, less)
  where
    same_size : k ≡ length c
    same_size = some_same k (length c) (sym is ∙ len)

    spelled : IsLongLength (length c) d.l
    spelled = spells_long m (length c) d.l d.spelled

    counted_all : length b ≡ length (identifier t bit) + (length d.l + length c)
    counted_all = omega (arith, ap length d.joined, length-append (identifier t bit) (d.l ++ c), length-append d.l c)

    octets : s ≡ length (shortest_length (length c))
    octets = second ∙ ap (λ x. length (shortest_length x)) same_size

    more : IsTrue (nat_lt (n + s) h) → HasLongLength t bit c b size
    more longer = record {
      definite = len;
      longer = λ same. absurd (omega (
        arith,
        ltb-true (n + s) h longer,
        counted_all,
        octets,
        first,
        e,
        ap length same,
        length-append (identifier t bit) (shortest_length (length c) ++ c),
        length-append (shortest_length (length c)) c,
      ));
    }

    less : HasLongLength t bit c b size → IsTrue (nat_lt (n + s) h)
    less x = elim (cases_lt (n + s) h) [
      | inl i ↦ lt-ltb (n + s) h i
      | inr i ↦
          let l : length d.l ≤ length (shortest_length (length c)) = omega (arith, counted_all, octets, first, e) in
          let same = fewest_octets (length c) d.l spelled l in
          absurd (x.longer (d.joined ∙ ap (λ z. identifier t bit ++ (z ++ c)) same))
    ]

-- nothing is said of an indefinite length
pub says_none : (m : BERMode) (t : Tag) (bit : PCBit) (c b : List ℕ) (h : ℕ) (size : Option ℕ) → size ≡ None → IsHeaded m t bit c b h size →
    IsTrue false ↔ HasLongLength t bit c b size
says_none m t bit c b h size is x = (λ no. absurd (cc), λ y. let e = sym is ∙ y.definite in absurd (cc))
