-- The laws of INTEGER of any size.
use Rattle.std.proofs.Common.{◌≡◌, ℕ, ◌^◌, ◌<◌, List, [], ◌∷◌, refl, ap, ◌∙◌, sym, inl, inr, arith, zero, suc, subst, pos, Bool, true, false, cond, ◌↔◌, IsTrue, ◌≤ℤ◌}
use Rattle.std.proofs.Math.Dec.{eqb-suc-zero}
use Rattle.std.proofs.lemmas.Bool.{cases_lt}
use Rattle.std.proofs.lemmas.Int.{ints}
use Rattle.yasna_base.specs.declared.mode.BERMode.{BERMode}
use Rattle.yasna_base.specs.declared.tag.Tag.{Tag}
use Rattle.yasna_base.specs.BigInteger.{BigInteger, IsBigInteger, trim_leading, signed_number, signed_or_zero, big_integer, big_integer_encoding, CanBigInteger}
use Rattle.yasna_base.specs.Canonical.{leaf_depth, IsWritten}
use Rattle.yasna_base.specs.Coding.{IsCoding, Any}
use Rattle.yasna_base.specs.Digits.{IsBytes}
use Rattle.yasna_base.specs.Element.{Primitively}
use Rattle.yasna_base.specs.Identifier.{end_tag}
use Rattle.yasna_base.specs.Integer.{twos, IsMinimal, minimal_bytes}
use Rattle.yasna_base.proofs.Canonical.{primitively_written}
use Rattle.yasna_base.proofs.Coding.{primitively}
use Rattle.yasna_base.proofs.Digits.{number_cons}
use Rattle.yasna_base.proofs.Identifier.{not_end}
use Rattle.yasna_base.proofs.Integer.{twos_positive, twos_negative, negative_is, minimal_in_bytes, minimal_only}

same_truth : (a b : Bool) → (IsTrue a → IsTrue b) → (IsTrue b → IsTrue a) → a ≡ b
same_truth true b f g = sym (f refl)
same_truth false true f g = g refl
same_truth false false f g = refl

without_none : (x : ℕ) (xs : List ℕ) → trim_leading 0 (suc x ∷ xs) ≡ suc x ∷ xs
without_none x xs = ap (λ t. cond t (trim_leading 0 xs) (suc x ∷ xs)) (eqb-suc-zero x)

positive_signed : (x : ℕ) (xs : List ℕ) (positive : Bool) → IsTrue positive ↔ (pos 0 ≤ℤ twos (x ∷ xs)) → x < 128 → positive ≡ true
positive_signed x xs positive s h = s.1 (rw (twos_positive x xs h) (omega (arith, ints)))

signed_is : (x : ℕ) (xs : List ℕ) (positive : Bool) → IsBytes (x ∷ xs) → IsTrue positive ↔ (pos 0 ≤ℤ twos (x ∷ xs)) →
    signed_number positive (x ∷ xs) ≡ twos (x ∷ xs)
signed_is x xs true b s = elim (cases_lt x 128) [
  | inl h ↦ sym (twos_positive x xs h)
  | inr h ↦ let e = negative_is x xs b h in let p = s.0 refl in absurd (omega (arith, ints))
]
signed_is x xs false b s = elim (cases_lt x 128) [
  | inl h ↦ let e = positive_signed x xs false s h in absurd (cc)
  | inr h ↦ sym (twos_negative x xs h)
]

big_is : (c : List ℕ) (positive : Bool) → IsBytes c → IsMinimal c → IsTrue positive ↔ (pos 0 ≤ℤ twos c) → signed_or_zero positive (trim_leading 0 c) ≡ twos c
big_is [] positive b m s = absurd m
big_is (zero ∷ []) positive b m s = sym (twos_positive 0 [] (omega arith))
big_is (zero ∷ zero ∷ ys) positive b m s = let h = m.0 refl in absurd (omega arith)
big_is (zero ∷ suc y ∷ ys) positive b m s =
    ap (signed_or_zero positive) (without_none y ys)
    ∙ ap (λ p. signed_number p (suc y ∷ ys)) (positive_signed 0 (suc y ∷ ys) positive s (omega arith))
    ∙ (let e = number_cons 256 0 (suc y ∷ ys) in ap pos (omega arith))
    ∙ sym (twos_positive 0 (suc y ∷ ys) (omega arith))
big_is (suc x ∷ xs) positive b m s = ap (signed_or_zero positive) (without_none x xs) ∙ signed_is (suc x) xs positive b s

-- canonical bytes and their sign represent the number that the bytes are in two's complement
pub big_integer_is : (v : BigInteger) → CanBigInteger v → big_integer v.bytes v.positive ≡ twos v.bytes
unfolding big_integer
big_integer_is v h = big_is v.bytes v.positive h.in_bytes h.minimal h.sign

one_big_integer : (m : BERMode) (v w : BigInteger) (c : List ℕ) → IsBigInteger m v c → IsBigInteger m w c → v ≡ w
one_big_integer m v w c x y =
    let bytes = x.contents ∙ sym y.contents in
    let positive = same_truth v.positive w.positive (λ p. y.sign.1 (x.sign.0 p)) (λ p. x.sign.1 (y.sign.0 p)) in
    λ i. record { bytes = bytes i; positive = positive i }

canonical_bytes : (v : BigInteger) → CanBigInteger v → v.bytes ≡ minimal_bytes (big_integer v.bytes v.positive)
canonical_bytes v h =
    minimal_only (big_integer v.bytes v.positive) v.bytes (record { in_bytes = h.in_bytes; minimal = h.minimal; number = sym (big_integer_is v h) })

big_integer_means : (m : BERMode) (v : BigInteger) (c : List ℕ) → v.bytes ≡ c → CanBigInteger v → IsBigInteger m v c
big_integer_means m v c e h = record {
  contents = e;
  in_bytes = subst IsBytes e h.in_bytes;
  minimal = subst IsMinimal e h.minimal;
  sign = subst (λ d. IsTrue v.positive ↔ (pos 0 ≤ℤ twos d)) e h.sign;
}

big_integer_can : (m : BERMode) (v : BigInteger) (c : List ℕ) → IsBigInteger m v c → CanBigInteger v
big_integer_can m v c x =
    let e = sym x.contents in
    record { in_bytes = subst IsBytes e x.in_bytes; minimal = subst IsMinimal e x.minimal; sign = subst (λ d. IsTrue v.positive ↔ (pos 0 ≤ℤ twos d)) e x.sign }

-- INTEGER of any size satisfies the laws of reading
pub big_integer_coding : (t : Tag) → (t ≡ end_tag → ⊥) →
    IsCoding (λ v w. v ≡ w) (Primitively IsBigInteger t) (Any (Primitively IsBigInteger t))
big_integer_coding t not_end = primitively IsBigInteger t not_end one_big_integer

-- INTEGER of any size satisfies the laws of writing
pub big_integer_written : (t : Tag) → t.tag_number < 2 ^ 64 →
    IsWritten (λ v w. v ≡ w) (Primitively IsBigInteger t) (big_integer_encoding t) leaf_depth CanBigInteger
big_integer_written t range = primitively_written IsBigInteger CanBigInteger (λ v. minimal_bytes (big_integer v.bytes v.positive)) t range
    (λ v can. minimal_in_bytes (big_integer v.bytes v.positive))
    (λ m v can. big_integer_means m v (minimal_bytes (big_integer v.bytes v.positive)) (canonical_bytes v can) can)
    (λ m v c h x. sym x.contents ∙ canonical_bytes v (big_integer_can m v c x))
    big_integer_can
