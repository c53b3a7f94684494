-- Lengths, by their first byte, and numbers in base 256 (X.690, 8.1.3).
use Rattle.std.proofs.Common.{◌≡◌, MatchOption, ℕ, ◌+◌, ◌-◌, ◌*◌, ◌^◌, ◌<◌, ◌≤◌, List, [], ◌∷◌, ◌++◌, length, get_or, take, drop, refl, ap, sym, subst}
use Rattle.std.proofs.Common.{◌∙◌, arith, Option, Some, None, length-append, take-append-drop, length-drop}
use Rattle.std.proofs.Math.Seq.{drop-append_seam}
use Rattle.std.specs.Int.Digits.{number_from_digits, number_from_digits_after}
use Rattle.std.proofs.lemmas.Int.Digits.{number_after_append, number_after_ge}
use Rattle.yasna_base.specs.declared.mode.BERMode.{BERMode}
use Rattle.yasna_base.specs.declared.mode.BERMode.TheVariants.{Ber, Der, Cer}
use Rattle.yasna_base.specs.Canonical.{IsCanonicalMode}
use Rattle.yasna_base.specs.Digits.{IsBytes}
use Rattle.yasna_base.specs.Length.{SpellsLength}
use Rattle.yasna_base.proofs.Lists.{prefixes_same}
use Rattle.yasna_base.proofs.Length.{small, large, length_prefix, not_empty, short_spells, long_spells}
use Rattle.yasna_bytes.specs.Length.{Measures, TakesSpelling, SpellsDigits}
use Rattle.yasna_base.proofs.Digits.{bytes_prefix}

-- no length is where nothing is left
pub nothing_measured : (m : BERMode) (s : List ℕ) → s ≡ [] → (k : Option ℕ) (r : List ℕ) → Measures m s k r → ⊥
nothing_measured m s e None r w = let f = sym e ∙ w in cc
nothing_measured m s e (Some k) r w = not_empty m k w.0 r w.1 (sym e ∙ w.2)

-- one byte
pub short_measured : (m : BERMode) (x : ℕ) (s y : List ℕ) → s ≡ x ∷ y → x < 128 → (l : List ℕ) × SpellsLength m x l × (s ≡ l ++ y)
short_measured m x s y e h = (x ∷ [], short_spells m x h, e)

takes_spelling : (m : BERMode) (ds : List ℕ) (k : ℕ) → (IsCanonicalMode m → (128 ≤ k) × (0 < get_or ds 0 0)) → TakesSpelling m ds k
takes_spelling Ber ds k f = tt
takes_spelling Der ds k f = f tt
takes_spelling Cer ds k f = f tt

spelling_takes : (m : BERMode) (ds : List ℕ) (k : ℕ) → TakesSpelling m ds k → IsCanonicalMode m → (128 ≤ k) × (0 < get_or ds 0 0)
spelling_takes Ber ds k h e = absurd e
spelling_takes Der ds k h e = h
spelling_takes Cer ds k h e = h

-- after a first byte above 128 no length is unless as many digits spell it
pub not_counted : (m : BERMode) (x : ℕ) (s y : List ℕ) → s ≡ x ∷ y → 128 < x →
    ((ds r : List ℕ) (k : ℕ) → length ds ≡ x - 128 → y ≡ ds ++ r → SpellsDigits m ds k → x < 255 → ⊥) → (k : Option ℕ) (r : List ℕ) → Measures m s k r → ⊥
not_counted m x s y e h f None r w = let g = sym e ∙ w in let i : x ≡ 128 = cc in omega arith
not_counted m x s y e h f (Some k) r w = elim (length_prefix m x y k w.0 r w.1 (sym e ∙ w.2)) [
  | small i j ↦ omega arith
  | large ds q i j l n o b t ↦ f ds q k (omega arith) n (record { number = o; in_range = b; taken = takes_spelling m ds k t }) (omega arith)
]

-- nor where fewer bytes follow than are counted
pub too_few : (m : BERMode) (x : ℕ) (s y : List ℕ) → s ≡ x ∷ y → 128 < x → length y < x - 128 → (k : Option ℕ) (r : List ℕ) → Measures m s k r → ⊥
too_few m x s y e h l = not_counted m x s y e h (λ ds r k i j z b. omega (arith, i, ap length j, length-append ds r))

-- nor where those that are counted spell none
pub not_spelled : (m : BERMode) (x : ℕ) (s y d a : List ℕ) → s ≡ x ∷ y → 128 < x → length d ≡ x - 128 → y ≡ d ++ a →
    ((k : ℕ) → SpellsDigits m d k → ⊥) → (k : Option ℕ) (r : List ℕ) → Measures m s k r → ⊥
not_spelled m x s y d a e h l j f = not_counted m x s y e h (λ ds r k i n z b.
    let c = (prefixes_same ds d r a (i ∙ sym l) (sym n ∙ j)).0 in
    f k (subst (λ q. SpellsDigits m q k) c z))

-- digits that pass 2^64 - 1 spell none
pub too_wide : (m : BERMode) (d : List ℕ) → 2 ^ 64 ≤ number_from_digits 256 d → (k : ℕ) → SpellsDigits m d k → ⊥
too_wide m d w k x = omega (arith, x.in_range, x.number)

-- nor do those that the mode doesn't take
pub not_so : (m : BERMode) (d : List ℕ) (z : ℕ) → z ≡ number_from_digits 256 d → (TakesSpelling m d z → ⊥) → (k : ℕ) → SpellsDigits m d k → ⊥
not_so m d z w u k x = u (subst (λ q. TakesSpelling m d q) (sym x.number ∙ sym w) x.taken)

-- a count and digits
pub counted_measured : (m : BERMode) (x : ℕ) (s y d r : List ℕ) (k : ℕ) → IsBytes s → s ≡ x ∷ y → 128 < x → x < 255 → length d ≡ x - 128 → y ≡ d ++ r →
    SpellsDigits m d k → (l : List ℕ) × SpellsLength m k l × (s ≡ l ++ r)
counted_measured m x s y d r k b e h g n i z =
    let c : x ≡ 128 + length d = omega arith in
    let j : s ≡ ((128 + length d) ∷ d) ++ r = e ∙ ap (λ q. q ∷ y) c ∙ ap (λ q. (128 + length d) ∷ q) i in
    let o : IsBytes d = bytes_prefix d r (subst IsBytes (e ∙ ap (λ q. x ∷ q) i) b).1 in
    let P : ℕ → Type 0 = λ q. SpellsLength m q ((128 + length d) ∷ d) in
    let w = z.in_range in
    let v = z.number in (
      (128 + length d) ∷ d,
      subst P v (long_spells m d o (omega arith) (omega arith) (omega arith) (λ t. let u = spelling_takes m d k z.taken t in (omega (arith, u.0), u.1))),
      j,
    )

-- a first byte of 255 counts no digits
pub none_counted : (m : BERMode) (x : ℕ) (y : List ℕ) → x ≡ 255 → (k : ℕ) (r : List ℕ) → Measures m (x ∷ y) (Some k) r → ⊥
none_counted m x y e k r w = not_counted m x (x ∷ y) y refl (omega (arith, e)) (λ ds q i j n z b. omega (arith, e, b)) (Some k) r w

-- fewer digits than are counted spell none
pub none_left : (m : BERMode) (x : ℕ) (y : List ℕ) → 128 < x → length y < x - 128 → (k : ℕ) (r : List ℕ) → Measures m (x ∷ y) (Some k) r → ⊥
none_left m x y h l k r w = too_few m x (x ∷ y) y refl h l (Some k) r w

-- what the digits that are counted come to
pub digits_measured : (m : BERMode) (x : ℕ) (y d a : List ℕ) (o : Option ℕ) → IsBytes (x ∷ y) → 128 < x → x < 255 → length d ≡ x - 128 → y ≡ d ++ a →
    MatchOption o ((k : ℕ) → SpellsDigits m d k → ⊥) (λ k. SpellsDigits m d k) →
    MatchOption o ((k : ℕ) (r : List ℕ) → Measures m (x ∷ y) (Some k) r → ⊥)
    (λ k. (x - 128 ≤ length y) × Measures m (x ∷ y) (Some k) (drop (x - 128) y))
digits_measured m x y d a None b h g l j f = λ k r w. not_spelled m x (x ∷ y) y d a refl h l j f (Some k) r w
digits_measured m x y d a (Some k) b h g l j f =
    let n = length-append d a in
    let i : drop (x - 128) y ≡ a = ap (λ q. drop q y) (sym l) ∙ ap (λ z. drop (length d) z) j ∙ drop-append_seam d a in
    (omega (arith, l, ap length j), subst (λ z. Measures m (x ∷ y) (Some k) z) (sym i) (counted_measured m x (x ∷ y) y d a k b refl h g l j f))

-- nothing is there as a length, of whatever form
pub none_measured : (m : BERMode) (x : ℕ) (y : List ℕ) → (x ≡ 128 → ⊥) → ((k : ℕ) (r : List ℕ) → Measures m (x ∷ y) (Some k) r → ⊥) →
    (k : Option ℕ) (r : List ℕ) → Measures m (x ∷ y) k r → ⊥
none_measured m x y n f None r w = let e : x ≡ 128 = cc in n e
none_measured m x y n f (Some k) r w = f k r w

at_least_first : (k n : ℕ) (ds : List ℕ) → 0 < length ds → k ≡ number_from_digits_after 256 n ds → n * 256 ≤ k
at_least_first k n [] h e = absurd (omega arith)
at_least_first k n (d ∷ ds) h e = let g = number_after_ge 256 (n * 256 + d) ds (omega arith) in omega arith

-- a number is at least 256 times what its first digits are, where another follows them
pub grown : (ds : List ℕ) (i : ℕ) → i < length ds → number_from_digits 256 (take i ds) * 256 ≤ number_from_digits 256 ds
grown ds i h =
    let e : number_from_digits 256 ds ≡ number_from_digits_after 256 (number_from_digits 256 (take i ds)) (drop i ds) =
    ap (λ z. number_from_digits 256 z) (sym (take-append-drop i ds)) ∙ number_after_append 256 0 (take i ds) (drop i ds) in
    at_least_first (number_from_digits 256 ds) (number_from_digits 256 (take i ds)) (drop i ds) (omega (arith, length-drop i ds)) e
