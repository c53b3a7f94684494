-- Times of one moment are one.
use Rattle.std.proofs.Common.{◌≡◌, ◌<◌, ◌++◌, ℕ, zero, suc, List, [], ◌∷◌, length, get_or, Bool, true, false, if◌then◌else◌, refl, sym, ap, ◌∙◌, arith}
use Rattle.jiff.proofs.Family.{same_datetime, civil_nanos-parts}
use Rattle.yasna_times.specs.declared.models.generalized_time.GeneralizedTime.{GeneralizedTime}
use Rattle.yasna_times.specs.Decimal.{value}
use Rattle.yasna_times.specs.Fraction.{IsTrimmed, trimmed, trimmed_cons, nine_digits}
use Rattle.yasna_times.specs.Models.{moment_of, SameTime}
use Rattle.yasna_times.specs.Moment.{Moment}
use Rattle.yasna_times.proofs.Fraction.{nine_value, by_zero, less_trimmed}

-- a digit of a fraction, 0 after its last
abbrev digit_at : List ℕ → ℕ → ℕ
digit_at ds i = get_or ds i 48

no_digit : (c : ℕ) (a : List ℕ) → c ≡ 48 → ((i : ℕ) → 48 ≡ digit_at a i) → (i : ℕ) → 48 ≡ digit_at (c ∷ a) i
no_digit c a e h zero = sym e
no_digit c a e h (suc i) = h i

single_digit : (c : ℕ) (a : List ℕ) → ((i : ℕ) → 48 ≡ digit_at a i) → (i : ℕ) → digit_at (c ∷ []) i ≡ digit_at (c ∷ a) i
single_digit c a h zero = refl
single_digit c a h (suc i) = h i

cons_digit : (c : ℕ) (a t : List ℕ) → ((i : ℕ) → digit_at t i ≡ digit_at a i) → (i : ℕ) → digit_at (trimmed_cons c t) i ≡ digit_at (c ∷ a) i
cons_digit c a (d ∷ t) h zero = refl
cons_digit c a (d ∷ t) h (suc i) = h i
cons_digit c a [] h i = by_zero c (λ t. digit_at t i ≡ digit_at (c ∷ a) i) (λ e. no_digit c a e h i) (λ ne. single_digit c a h i)

-- zeros at the end are no digits
trimmed_digit : (a : List ℕ) (i : ℕ) → digit_at (trimmed a) i ≡ digit_at a i
trimmed_digit [] i = refl
trimmed_digit (c ∷ a) i = cons_digit c a (trimmed a) (trimmed_digit a) i

zeros_empty : (a : List ℕ) → IsTrimmed a → ((i : ℕ) → 48 ≡ digit_at a i) → a ≡ []
zeros_empty [] t h = refl
zeros_empty (c ∷ []) t h = absurd (t (omega arith) (sym (h 0)))
zeros_empty (c ∷ d ∷ a) t h =
    let e = zeros_empty (d ∷ a) (less_trimmed c d a t) (λ i. h (suc i)) in
    absurd (let none : length (d ∷ a) ≡ 0 = ap length e in omega arith)

later : (c : ℕ) (a : List ℕ) → IsTrimmed (c ∷ a) → IsTrimmed a
later c [] t = λ some. absurd (omega arith)
later c (d ∷ a) t = less_trimmed c d a t

-- digits with no 0 at their end that are equal place by place
same_digits : (a b : List ℕ) → IsTrimmed a → IsTrimmed b → ((i : ℕ) → digit_at a i ≡ digit_at b i) → a ≡ b
same_digits [] b t u h = sym (zeros_empty b u h)
same_digits (c ∷ a) [] t u h = zeros_empty (c ∷ a) t (λ i. sym (h i))
same_digits (c ∷ a) (d ∷ b) t u h =
    let e : c ≡ d = h 0 in
    let f = same_digits a b (later c a t) (later d b u) (λ i. h (suc i)) in
    ap (λ x. x ∷ a) e ∙ ap (λ x. d ∷ x) f

-- the nanosecond, and the digits after it
split_is : (n k : ℕ) (a b : List ℕ) → n < 1000000000 → k < 1000000000 → IsTrimmed a → IsTrimmed b →
    trimmed (nine_digits n ++ a) ≡ trimmed (nine_digits k ++ b) → (n ≡ k) × (a ≡ b)
split_is n k a b hn hk t u e =
    let d : (i : ℕ) → digit_at (nine_digits n ++ a) i ≡ digit_at (nine_digits k ++ b) i =
    λ i. sym (trimmed_digit (nine_digits n ++ a) i) ∙ ap (λ l. digit_at l i) e ∙ trimmed_digit (nine_digits k ++ b) i in
    let d₀ = d 0 in let d₁ = d 1 in let d₂ = d 2 in let d₃ = d 3 in let d₄ = d 4 in
    let d₅ = d 5 in let d₆ = d 6 in let d₇ = d 7 in let d₈ = d 8 in
    let nine : nine_digits n ≡ nine_digits k = cc in
    (sym (nine_value n hn) ∙ ap value nine ∙ nine_value k hk, same_digits a b t u (λ i. d (suc (suc (suc (suc (suc (suc (suc (suc (suc i)))))))))))

-- the flag and the second after what a clock shows
seconds_are : (a b : Bool) (s t : ℕ) → s < 60 → t < 60 → (a ≡ true → s ≡ 59) → (b ≡ true → t ≡ 59) →
    (if a then 60 else s) ≡ (if b then 60 else t) → (a ≡ b) × (s ≡ t)
seconds_are true true s t hs ht f g e = (refl, f refl ∙ sym (g refl))
seconds_are true false s t hs ht f g e = absurd (omega arith)
seconds_are false true s t hs ht f g e = absurd (omega arith)
seconds_are false false s t hs ht f g e = (refl, e)

-- times of one moment are one
pub same_moment : (a b : GeneralizedTime) → moment_of a ≡ moment_of b → SameTime a b
same_moment a b e =
    let x = a.datetime in
    let y = b.datetime in
    let date : x.date ≡ y.date = ap (λ (m : Moment). m.date) e in
    let hour : x.time.hour ≡ y.time.hour = ap (λ (m : Moment). m.hour) e in
    let minute : x.time.minute ≡ y.time.minute = ap (λ (m : Moment). m.minute) e in
    let second = seconds_are a.is_leap_second b.is_leap_second x.time.second y.time.second x.time.second_in y.time.second_in a.flagged b.flagged
    (ap (λ (m : Moment). m.second) e) in
    let split = split_is x.time.subsec_nanosecond y.time.subsec_nanosecond a.sub_nano.items b.sub_nano.items x.time.subsec_in y.time.subsec_in a.trimmed
    b.trimmed (ap (λ (m : Moment). m.fraction) e) in
    let s : x.time.second ≡ y.time.second = second.1 in
    let n : x.time.subsec_nanosecond ≡ y.time.subsec_nanosecond = split.0 in
    record { datetime = same_datetime x y (civil_nanos-parts x ∙ (cc) ∙ sym (civil_nanos-parts y)); digits = split.1; flag = second.0 }
