-- Subidentifiers, octet by octet.
use Rattle.std.proofs.Common.{◌≡◌, ◌↔◌, ℕ, ◌+◌, ◌-◌, ◌*◌, ◌<◌, ◌≤◌, List, [], ◌∷◌, ◌++◌, length, refl, ap, ◌∙◌, sym, subst, arith, inl, inr, Bool}
use Rattle.std.proofs.Common.{true, false, ltb, lt-ltb, le-ltb, Option, Some, None, get_or, take, drop, length-append}
use Rattle.std.specs.List.{flat_map}
use Rattle.std.proofs.lemmas.Bool.{cases_lt}
use Rattle.std.proofs.lemmas.List.{at_drop_more, take-append-drop}
use Rattle.yasna_base.specs.Digits.{IsBytes, base128}
use Rattle.yasna_base.proofs.Base128.{scan, scan_last, scan_more, scan_base, base_head, base_found}
use Rattle.yasna_base.proofs.Digits.{base128_exact, base128_some, bytes_after}
use Rattle.asn1_contents.specs.Subidentifiers.{AreSubidentifiers}

-- numbers in base 128, or none
abbrev pub AreNumbers : List ℕ → Type 0
AreNumbers c = (ks : List ℕ) × (c ≡ flat_map base128 ks)

-- the end of such a number, and numbers after it
pub record InNumber (c : List ℕ) : Type 0 where
  pub number : ℕ
  pub rest : List ℕ
  pub ends : scan 0 c ≡ Some (number, rest)
  pub others : AreNumbers rest

-- what is left is as it is to be, at the beginning of a number or within one
abbrev pub AreLeft : Bool → List ℕ → Type 0
AreLeft true c = AreNumbers c
AreLeft false c = InNumber c

abbrev rest_of : Option (ℕ × List ℕ) → List ℕ
rest_of None = []
rest_of (Some x) = x.1

-- where a number ends doesn't hang on what was read of it
ends_there : (s : List ℕ) (n m k : ℕ) (r : List ℕ) → scan n s ≡ Some (k, r) → (j : ℕ) × (scan m s ≡ Some (j, r))
ends_there [] n m k r e = absurd (cc)
ends_there (x ∷ s) n m k r e = elim (cases_lt x 128) [
  | inl h ↦ (m * 128 + x, scan_last m x s h ∙ ap (λ z. Some (m * 128 + x, z)) (ap rest_of (sym (scan_last n x s h) ∙ e)))
  | inr h ↦ let y = ends_there s (n * 128 + (x - 128)) (m * 128 + (x - 128)) k r (sym (scan_more n x s h) ∙ e) in (y.0, scan_more m x s h ∙ y.1)
]

abbrev first : List ℕ → ℕ
first [] = 0
first (x ∷ xs) = x

rest_numbers : (x : ℕ) (s : List ℕ) → x ∷ s ≡ base128 (0 * 128 + x) ++ s → (ks : List ℕ) → x ∷ s ≡ flat_map base128 ks → AreNumbers s
rest_numbers x s single [] e = absurd (cc)
rest_numbers x s single (k ∷ ks) e = (ks, (base128_exact (0 * 128 + x) k s (flat_map base128 ks) (sym single ∙ e)).1)

no_zero : (s ks : List ℕ) → 128 ∷ s ≡ flat_map base128 ks → ⊥
no_zero s [] e = absurd (cc)
no_zero s (k ∷ ks) e = base_head k (flat_map base128 ks) s (sym e)

begun : (x : ℕ) (s : List ℕ) → 128 ≤ x → (ks : List ℕ) → x ∷ s ≡ flat_map base128 ks → InNumber s
begun x s h [] e = absurd (cc)
begun x s h (k ∷ ks) e =
    let y = ends_there s (0 * 128 + (x - 128)) 0 k (flat_map base128 ks) (sym (scan_more 0 x s h) ∙ (ap (scan 0) e ∙ scan_base k (flat_map base128 ks))) in
    record { number = y.0; rest = flat_map base128 ks; ends = y.1; others = (ks, refl) }

-- an octet that is a number alone
pub alone : (x : ℕ) (s : List ℕ) → IsBytes (x ∷ s) → x < 128 → AreNumbers (x ∷ s) ↔ AreNumbers s
alone x s bytes h =
    let other : (y : List ℕ) → x ∷ s ≡ 128 ∷ y → ⊥ = λ y e. let f : x ≡ 128 = ap first e in omega (arith, h, f) in
    let single : x ∷ s ≡ base128 (0 * 128 + x) ++ s = base_found (x ∷ s) (0 * 128 + x) s bytes other (scan_last 0 x s h) in (
      λ w. rest_numbers x s single w.0 w.1,
      λ w. ((0 * 128 + x) ∷ w.0, single ∙ ap (λ z. base128 (0 * 128 + x) ++ z) w.1),
    )

-- one that begins with a digit of zero
pub zero_begins : (s : List ℕ) → AreNumbers (128 ∷ s) → ⊥
zero_begins s w = no_zero s w.0 w.1

-- one that others follow
pub begins : (x : ℕ) (s : List ℕ) → IsBytes (x ∷ s) → 128 ≤ x → (x ≡ 128 → ⊥) → AreNumbers (x ∷ s) ↔ InNumber s
begins x s bytes h other = (
  λ w. begun x s h w.0 w.1,
  λ w.
      let y = ends_there s 0 (0 * 128 + (x - 128)) w.number w.rest w.ends in
      let found = base_found (x ∷ s) y.0 w.rest bytes (λ z e. other (ap first e)) (scan_more 0 x s h ∙ y.1) in
      (y.0 ∷ w.others.0, found ∙ ap (λ z. base128 y.0 ++ z) w.others.1),
)

-- the last octet of a number
pub ends : (x : ℕ) (s : List ℕ) → x < 128 → InNumber (x ∷ s) ↔ AreNumbers s
ends x s h = (
  λ w. subst AreNumbers (sym (ap rest_of (sym (scan_last 0 x s h) ∙ w.ends))) w.others,
  λ w. record { number = 0 * 128 + x; rest = s; ends = scan_last 0 x s h; others = w },
)

-- one before it
pub goes_on : (x : ℕ) (s : List ℕ) → 128 ≤ x → InNumber (x ∷ s) ↔ InNumber s
goes_on x s h = (
  λ w. let y = ends_there s (0 * 128 + (x - 128)) 0 w.number w.rest (sym (scan_more 0 x s h) ∙ w.ends) in
      record { number = y.0; rest = w.rest; ends = y.1; others = w.others },
  λ w. let y = ends_there s 0 (0 * 128 + (x - 128)) w.number w.rest w.ends in
      record { number = y.0; rest = w.rest; ends = scan_more 0 x s h ∙ y.1; others = w.others },
)

-- ---- one octet

pub one_octet : (begins : Bool) (x : ℕ) (s : List ℕ) → IsBytes (x ∷ s) → (begins ≡ true → x ≡ 128 → ⊥) → AreLeft begins (x ∷ s) ↔ AreLeft (ltb x 128) s
one_octet true x s bytes other = elim (cases_lt x 128) [
  | inl h ↦ rw (lt-ltb x 128 h) (alone x s bytes h)
  | inr h ↦ rw (le-ltb x 128 h) (begins x s bytes h (other refl))
]
one_octet false x s bytes other = elim (cases_lt x 128) [
  | inl h ↦ rw (lt-ltb x 128 h) (ends x s h)
  | inr h ↦ rw (le-ltb x 128 h) (goes_on x s h)
]

pub rejected : (begins : Bool) (x : ℕ) (s : List ℕ) → begins ≡ true → x ≡ 128 → AreLeft begins (x ∷ s) → ⊥
rejected true x s e f w = zero_begins s (subst (λ z. AreNumbers (z ∷ s)) f w)
rejected false x s e f w = absurd (cc)

pub octets_left : (c : List ℕ) (i : ℕ) → IsBytes c → i < length c → (drop i c ≡ get_or c i 0 ∷ drop (i + 1) c) × IsBytes (get_or c i 0 ∷ drop (i + 1) c)
octets_left c i bytes h =
    let e = at_drop_more (λ z. z) c i 0 h in
    (e, subst IsBytes e (bytes_after (take i c) (drop i c) (subst IsBytes (sym (take-append-drop i c)) bytes)))

-- ---- all octets

not_none : (c : List ℕ) → 1 ≤ length c → (ks : List ℕ) → c ≡ flat_map base128 ks → 1 ≤ length ks
not_none c some [] e = absurd (omega (arith, ap length e, some))
not_none c some (k ∷ ks) e = omega arith

spelled_some : (c ks : List ℕ) → 1 ≤ length ks → c ≡ flat_map base128 ks → 1 ≤ length c
spelled_some c [] some e = absurd (omega (arith, some))
spelled_some c (k ∷ ks) some e = omega (arith, ap length e, length-append (base128 k) (flat_map base128 ks), base128_some k)

pub some_numbers : (c : List ℕ) → 1 ≤ length c → (w : AreNumbers c) → AreSubidentifiers c
some_numbers c some w = record { numbers = w.0; spelled = w.1; some = not_none c some w.0 w.1 }

pub some_octets : (c : List ℕ) (w : AreSubidentifiers c) → 1 ≤ length c
some_octets c w = spelled_some c w.numbers w.some w.spelled

pub none_left : (begins : Bool) (rest : List ℕ) → begins ≡ true → rest ≡ [] → AreLeft begins rest
none_left true rest e f = ([], f)
none_left false rest e f = absurd (cc)
