-- Lists that agree after joining.
use Rattle.std.proofs.Common.{◌≡◌, ℕ, get_or, List, [], ◌∷◌, ◌++◌, length, refl, ap, ◌∙◌, sym, inl, inr, arith, ◌⊎◌, length-append}

-- prefixes of one length of two equal lists are equal, and so are the rests
pub prefixes_same : {A : Type 0} → (a b r s : List A) → length a ≡ length b → a ++ r ≡ b ++ s → (a ≡ b) × (r ≡ s)
prefixes_same [] [] r s n e = (refl, e)
prefixes_same [] (y ∷ b) r s n e = absurd (omega (arith, n))
prefixes_same (x ∷ a) [] r s n e = absurd (omega (arith, n))
prefixes_same {A} (x ∷ a) (y ∷ b) r s n e =
    let h : x ≡ y = cc in
    let t : a ++ r ≡ b ++ s = cc in
    let m : length a ≡ length b = omega arith in
    let w = prefixes_same a b r s m t in
    let f : a ≡ b = w.0 in
    ((cc), w.1)

-- of two prefixes of one list, one begins the other
pub prefixes_split : {A : Type 0} → (a b r s : List A) → a ++ r ≡ b ++ s →
    ((x : List A) × (b ≡ a ++ x) × (r ≡ x ++ s)) ⊎ ((x : List A) × (a ≡ b ++ x) × (s ≡ x ++ r))
prefixes_split [] b r s e = inl (b, refl, e)
prefixes_split (x ∷ a) [] r s e = inr (x ∷ a, refl, sym e)
prefixes_split (x ∷ a) (y ∷ b) r s e =
    let h : x ≡ y = cc in
    let t : a ++ r ≡ b ++ s = cc in
    elim (prefixes_split a b r s t) [
      | inl w ↦ let f : b ≡ a ++ w.0 = w.1 in inl (w.0, (cc), w.2)
      | inr w ↦ let f : a ≡ b ++ w.0 = w.1 in inr (w.0, (cc), w.2)
    ]

-- the prefixes of an equation replaced by equal ones
pub prefixes_as : {A : Type 0} {a b x y : List A} → (r s : List A) → a ≡ x → b ≡ y → a ++ r ≡ b ++ s → x ++ r ≡ y ++ s
prefixes_as r s f g e = sym (ap (λ z. z ++ r) f) ∙ e ∙ ap (λ z. z ++ s) g

-- what follows a common front is equal
pub append_same : {A : Type 0} → (a r s : List A) → a ++ r ≡ a ++ s → r ≡ s
append_same a r s e = (prefixes_same a a r s refl e).1

-- what is before a common rest is equal
pub append_before : {A : Type 0} → (a b r : List A) → a ++ r ≡ b ++ r → a ≡ b
append_before a b r e =
    let n = ap length e in
    let i = length-append a r in
    let j = length-append b r in
    (prefixes_same a b r r (omega arith) e).0

pub empty_is : {A : Type 0} → (s : List A) → length s ≡ 0 → s ≡ []
empty_is [] e = refl
empty_is (x ∷ s) e = absurd (omega arith)

-- a list of one number
pub one_of : (s : List ℕ) → length s ≡ 1 → s ≡ get_or s 0 0 ∷ []
one_of [] e = absurd (omega arith)
one_of (x ∷ []) e = refl
one_of (x ∷ y ∷ s) e = absurd (omega arith)
