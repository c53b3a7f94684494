-- Lines with the marks of PEM.
use Rattle.std.proofs.Common.{◌≡◌, inl, inr, ℕ, ◌-◌, ◌+◌, ◌<◌, List, ◌++◌, length, take, drop, refl, ap, ◌∙◌, sym, subst, arith, Bool, true, false, Option, Some, None, Bor}
use Rattle.std.specs.Prelude.{◌↔◌, codes, IfSome, IfNone, IsTrue, nat_eq}
use Rattle.std.specs.Cmp.Lexicographic.{pointwise}
use Rattle.std.specs.List.{starts_with}
use Rattle.std.specs.Option.{MatchOption}
use Rattle.std.specs.Str.{IsTrimAsciiEnd}
use Rattle.std.proofs.lemmas.Bool.{cases_lt}
use Rattle.std.proofs.lemmas.Bool.Decides.{Decides-eqb}
use Rattle.std.proofs.lemmas.Slice.Eq.{starts_is, strip_prefix_is, strip_suffix_is}
use Rattle.asn1_input.specs.Blocks.{Begins, begin_boundary}

not_both : (b : Bool) → b ≡ true → b ≡ false → ⊥
not_both b e f = absurd (cc)

-- ---- spaces at the end

not_longer : (s r t : List ℕ) (x : IsTrimAsciiEnd s r) (y : IsTrimAsciiEnd s t) → x.0 < y.0 → ⊥
not_longer s r t x y h = not_both _ (x.4 (y.0 - 1) (omega (arith, h)) (omega (arith, h, y.3))) (y.5 (omega (arith, h)))

trimmed_same : (s r t : List ℕ) → IsTrimAsciiEnd s r → IsTrimAsciiEnd s t → r ≡ t
trimmed_same s r t x y = elim (cases_lt x.0 y.0) [
  | inl h ↦ absurd (not_longer s r t x y h)
  | inr h ↦ elim (cases_lt y.0 x.0) [
    | inl k ↦ absurd (not_longer s t r y x k)
    | inr k ↦ x.1 ∙ ap (λ n. take n s) (omega (arith, h, k)) ∙ sym y.1
  ]
]

-- ---- what tests of a line tell

-- a line begins with a mark
abbrev pub HasPrefix : List ℕ → List ℕ → Type 0
HasPrefix boundary line = (others : List ℕ) × (line ≡ boundary ++ others)

pub prefix_found : (line boundary : List ℕ) (r : Bool) → r ≡ starts_with nat_eq line boundary → r ≡ true → HasPrefix boundary line
prefix_found line boundary r e yes-r = (_, (starts_is Decides-eqb line boundary r e).0 yes-r)

pub prefix_missed : (line boundary : List ℕ) (r : Bool) → r ≡ starts_with nat_eq line boundary → r ≡ false → HasPrefix boundary line → ⊥
prefix_missed line boundary r e no-r x = not_both r ((starts_is Decides-eqb line boundary r e).1 x.0 x.1) no-r

-- the same of the text that is the line without its indentation
pub prefix_tested : (line text boundary : List ℕ) (r : Bool) → text ≡ line → r ≡ starts_with nat_eq text boundary → IsTrue r ↔ HasPrefix boundary line
prefix_tested line text boundary true same e = (λ u. subst (HasPrefix boundary) same (prefix_found text boundary true e refl), λ x. refl)
prefix_tested line text boundary false same e = (
  λ u. absurd (cc),
  λ x. absurd (prefix_missed text boundary false e refl (subst (HasPrefix boundary) (sym same) x)),
)

-- `strip_prefix` and `strip_suffix`
abbrev pub StripsPrefix : List ℕ → List ℕ → Option (Bor (List ℕ)) → Type 0
StripsPrefix s p r =
    MatchOption r (pointwise nat_eq (take (length p) s) p ≡ false)
    (λ x. (pointwise nat_eq (take (length p) s) p ≡ true) × (x.now ≡ drop (length p) s) × (length x.now + length p ≡ length s))

abbrev pub StripsSuffix : List ℕ → List ℕ → Option (Bor (List ℕ)) → Type 0
StripsSuffix s p r =
    MatchOption r (pointwise nat_eq (drop (length s - length p) s) p ≡ false)
    (λ x. (pointwise nat_eq (drop (length s - length p) s) p ≡ true) × (x.now ≡ take (length s - length p) s) × (length x.now + length p ≡ length s))

pub stripped : (line : List ℕ) (rest : Bor (List ℕ)) (r : Option (Bor (List ℕ))) → StripsPrefix line begin_boundary r → r ≡ Some rest →
    line ≡ begin_boundary ++ rest.now
stripped line rest r h e = strip_prefix_is Decides-eqb line begin_boundary (Some rest) (subst (StripsPrefix line begin_boundary) e h)

pub label_found : (line rest trimmed : List ℕ) (r : Option (Bor (List ℕ))) → line ≡ begin_boundary ++ rest → IsTrimAsciiEnd rest trimmed →
    StripsSuffix trimmed (codes "-----") r →
    IfSome r (λ label. Begins line label.now)
label_found line rest trimmed None e t h = tt
label_found line rest trimmed (Some label) e t h = record {
  others = rest;
  joined = e;
  trimmed = subst (IsTrimAsciiEnd rest) (strip_suffix_is Decides-eqb trimmed (codes "-----") (Some label) h) t;
}

pub label_missed : (line rest trimmed : List ℕ) (r : Option (Bor (List ℕ))) → line ≡ begin_boundary ++ rest → IsTrimAsciiEnd rest trimmed →
    StripsSuffix trimmed (codes "-----") r →
    IfNone r ((label : List ℕ) → Begins line label → ⊥)
label_missed line rest trimmed (Some label) e t h = tt
label_missed line rest trimmed None e t h = λ label x.
    let same : x.others ≡ rest = ap (drop 11) (sym x.joined ∙ e) in
    strip_suffix_is Decides-eqb trimmed (codes "-----") None h label
    (trimmed_same rest trimmed (label ++ codes "-----") t (subst (λ s. IsTrimAsciiEnd s (label ++ codes "-----")) same x.trimmed))
