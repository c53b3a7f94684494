-- The first line of a text, and what is left of it.
use Rattle.std.proofs.Common.{◌≡◌, ◌==◌, ℕ, ◌+◌, ◌<◌, ◌≤◌, List, [], ◌∷◌, length, take, drop, refl, ap, ◌∙◌, sym, arith, Bool, true, false, not, cond, ltb, ltb-true, ltb-false, Option, Some, None, Bor, suc}
use Rattle.std.specs.Prelude.{unwrap_or}
use Rattle.std.specs.List.{position_or_len}
use Rattle.std.proofs.lemmas.List.Elements.{All-from_get_or}
use Rattle.std.proofs.lemmas.List.Sums.{fails_before_first, prefix_len-le-length}
use Rattle.std.proofs.lemmas.List.Splits.{slice_split_first, slice_split_none}
use Rattle.asn1_input.specs.Blocks.{lines_of}

-- the place of the first line end, as `position` returns it
abbrev pub IsFirstEnd : List ℕ → Option ℕ → Type 0
IsFirstEnd text r = r ≡ cond (ltb (position_or_len (λ c. c == 10) text) (length text)) (Some (position_or_len (λ c. c == 10) text)) None

pub picked : (b : Bool) (p n : ℕ) → Some n ≡ cond b (Some p) None → (b ≡ true) × (p ≡ n)
picked true p n e = (refl, ap (λ z. unwrap_or z 0) (sym e))
picked false p n e = absurd (cc)

pub not_picked : (b : Bool) (p : ℕ) → None ≡ cond b (Some p) None → b ≡ false
not_picked true p e = absurd (cc)
not_picked false p e = refl

pub cut_lines : (text : List ℕ) (n : ℕ) → IsFirstEnd text (Some n) → lines_of text ≡ take n text ∷ lines_of (drop (n + 1) text)
cut_lines text n e =
    let x = picked _ _ n e in
    slice_split_first (λ c. c == 10) text 0 (ltb-true _ _ x.0) ∙ ap (λ z. take z text ∷ lines_of (drop (z + 1) text)) x.1

pub last_line : (text : List ℕ) → IsFirstEnd text None → lines_of text ≡ text ∷ []
last_line text e =
    let le = ltb-false _ _ (not_picked _ _ e) in
    slice_split_none (λ c. c == 10) text (All-from_get_or (λ c. (c == 10) ≡ false) text 0 (λ k l. fails_before_first (λ c. c == 10) text k 0 (omega
    (arith, le, l))))

-- the place of the first element that passes, as `position` returns it
abbrev pub Finds : {X : Type 0} → (X → Bool) → List X → Option ℕ → Type 0
Finds p xs r = r ≡ cond (ltb (position_or_len p xs) (length xs)) (Some (position_or_len p xs)) None

pub found_first : {X : Type 0} (p : X → Bool) (xs : List X) (r : Option ℕ) (n : ℕ) → Finds p xs r → r ≡ Some n → n ≡ position_or_len p xs
found_first p xs r n first e = sym (picked _ _ n (sym e ∙ first)).1

pub found_within : {X : Type 0} (p : X → Bool) (xs : List X) (r : Option ℕ) (n : ℕ) → Finds p xs r → r ≡ Some n → position_or_len p xs < length xs
found_within p xs r n first e = ltb-true _ _ (picked _ _ n (sym e ∙ first)).0

-- no element passes
pub past_all : {X : Type 0} (p : X → Bool) (xs : List X) (r : Option ℕ) → Finds p xs r → r ≡ None → length xs ≤ position_or_len p xs
past_all p xs r first e = ltb-false _ _ (not_picked _ _ (sym e ∙ first))

pub none_found : {X : Type 0} (p : X → Bool) (xs : List X) (r : Option ℕ) → Finds p xs r → r ≡ None → length xs ≡ position_or_len p xs
none_found p xs r first e = omega (arith, past_all p xs r first e, prefix_len-le-length (λ x. not (p x)) xs)

-- how much is left
abbrev pub size_left : Option (Bor (List ℕ)) → ℕ
size_left None = 0
size_left (Some text) = suc (length text.now)
