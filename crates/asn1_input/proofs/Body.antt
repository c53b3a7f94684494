-- The headers and the body in the lines of a block, by the place of the first blank line.
use Rattle.std.proofs.Common.{◌≡◌, ℕ, ◌+◌, ◌<◌, ◌≤◌, List, [], ◌∷◌, length, take, drop, refl, ap, ◌∙◌, sym, arith, Bool, true, false, not, cond, Option, Some, None, suc}
use Rattle.std.specs.Prelude.{◌||◌, find}
use Rattle.std.specs.List.{after_first, before_first, list_any, position_or_len}
use Rattle.std.proofs.lemmas.List.{drop-map, take-map}
use Rattle.asn1_input.specs.Blocks.{body_in, has_headers, headers_in, is_blank}
use Rattle.asn1_input.specs.Reader.{texts}
use Rattle.asn1_input.specs.declared.block.TextLine.{TextLine}

-- ---- tests of the elements of a list, by the first that passes

none_by_case : (b rest : Bool) (n m : ℕ) → suc n ≤ cond (not b) (1 + m) 0 → (n ≤ m → rest ≡ false) → (b || rest) ≡ false
none_by_case true rest n m le more = absurd (omega (arith, le))
none_by_case false rest n m le more = more (omega (arith, le))

some_by_case : (b rest : Bool) (n m : ℕ) → cond (not b) (1 + m) 0 < suc n → (m < n → rest ≡ true) → (b || rest) ≡ true
some_by_case true rest n m lt more = refl
some_by_case false rest n m lt more = more (omega (arith, lt))

module _ {X : Type 0} (p : X → Bool) where
  pub none_passes : (xs : List X) → length xs ≤ position_or_len p xs → list_any p xs ≡ false
  none_passes [] le = refl
  none_passes (x ∷ xs) le = none_by_case (p x) (list_any p xs) (length xs) (position_or_len p xs) le (none_passes xs)

  pub one_passes : (xs : List X) → position_or_len p xs < length xs → list_any p xs ≡ true
  one_passes [] lt = absurd (omega (arith, lt))
  one_passes (x ∷ xs) lt = some_by_case (p x) (list_any p xs) (length xs) (position_or_len p xs) lt (one_passes xs)

found_by_case : {X : Type 0} (b c : Bool) (x y : X) (o : Option X) → cond b (Some x) o ≡ Some y → (o ≡ Some y → c ≡ true) → (b || c) ≡ true
found_by_case true c x y o e more = refl
found_by_case false c x y o e more = more e

missed_by_case : {X : Type 0} (b c : Bool) (x : X) (o : Option X) → cond b (Some x) o ≡ None → (o ≡ None → c ≡ false) → (b || c) ≡ false
missed_by_case true c x o e more = absurd (cc)
missed_by_case false c x o e more = more e

module _ {X : Type 0} (p : X → Bool) where
  pub any_found : (xs : List X) (y : X) → find p xs ≡ Some y → list_any p xs ≡ true
  any_found [] y e = absurd (cc)
  any_found (x ∷ xs) y e = found_by_case (p x) (list_any p xs) x y (find p xs) e (any_found xs y)

  pub none_found : (xs : List X) → find p xs ≡ None → list_any p xs ≡ false
  none_found [] e = refl
  none_found (x ∷ xs) e = missed_by_case (p x) (list_any p xs) x (find p xs) e (none_found xs)

-- ---- tests of the texts of lines

module _ (q : List ℕ → Bool) where
  pub any_text : (lines : List TextLine) → list_any q (texts lines) ≡ list_any (λ l. q l.text.now) lines
  any_text [] = refl
  any_text (x ∷ xs) = ap (λ z. q x.text.now || z) (any_text xs)

  pub place_of_text : (lines : List TextLine) → position_or_len q (texts lines) ≡ position_or_len (λ l. q l.text.now) lines
  place_of_text [] = refl
  place_of_text (x ∷ xs) = ap (λ z. cond (not (q x.text.now)) (1 + z) 0) (place_of_text xs)

-- ---- the headers and the body

module _ (lines : List TextLine) (has : has_headers (texts lines) ≡ true) (n : ℕ) (first : n ≡ position_or_len (λ l. is_blank l.text.now) lines) where
  same_place : position_or_len is_blank (texts lines) ≡ n
  same_place = place_of_text is_blank lines ∙ sym first

  pub headers_are : texts (take n lines) ≡ headers_in (texts lines)
  headers_are =
      sym (take-map (λ l. l.text.now) n lines) ∙ ap (λ z. take z (texts lines)) (sym same_place)
      ∙ ap (λ b. cond b (before_first is_blank (texts lines)) []) (sym has)

  pub body_is : texts (drop (n + 1) lines) ≡ body_in (texts lines)
  body_is =
      sym (drop-map (λ l. l.text.now) (n + 1) lines) ∙ ap (λ z. drop (z + 1) (texts lines)) (sym same_place)
      ∙ ap (λ b. cond b (after_first is_blank (texts lines)) (texts lines)) (sym has)
