-- The pieces of a text, and the text with spaces for what is no digit.
use Rattle.std.proofs.Common.{◌≡◌, ◌∙◌, ◌+◌, ◌-◌, ◌<◌, ◌≤◌, ◌==◌, ℕ, zero, suc, Bool, true, false, cond, not, List, [], ◌∷◌, ◌++◌, length, take, drop, refl, ap, sym, arith, ltb-true, ltb-false, Option, Some, None, Bor, append_assoc, length-append, length-drop}
use Rattle.std.specs.Prelude.{◌&&◌, codes, map, nat_eq, replicate}
use Rattle.std.specs.Char.{is_ascii_hexdigit, is_ascii_whitespace}
use Rattle.std.specs.List.{join_with_byte, onto_first, prefix_len, slice_split, starts_with}
use Rattle.std.proofs.lemmas.Bool.{eqb-true}
use Rattle.std.proofs.lemmas.List.{length-replicate, take_all}
use Rattle.std.proofs.lemmas.List.Elements.{All-from_get_or}
use Rattle.std.proofs.lemmas.List.Sums.{fails_before_first, prefix_len-le-length}
use Rattle.std.proofs.lemmas.List.Splits.{length-slice_split, slice_split-cons_no, slice_split-cons_yes, slice_split_first, slice_split_none}
use Rattle.asn1_input.specs.Blocks.{unindented}
use Rattle.asn1_input.specs.Hex.{after_offset, bare_indented, bare_line, bare_number, bare_piece, bare_pieces, columns_len, has_offset, is_number, offset_len, only_columns, pieces_left, pieces_of, separator_before, two_spaces}
use Rattle.asn1_input.specs.declared.hex_layout.HexLayout.{HexLayout}
use Rattle.asn1_input.specs.declared.hex_layout.HexLayout.TheVariants.{Digits, Numbers, Xxd, Hexdump}
use Rattle.asn1_input.proofs.Cut.{Finds, not_picked, picked}

-- ---- where a text is cut

pub cut_pieces : (p : ℕ → Bool) (text : List ℕ) (n : ℕ) → Finds p text (Some n) → slice_split p text ≡ take n text ∷ slice_split p (drop (n + 1) text)
cut_pieces p text n e =
    let x = picked _ _ n e in
    slice_split_first p text 0 (ltb-true _ _ x.0) ∙ ap (λ z. take z text ∷ slice_split p (drop (z + 1) text)) x.1

pub last_piece : (p : ℕ → Bool) (text : List ℕ) → Finds p text None → slice_split p text ≡ text ∷ []
last_piece p text e =
    let le = ltb-false _ _ (not_picked _ _ e) in
    slice_split_none p text (All-from_get_or (λ c. p c ≡ false) text 0 (λ k l. fails_before_first p text k 0 (omega (arith, le, l))))

-- ---- two spaces

pub spaces_here : (text : List ℕ) → starts_with nat_eq text (codes "  ") ≡ true → two_spaces text ≡ 0
spaces_here [] e = refl
spaces_here (c ∷ more) e = rw e refl

pub spaces_beyond : (c : ℕ) (more : List ℕ) → starts_with nat_eq (c ∷ more) (codes "  ") ≡ false → two_spaces (c ∷ more) ≡ suc (two_spaces more)
spaces_beyond c more e = rw e refl

spaces_within : (c : ℕ) (more : List ℕ) (b : Bool) → starts_with nat_eq (c ∷ more) (codes "  ") ≡ b → two_spaces more ≤ length more →
    two_spaces (c ∷ more) ≤ length (c ∷ more)
spaces_within c more true e l = omega (arith, spaces_here (c ∷ more) e)
spaces_within c more false e l = omega (arith, spaces_beyond c more e, l)

two_spaces_within : (text : List ℕ) → two_spaces text ≤ length text
two_spaces_within [] = omega (arith)
two_spaces_within (c ∷ more) = spaces_within c more (starts_with nat_eq (c ∷ more) (codes "  ")) refl (two_spaces_within more)

two_spaces_by : (i : ℕ) (text : List ℕ) → i < length text → two_spaces (drop i text) ≡ cond (starts_with nat_eq (drop i text) (codes "  ")) 0 (suc (two_spaces (drop (suc i) text)))
two_spaces_by i [] l = omega (arith, l)
two_spaces_by zero (c ∷ more) l = refl
two_spaces_by (suc i) (c ∷ more) l = two_spaces_by i more (omega (arith, l))

-- two spaces aren't at an index of a text
pub spaces_past : (i : ℕ) (text : List ℕ) → i < length text → starts_with nat_eq (take (length text - i) (drop i text)) (codes "  ") ≡ false →
    two_spaces (drop i text) ≡ suc (two_spaces (drop (i + 1) text))
spaces_past i text l e =
    let whole = take_all (length text - i) (drop i text) (omega (arith, length-drop i text)) in
    let next : suc i ≡ i + 1 = omega (arith) in
    two_spaces_by i text l
    ∙ ap (λ z. cond (starts_with nat_eq z (codes "  ")) 0 (suc (two_spaces (drop (suc i) text)))) (sym whole)
    ∙ ap (λ z. cond z 0 (suc (two_spaces (drop (suc i) text)))) e
    ∙ ap (λ k. suc (two_spaces (drop k text))) next

-- ---- the pieces joined

-- the length of pieces with one octet between each two
len_all : List (List ℕ) → ℕ
len_all [] = 0
len_all (x ∷ []) = length x
len_all (x ∷ y ∷ more) = length x + suc (len_all (y ∷ more))

len_after_empty : (pieces : List (List ℕ)) → 1 ≤ length pieces → len_all ([] ∷ pieces) ≡ suc (len_all pieces)
unfolding len_all
len_after_empty [] l = omega (arith, l)
len_after_empty (y ∷ more) l = omega (arith)

len_onto_first : (x : ℕ) (pieces : List (List ℕ)) → len_all (onto_first x pieces) ≡ suc (len_all pieces)
unfolding len_all
len_onto_first x [] = refl
len_onto_first x (y ∷ []) = refl
len_onto_first x (y ∷ z ∷ more) = omega (arith)

some_piece : (p : ℕ → Bool) (text : List ℕ) → 1 ≤ length (slice_split p text)
some_piece p text = omega (arith, length-slice_split p text)

len_split_by : (p : ℕ → Bool) (x : ℕ) (more : List ℕ) (b : Bool) → p x ≡ b → len_all (slice_split p more) ≡ length more →
    len_all (slice_split p (x ∷ more)) ≡ length (x ∷ more)
len_split_by p x more true e l =
    ap len_all (slice_split-cons_yes p x more e) ∙ len_after_empty (slice_split p more) (some_piece p more) ∙ ap suc l
len_split_by p x more false e l =
    ap len_all (slice_split-cons_no p x more e) ∙ len_onto_first x (slice_split p more) ∙ ap suc l

len_split : (p : ℕ → Bool) (text : List ℕ) → len_all (slice_split p text) ≡ length text
unfolding len_all
len_split p [] = refl
len_split p (x ∷ more) = len_split_by p x more (p x) refl (len_split p more)

len_joined : (f : List ℕ → List ℕ) → ((x : List ℕ) → length (f x) ≡ length x) → (pieces : List (List ℕ)) →
    length (join_with_byte 32 (map f pieces)) ≡ len_all pieces
unfolding len_all
len_joined f same [] = refl
len_joined f same (x ∷ []) = same x
len_joined f same (x ∷ y ∷ more) =
    length-append (f x) (32 ∷ join_with_byte 32 (map f (y ∷ more)))
    ∙ ap (λ n. n + suc (length (join_with_byte 32 (map f (y ∷ more))))) (same x)
    ∙ ap (λ n. length x + suc n) (len_joined f same (y ∷ more))

-- the next piece, and what separates it from the rest
joined_before : (f : List ℕ → List ℕ) (piece : List ℕ) (pieces : List (List ℕ)) → 1 ≤ length pieces →
    join_with_byte 32 (map f (piece ∷ pieces)) ≡ f piece ++ (32 ∷ join_with_byte 32 (map f pieces))
joined_before f piece [] l = let none : ⊥ = omega (arith, l) in absurd none
joined_before f piece (y ∷ more) l = refl

pub nothing_after : (xs : List ℕ) → xs ++ [] ≡ xs
nothing_after [] = refl
nothing_after (x ∷ xs) = ap (λ ys. x ∷ ys) (nothing_after xs)

joined_next : (layout : HexLayout) (piece : List ℕ) (after : Option (Bor (List ℕ))) →
    bare_pieces layout (piece ∷ pieces_left layout after) ≡ bare_piece layout piece ++ (separator_before after ++ bare_pieces layout (pieces_left layout after))
joined_next layout piece None = sym (nothing_after (bare_piece layout piece))
joined_next layout piece (Some text) = joined_before (bare_piece layout) piece (pieces_of layout text.now) (some_piece _ text.now)

pub joined_on : (layout : HexLayout) (old middle new whole piece : List ℕ) (after : Option (Bor (List ℕ))) →
    middle ≡ old ++ bare_piece layout piece → new ≡ middle ++ separator_before after → old ++ bare_pieces layout (piece ∷ pieces_left layout after) ≡ whole →
    new ++ bare_pieces layout (pieces_left layout after) ≡ whole
joined_on layout old middle new whole piece after pushed separated all =
    let rest = bare_pieces layout (pieces_left layout after) in
    ap (λ z. z ++ rest) separated
    ∙ ap (λ z. (z ++ separator_before after) ++ rest) pushed
    ∙ append_assoc (old ++ bare_piece layout piece) (separator_before after) rest
    ∙ append_assoc old (bare_piece layout piece) (separator_before after ++ rest)
    ∙ ap (λ z. old ++ z) (sym (joined_next layout piece after))
    ∙ all

-- ---- the length of a text with spaces

offset_within : (line : List ℕ) → offset_len line ≤ length line
offset_within line = prefix_len-le-length (λ c. not (not (is_ascii_hexdigit c))) line

columns_within : (layout : HexLayout) (rest : List ℕ) → columns_len layout rest ≤ length rest
columns_within Digits rest = omega (arith)
columns_within Numbers rest = omega (arith)
columns_within Xxd rest = two_spaces_within rest
columns_within Hexdump rest = prefix_len-le-length (λ c. not (c == 124)) rest

len_taken : (n : ℕ) (xs : List ℕ) → n ≤ length xs → length (take n xs) ≡ n
len_taken zero xs l = refl
len_taken (suc n) [] l = omega (arith, l)
len_taken (suc n) (x ∷ xs) l = ap suc (len_taken n xs (omega (arith, l)))

len_columns : (layout : HexLayout) (line : List ℕ) → length (only_columns layout line) ≡ length line
len_columns layout line =
    let rest = after_offset line in
    let n = columns_len layout rest in
    omega (
      arith,
      offset_within line,
      columns_within layout rest,
      length-drop (offset_len line) line,
      len_taken n rest (columns_within layout rest),
      length-replicate {A = ℕ} (offset_len line) 32,
      length-replicate {A = ℕ} (length rest - n) 32,
      length-append (take n rest) (replicate (length rest - n) 32),
      length-append (replicate (offset_len line) 32) (take n rest ++ replicate (length rest - n) 32),
    )

len_either : (b : Bool) (xs ys : List ℕ) (n : ℕ) → (b ≡ true → length xs ≡ n) → length ys ≡ n → length (cond b xs ys) ≡ n
len_either true xs ys n x y = x refl
len_either false xs ys n x y = y

len_line : (layout : HexLayout) (line : List ℕ) → length (bare_line layout line) ≡ length line
len_line layout line = len_either (has_offset layout line) _ _ _ (λ e. len_columns layout line) (length-replicate (length line) 63)

len_indented : (layout : HexLayout) (line : List ℕ) → length (bare_indented layout line) ≡ length line
len_indented layout line =
    let text = unindented line in
    omega (
      arith,
      length-drop (prefix_len is_ascii_whitespace line) line,
      prefix_len-le-length is_ascii_whitespace line,
      len_line layout text,
      length-replicate {A = ℕ} (length line - length text) 32,
      length-append (replicate (length line - length text) 32) (bare_line layout text),
    )

and_true : (a b : Bool) → (a && b) ≡ true → (a ≡ true) × (b ≡ true)
and_true true true e = (refl, refl)
and_true true false e = absurd (cc)
and_true false b e = absurd (cc)

pub number_long : (piece : List ℕ) → is_number piece ≡ true → length piece ≡ 4
number_long piece e = eqb-true (length piece) 4 (and_true _ _ e).0

len_number : (piece : List ℕ) → length (bare_number piece) ≡ length piece
len_number piece =
    len_either (is_number piece) _ _ _ (λ e. sym (number_long piece e)) (length-replicate (length piece) 63)

len_piece : (layout : HexLayout) (piece : List ℕ) → length (bare_piece layout piece) ≡ length piece
len_piece Digits piece = refl
len_piece Numbers piece = len_number piece
len_piece Xxd piece = len_indented Xxd piece
len_piece Hexdump piece = len_indented Hexdump piece

pub aligned : (layout : HexLayout) (text : List ℕ) → length (bare_pieces layout (pieces_of layout text)) ≡ length text
aligned layout text = len_joined (bare_piece layout) (len_piece layout) (pieces_of layout text) ∙ len_split _ text
