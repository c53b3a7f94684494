-- A text in UTF-16, character by character.
use Rattle.std.proofs.Common.{◌≡◌, ℕ, ◌+◌, ◌-◌, ◌*◌, ◌/◌, ◌%◌, ◌<◌, ◌≤◌, ◌⊎◌, inl, inr, List, [], ◌∷◌, ◌++◌, length, length-append, append-nil, append_assoc, get_or, drop, refl, sym, ap, ◌∙◌, arith}
use Rattle.std.specs.Char.{len_utf8, encode_utf8}
use Rattle.std.specs.Char.Escape.{encode_utf16}
use Rattle.std.specs.List.{flat_map, sum_by}
use Rattle.std.specs.Str.{encode_utf8_all}
use Rattle.std.proofs.lemmas.Bool.{lt-ltb, le-ltb, cases_lt}
use Rattle.std.proofs.lemmas.Grind.{flat_map-append}
use Rattle.std.proofs.lemmas.List.{at_drop_more, at_drop_all}
use Rattle.std.proofs.lemmas.List.Sums.{sum_by-append, sum_by-drop_more}
use Rattle.std.proofs.lemmas.Str.{length-encode, len_utf8_bounds}
use Rattle.yasna_base.specs.Text.{unit_octets, bmp_octets}
use Rattle.yasna_base.proofs.Bmp.{one_unit, two_units}
use Rattle.yasna_writer.specs.Bmp.{octets_begun}

longest_character : (c : ℕ) → 65536 ≤ c → len_utf8 c ≡ 4
longest_character c h = rw (le-ltb c 128 (omega arith)) (rw (le-ltb c 2048 (omega arith)) (rw (le-ltb c 65536 h) refl))

-- two bytes for each unit
pub octets_of_one : (c : ℕ) → c < 65536 → bmp_octets (c ∷ []) ≡ unit_octets c
octets_of_one c h = ap (λ us. flat_map unit_octets (us ++ [])) (one_unit c h)

pub octets_of_two :
    (c : ℕ) → 65536 ≤ c → bmp_octets (c ∷ []) ≡ unit_octets (0xD800 + (c - 65536) / 1024) ++ unit_octets (0xDC00 + (c - 65536) % 1024)
octets_of_two c h = ap (λ us. flat_map unit_octets (us ++ [])) (two_units c h)

pub bmp_octets_append : (cs ds : List ℕ) → bmp_octets (cs ++ ds) ≡ bmp_octets cs ++ bmp_octets ds
bmp_octets_append cs ds =
    ap (flat_map unit_octets) (flat_map-append encode_utf16 cs ds) ∙ flat_map-append unit_octets (flat_map encode_utf16 cs) (flat_map encode_utf16 ds)

-- what is left begins with the character at hand
pub octets_left :
    (cs : List ℕ) (n c : ℕ) → (n < length cs) × (c ≡ get_or cs n c)
    → bmp_octets (drop n cs) ≡ bmp_octets (c ∷ []) ++ bmp_octets (drop (n + 1) cs)
octets_left cs n c h =
    at_drop_more bmp_octets cs n c h.0 ∙ ap (λ x. bmp_octets (x ∷ drop (n + 1) cs)) (sym h.1) ∙ bmp_octets_append (c ∷ []) (drop (n + 1) cs)

-- the bytes of a character in UTF-8 count its octets in UTF-16
begun_first : (b : ℕ) → 192 ≤ b → b < 240 → octets_begun b ≡ 2
begun_first b h i = rw (le-ltb b 128 (omega (arith, h)), le-ltb b 192 h, lt-ltb b 240 i) refl

begun_next : (b : ℕ) → octets_begun (128 + b % 64) ≡ 0
begun_next b = rw (le-ltb (128 + b % 64) 128 (omega arith), lt-ltb (128 + b % 64) 192 (omega arith)) refl

begun_four : (b : ℕ) → 240 ≤ b → octets_begun b ≡ 4
begun_four b h = rw (le-ltb b 128 (omega (arith, h)), le-ltb b 192 (omega (arith, h)), le-ltb b 240 h) refl

begun_ascii : (b : ℕ) → b < 128 → octets_begun b ≡ 2
begun_ascii b h = rw (lt-ltb b 128 h) refl

bytes_counted : (c : ℕ) → sum_by octets_begun (encode_utf8 c) ≡ length (bmp_octets (c ∷ []))
unfolding encode_utf8
bytes_counted c = elim (cases_lt c 128) [
  | inl h ↦ rw (lt-ltb c 128 h) (omega (arith, begun_ascii c h, ap length (octets_of_one c (omega (arith, h)))))
  | inr h ↦ elim (cases_lt c 2048) [
    | inl i ↦ rw (le-ltb c 128 h, lt-ltb c 2048 i)
        (omega (arith, begun_first (192 + c / 64) (omega arith) (omega (arith, i)), begun_next c, ap length (octets_of_one c (omega (arith, i)))))
    | inr i ↦ elim (cases_lt c 65536) [
      | inl j ↦ rw (le-ltb c 128 h, le-ltb c 2048 i, lt-ltb c 65536 j)
          (omega (
            arith,
            begun_first (224 + c / 4096) (omega arith) (omega (arith, j)),
            begun_next (c / 64),
            begun_next c,
            ap length (octets_of_one c j),
          ))
      | inr j ↦ rw (le-ltb c 128 h, le-ltb c 2048 i, le-ltb c 65536 j)
          (omega (
            arith,
            begun_four (240 + c / 262144) (omega arith),
            begun_next (c / 4096),
            begun_next (c / 64),
            begun_next c,
            ap length (octets_of_two c j),
          ))
    ]
  ]
]

pub text_counted : (cs : List ℕ) → sum_by octets_begun (encode_utf8_all cs) ≡ length (bmp_octets cs)
text_counted [] = refl
text_counted (c ∷ cs) =
    omega (
      arith,
      sum_by-append octets_begun (encode_utf8 c) (encode_utf8_all cs),
      bytes_counted c,
      text_counted cs,
      ap length (bmp_octets_append (c ∷ []) cs),
      length-append (bmp_octets (c ∷ [])) (bmp_octets cs),
    )

begun_few : (b : ℕ) → octets_begun b ≤ 4
begun_few b = elim (cases_lt b 128) [
  | inl h ↦ omega (arith, begun_ascii b h)
  | inr h ↦ elim (cases_lt b 192) [
    | inl i ↦ rw (le-ltb b 128 h, lt-ltb b 192 i) (omega arith)
    | inr i ↦ elim (cases_lt b 240) [
      | inl j ↦ omega (arith, begun_first b i j)
      | inr j ↦ omega (arith, begun_four b j)
    ]
  ]
]

-- a byte more is counted
pub begun_more :
    (bs : List ℕ) (i : ℕ) → i < length bs
    → (sum_by octets_begun (drop i bs) ≡ octets_begun (get_or bs i 0) + sum_by octets_begun (drop (i + 1) bs)) × (octets_begun (get_or bs i 0) ≤ 4)
begun_more bs i h = (sum_by-drop_more octets_begun bs i 0 h, begun_few (get_or bs i 0))

-- a character takes at most twice the bytes that it takes in UTF-8
character_bound : (c : ℕ) → (c < 65536) ⊎ (65536 ≤ c) → length (bmp_octets (c ∷ [])) ≤ 2 * len_utf8 c
character_bound c (inl h) = omega (arith, ap length (octets_of_one c h), (len_utf8_bounds c).0)
character_bound c (inr h) = omega (arith, ap length (octets_of_two c h), longest_character c h)

pub octets_bound : (cs : List ℕ) → length (bmp_octets cs) ≤ 2 * length (encode_utf8_all cs)
octets_bound [] = omega arith
octets_bound (c ∷ cs) =
    omega (
      arith,
      octets_bound cs,
      character_bound c (cases_lt c 65536),
      length-encode c,
      ap length (bmp_octets_append (c ∷ []) cs),
      length-append (bmp_octets (c ∷ [])) (bmp_octets cs),
      length-append (encode_utf8 c) (encode_utf8_all cs),
    )

-- a character more is appended, and what is left after it completes the same
pub appended_character :
    (b mid new : List ℕ) (cs : List ℕ) (n c : ℕ) → (n < length cs) × (c ≡ get_or cs n c) → new ≡ mid ++ bmp_octets (c ∷ [])
    → mid ++ bmp_octets (drop n cs) ≡ b → new ++ bmp_octets (drop (n + 1) cs) ≡ b
appended_character b mid new cs n c turn e all =
    ap (λ z. z ++ bmp_octets (drop (n + 1) cs)) e
    ∙ append_assoc mid (bmp_octets (c ∷ [])) (bmp_octets (drop (n + 1) cs))
    ∙ ap (λ x. mid ++ x) (sym (octets_left cs n c turn))
    ∙ all

pub appended_all : (b mid : List ℕ) (cs : List ℕ) (n : ℕ) → length cs ≤ n → mid ++ bmp_octets (drop n cs) ≡ b → mid ≡ b
appended_all b mid cs n h all = sym (ap (λ x. mid ++ x) (at_drop_all bmp_octets cs n h) ∙ append-nil mid) ∙ all
