-- The laws of BMPString: octets, units of UTF-16, characters, and the way back.
use Rattle.std.proofs.Common.{◌≡◌, ℕ, ◌+◌, ◌-◌, ◌*◌, ◌/◌, ◌%◌, ◌^◌, ◌<◌, ◌≤◌, List, [], ◌∷◌, ◌++◌, length, map, refl, ap, ap₂, ◌∙◌, sym, inl, inr, arith, subst, ◌⊎◌, Option, Some, None}
use Rattle.std.proofs.Common.{lt-ltb, le-ltb}
use Rattle.std.proofs.Math.Utf8.{scalar_cases, low_scalar}
use Rattle.std.proofs.lemmas.Bool.{cases_lt, lt-leb, le-leb}
use Rattle.std.proofs.lemmas.Str.{utf16_chars-nil, utf16_chars_lone, utf16_chars_pair}
use Rattle.std.specs.Char.{IsScalar}
use Rattle.std.specs.Char.Escape.{encode_utf16}
use Rattle.std.specs.Char.Utf16.{utf16_chars, lone_unit_char, surrogate_pair_char}
use Rattle.std.specs.List.{AllByRecursion, flat_map}
use Rattle.std.specs.Prelude.{unwrap_or}
use Rattle.yasna_base.specs.declared.mode.BERMode.{BERMode}
use Rattle.yasna_base.specs.declared.tag.Tag.{Tag}
use Rattle.yasna_base.specs.Canonical.{IsWritten}
use Rattle.yasna_base.specs.Coding.{IsCoding, Any}
use Rattle.yasna_base.specs.Digits.{IsBytes}
use Rattle.yasna_base.specs.Identifier.{end_tag}
use Rattle.yasna_base.specs.Text.{InUtf8, IsTextIn, units, IsBmp, IsPairedBmp, IsStringOf, unit_octets, bmp_octets, bmp_encoding, bmp_depth, BmpKeepsLaws}
use Rattle.yasna_base.proofs.Texts.{scalar_below, string_coding, string_written, text_in_utf8}

abbrev AreUnits : List ℕ → Type 0
AreUnits us = AllByRecursion (λ u. u < 65536) us

-- units in octets are those units
pub units_of_octets : (us : List ℕ) → units (flat_map unit_octets us) ≡ us
units_of_octets [] = refl
units_of_octets (u ∷ us) = ap₂ (λ x xs. x ∷ xs) (omega arith) (units_of_octets us)

octets_even : (us : List ℕ) → length (flat_map unit_octets us) % 2 ≡ 0
octets_even [] = refl
octets_even (u ∷ us) = let h = octets_even us in omega arith

octets_bytes : (us : List ℕ) → AreUnits us → IsBytes (flat_map unit_octets us)
octets_bytes [] h = tt
octets_bytes (u ∷ us) h = let i = h.0 in (omega arith, (omega arith, octets_bytes us h.1))

-- an even number of octets are units
pub octets_of_units : (v : List ℕ) → IsBytes v → length v % 2 ≡ 0 → v ≡ flat_map unit_octets (units v)
octets_of_units [] h e = refl
octets_of_units (x ∷ []) h e = absurd (omega arith)
octets_of_units (x ∷ y ∷ v) h e =
    let i = h.1.0 in
    let f : x ≡ (256 * x + y) / 256 = omega arith in
    let g : y ≡ (256 * x + y) % 256 = omega arith in
    ap₂ (λ z w. z ∷ w) f (ap₂ (λ z w. z ∷ w) g (octets_of_units v h.1.1 (omega arith)))

-- of 16 bits each
pub units_below : (v : List ℕ) → IsBytes v → AreUnits (units v)
units_below [] h = tt
units_below (x ∷ []) h = tt
units_below (x ∷ y ∷ v) h = let i = h.0 in let j = h.1.0 in (omega arith, units_below v h.1.1)

-- one unit or two

pub one_unit : (c : ℕ) → c < 65536 → encode_utf16 c ≡ c ∷ []
one_unit c h = rw (lt-ltb c 65536 h) refl

pub two_units : (c : ℕ) → 65536 ≤ c → encode_utf16 c ≡ (0xD800 + (c - 65536) / 1024) ∷ (0xDC00 + (c - 65536) % 1024) ∷ []
two_units c h = rw (le-ltb c 65536 h) refl

-- a high surrogate and a low one
abbrev IsPair : ℕ → ℕ → Type 0
IsPair u v = (0xD800 ≤ u) × (u < 0xDC00) × (0xDC00 ≤ v) × (v < 0xE000)

pair_or_not : (u v : ℕ) → IsPair u v ⊎ (IsPair u v → ⊥)
pair_or_not u v = elim (cases_lt u 0xD800) [
  | inl h ↦ inr (λ p. omega (arith, p.0, h))
  | inr h ↦ elim (cases_lt u 0xDC00) [
    | inr i ↦ inr (λ p. omega (arith, p.1, i))
    | inl i ↦ elim (cases_lt v 0xDC00) [
      | inl j ↦ inr (λ p. omega (arith, p.2, j))
      | inr j ↦ elim (cases_lt v 0xE000) [
        | inr k ↦ inr (λ p. omega (arith, p.3, k))
        | inl k ↦ inl (h, i, j, k)
      ]
    ]
  ]
]

lone_below : (u : ℕ) → u < 0xD800 → lone_unit_char u ≡ Some u
lone_below u h = rw (lt-leb 0xD800 u h) refl

lone_above : (u : ℕ) → 0xE000 ≤ u → lone_unit_char u ≡ Some u
lone_above u h = rw (le-leb 0xD800 u (omega (arith, h)), le-ltb u 0xE000 h) refl

lone_surrogate : (u : ℕ) → 0xD800 ≤ u → u < 0xE000 → lone_unit_char u ≡ None
lone_surrogate u h i = rw (le-leb 0xD800 u h, lt-ltb u 0xE000 i) refl

character_utf16 : (c : ℕ) (us : List ℕ) → IsScalar c → utf16_chars (encode_utf16 c ++ us) ≡ Some c ∷ utf16_chars us
character_utf16 c us h = elim (scalar_cases c h) [
  | inl i ↦ ap (λ z. utf16_chars (z ++ us)) (one_unit c (omega (arith, i))) ∙ utf16_chars_lone c us (λ p. omega (arith, p.0, i))
      ∙ ap (λ o. o ∷ utf16_chars us) (lone_below c i)
  | inr i ↦ elim (cases_lt c 65536) [
    | inl j ↦ ap (λ z. utf16_chars (z ++ us)) (one_unit c j) ∙ utf16_chars_lone c us (λ p. omega (arith, p.1, i.0))
        ∙ ap (λ o. o ∷ utf16_chars us) (lone_above c i.0)
    | inr j ↦
        let k = i.1 in
        ap (λ z. utf16_chars (z ++ us)) (two_units c j)
        ∙ utf16_chars_pair (0xD800 + (c - 65536) / 1024) (0xDC00 + (c - 65536) % 1024) us (omega arith, omega arith, omega arith, omega arith)
        ∙ ap (λ d. Some d ∷ utf16_chars us) (omega arith)
  ]
]

-- the units of a text spell it
pub text_utf16 : (text : List ℕ) → AllByRecursion IsScalar text → map Some text ≡ utf16_chars (flat_map encode_utf16 text)
text_utf16 [] h = sym utf16_chars-nil
text_utf16 (c ∷ cs) h = ap (λ z. Some c ∷ z) (text_utf16 cs h.1) ∙ sym (character_utf16 c (flat_map encode_utf16 cs) h.0)

-- a unit that is no surrogate is its character
record IsLone (c u : ℕ) : Type 0 where
  unit : encode_utf16 c ≡ u ∷ []
  scalar : IsScalar c

high_scalar : (c : ℕ) → 0xE000 ≤ c → c < 0x11_0000 → IsScalar c
high_scalar c h i = rw (le-ltb c 0xD800 (omega (arith, h)), le-leb 0xE000 c h, lt-ltb c 0x11_0000 i) refl

lone_is : (c u : ℕ) → u < 65536 → Some c ≡ lone_unit_char u → IsLone c u
lone_is c u h e = elim (cases_lt u 0xD800) [
  | inl i ↦
      let f : c ≡ u = cc (e ∙ lone_below u i) in
      record { unit = one_unit c (omega (arith, f, h)) ∙ ap (λ x. x ∷ []) f; scalar = low_scalar c (omega (arith, f, i)) }
  | inr i ↦ elim (cases_lt u 0xE000) [
    | inl j ↦ let f : Some c ≡ None = e ∙ lone_surrogate u i j in cc
    | inr j ↦
        let f : c ≡ u = cc (e ∙ lone_above u j) in
        record { unit = one_unit c (omega (arith, f, h)) ∙ ap (λ x. x ∷ []) f; scalar = high_scalar c (omega (arith, f, j)) (omega (arith, f, h)) }
  ]
]

-- two surrogates are their character
record IsPairOf (c u v : ℕ) : Type 0 where
  units : encode_utf16 c ≡ u ∷ v ∷ []
  scalar : IsScalar c

pair_is : (c u v : ℕ) → IsPair u v → c ≡ surrogate_pair_char u v → IsPairOf c u v
pair_is c u v p e =
    record {
      units = two_units c (omega (arith, e, p.0)) ∙ ap₂ (λ x y. x ∷ y ∷ []) (omega (arith, e, p.0, p.2, p.3)) (omega (arith, e, p.0, p.2, p.3));
      scalar = high_scalar c (omega (arith, e)) (omega (arith, e, p.0, p.1, p.2, p.3));
    }

-- the text that units spell has these units, and its characters are scalar
record Spells (text us : List ℕ) : Type 0 where
  units : flat_map encode_utf16 text ≡ us
  scalars : AllByRecursion IsScalar text

after_lone : (c u : ℕ) (text us : List ℕ) → IsLone c u → Spells text us → Spells (c ∷ text) (u ∷ us)
after_lone c u text us x y = record {
  units = ap (λ z. z ++ flat_map encode_utf16 text) x.unit ∙ ap (λ z. u ∷ z) y.units;
  scalars = (x.scalar, y.scalars);
}

after_pair : (c u v : ℕ) (text us : List ℕ) → IsPairOf c u v → Spells text us → Spells (c ∷ text) (u ∷ v ∷ us)
after_pair c u v text us x y = record {
  units = ap (λ z. z ++ flat_map encode_utf16 text) x.units ∙ ap (λ z. u ∷ v ∷ z) y.units;
  scalars = (x.scalar, y.scalars);
}

spelled_none : (text : List ℕ) → map Some text ≡ [] → Spells text []
spelled_none [] e = record { units = refl; scalars = tt }
spelled_none (c ∷ cs) e = cc

spelled_lone : (text us : List ℕ) (u : ℕ) → u < 65536 → ((cs : List ℕ) → map Some cs ≡ utf16_chars us → Spells cs us) →
    map Some text ≡ lone_unit_char u ∷ utf16_chars us → Spells text (u ∷ us)
spelled_lone [] us u h more e = cc
spelled_lone (c ∷ cs) us u h more e =
    let f : Some c ≡ lone_unit_char u = cc in
    let g : map Some cs ≡ utf16_chars us = cc in
    after_lone c u cs us (lone_is c u h f) (more cs g)

spelled_pair : (text us : List ℕ) (u v : ℕ) → IsPair u v → ((cs : List ℕ) → map Some cs ≡ utf16_chars us → Spells cs us) →
    map Some text ≡ Some (surrogate_pair_char u v) ∷ utf16_chars us → Spells text (u ∷ v ∷ us)
spelled_pair [] us u v p more e = cc
spelled_pair (c ∷ cs) us u v p more e =
    let f : c ≡ surrogate_pair_char u v = cc in
    let g : map Some cs ≡ utf16_chars us = cc in
    after_pair c u v cs us (pair_is c u v p f) (more cs g)

spelled : (text us : List ℕ) → AreUnits us → map Some text ≡ utf16_chars us → Spells text us
spelled text [] below e = spelled_none text (e ∙ utf16_chars-nil)
spelled text (u ∷ []) below e =
    spelled_lone text [] u below.0 (λ cs. spelled cs [] tt) (e ∙ utf16_chars_lone u [] (λ p. omega (arith, p.2)))
spelled text (u ∷ v ∷ us) below e = elim (pair_or_not u v) [
  | inl p ↦ spelled_pair text us u v p (λ cs. spelled cs us below.1.1) (e ∙ utf16_chars_pair u v us p)
  | inr p ↦ spelled_lone text (v ∷ us) u below.0 (λ cs. spelled cs (v ∷ us) below.1) (e ∙ utf16_chars_lone u (v ∷ us) p)
]

some_same : (text other : List ℕ) → map Some text ≡ map Some other → text ≡ other
some_same [] [] e = refl
some_same [] (d ∷ ds) e = cc
some_same (c ∷ cs) [] e = cc
some_same (c ∷ cs) (d ∷ ds) e =
    let f : c ≡ d = cc in
    let g : map Some cs ≡ map Some ds = cc in
    ap₂ (λ x xs. x ∷ xs) f (some_same cs ds g)

character_units : (c : ℕ) (us : List ℕ) → IsScalar c → AreUnits us → AreUnits (encode_utf16 c ++ us)
character_units c us h more = elim (cases_lt c 65536) [
  | inl i ↦ subst (λ z. AreUnits (z ++ us)) (sym (one_unit c i)) (i, more)
  | inr i ↦ let j = scalar_below c h in subst (λ z. AreUnits (z ++ us)) (sym (two_units c i)) (omega arith, (omega arith, more))
]

text_units : (text : List ℕ) → AllByRecursion IsScalar text → AreUnits (flat_map encode_utf16 text)
text_units [] h = tt
text_units (c ∷ cs) h = character_units c (flat_map encode_utf16 cs) h.0 (text_units cs h.1)

paired_means : (m : BERMode) (text : List ℕ) → IsTextIn InUtf8 text → IsPairedBmp m text (bmp_octets text)
paired_means m text h = record {
  even = octets_even (flat_map encode_utf16 text);
  spelled = text_utf16 text h.characters ∙ ap utf16_chars (sym (units_of_octets (flat_map encode_utf16 text)));
}

paired_spells : (m : BERMode) (text v : List ℕ) → IsBytes v → IsPairedBmp m text v → Spells text (units v)
paired_spells m text v bytes x = spelled text (units v) (units_below v bytes) x.spelled

-- octets of units that spell a text are its octets
pub paired_only : (m : BERMode) (text v : List ℕ) → IsBytes v → IsPairedBmp m text v → v ≡ bmp_octets text
paired_only m text v bytes x = octets_of_units v bytes x.even ∙ ap (flat_map unit_octets) (sym (paired_spells m text v bytes x).units)

lossless : (text : List ℕ) (os : List (Option ℕ)) → map Some text ≡ os → text ≡ map (λ o. unwrap_or o 0xFFFD) os
lossless [] [] e = refl
lossless [] (o ∷ os) e = cc
lossless (c ∷ cs) [] e = cc
lossless (c ∷ cs) (o ∷ os) e =
    let f : Some c ≡ o = cc in
    let g : map Some cs ≡ os = cc in
    ap₂ (λ x xs. x ∷ xs) (ap (λ p. unwrap_or p 0xFFFD) f) (lossless cs os g)

-- BMPString satisfies the laws of reading
pub bmp_coding : (t : Tag) → (t ≡ end_tag → ⊥) → IsCoding (λ v w. v ≡ w) (IsStringOf IsBmp t) (Any (IsStringOf IsBmp t))
bmp_coding t not_end = string_coding IsBmp (λ m v w c x y. x.spelled ∙ sym y.spelled) t not_end

-- where each surrogate has its partner too
pub paired_coding : (t : Tag) → (t ≡ end_tag → ⊥) →
    IsCoding (λ v w. v ≡ w) (IsStringOf IsPairedBmp t) (Any (IsStringOf IsPairedBmp t))
paired_coding t not_end = string_coding IsPairedBmp (λ m v w c x y. some_same v w (x.spelled ∙ sym y.spelled)) t not_end

-- where each surrogate has its partner, a BMPString satisfies the laws of writing
pub paired_written : (t : Tag) → t.tag_number < 2 ^ 64 →
    IsWritten (λ v w. v ≡ w) (IsStringOf IsPairedBmp t) (bmp_encoding t) bmp_depth (IsTextIn InUtf8)
paired_written t range = string_written IsPairedBmp (IsTextIn InUtf8) bmp_octets t range
    (λ v can. octets_bytes (flat_map encode_utf16 v) (text_units v can.characters)) paired_means
    (λ m v c h bytes x. paired_only m v c bytes x)
    (λ m v c bytes x. record { characters = (paired_spells m v c bytes x).scalars; in_class = text_in_utf8 v })

pub bmp_keeps : BmpKeepsLaws
bmp_keeps = record {
  reading = λ t not_end range. bmp_coding t not_end;
  paired = λ t not_end range. (paired_coding t not_end, paired_written t range);
  spells = λ m text v x. record { even = x.even; spelled = lossless text (utf16_chars (units v)) x.spelled };
}
