-- Character strings (X.680, 41; X.690, 8.23). A text is the list of its characters.
use Rattle.std.specs.Prelude.{◌≡◌, ◌⊎◌, ℕ, ◌+◌, ◌*◌, ◌/◌, ◌%◌, ◌≤◌, List, [], ◌∷◌, length, map, codes, Some, String, string_bytes}
use Rattle.std.specs.Char.{IsScalar}
use Rattle.std.specs.Char.Escape.{encode_utf16}
use Rattle.std.specs.Char.Utf16.{utf16_chars, utf16_lossy_chars}
use Rattle.std.specs.Global.{Global}
use Rattle.std.specs.List.{Contains, flat_map, AllByRecursion}
use Rattle.std.specs.Str.{chars, encode_utf8_all}
use Rattle.yasna_base.specs.declared.mode.BERMode.{BERMode}
use Rattle.yasna_base.specs.declared.tag.Tag.{Tag}
use Rattle.yasna_base.specs.Coding.{IsCoding, Any}
use Rattle.yasna_base.specs.Grammar.{Grammar, Encoding, Depth}
use Rattle.yasna_base.specs.Identifier.{universal, AnyTag}
use Rattle.yasna_base.specs.Laws.{KeepsLaws}
use Rattle.yasna_base.specs.Octets.{IsOctets, octets_encoding, octets_depth}

-- the tag of UTF8String
abbrev pub utf8_tag : Tag
utf8_tag = universal 12

-- of NumericString
abbrev pub numeric_tag : Tag
numeric_tag = universal 18

-- of PrintableString
abbrev pub printable_tag : Tag
printable_tag = universal 19

-- of IA5String
abbrev pub ia5_tag : Tag
ia5_tag = universal 22

-- of VisibleString
abbrev pub visible_tag : Tag
visible_tag = universal 26

-- of BMPString
abbrev pub bmp_tag : Tag
bmp_tag = universal 30

-- any character
abbrev pub InUtf8 : ℕ → Type 0
InUtf8 c = Unit {0}

-- 0 to 9
abbrev pub IsDigit : ℕ → Type 0
IsDigit c = (48 ≤ c) × (c ≤ 57)

-- A to Z and a to z
abbrev pub IsLetter : ℕ → Type 0
IsLetter c = ((65 ≤ c) × (c ≤ 90)) ⊎ ((97 ≤ c) × (c ≤ 122))

-- digits and space
abbrev pub InNumeric : ℕ → Type 0
InNumeric c = IsDigit c ⊎ (c ≡ 32)

-- letters, digits, space and some marks
abbrev pub InPrintable : ℕ → Type 0
InPrintable c = IsLetter c ⊎ IsDigit c ⊎ Contains (codes " '()+,-./:=?") c

-- space to the tilde
abbrev pub InVisible : ℕ → Type 0
InVisible c = (32 ≤ c) × (c ≤ 126)

-- the characters of 7 bits
abbrev pub InIa5 : ℕ → Type 0
InIa5 c = c ≤ 127

-- a text whose characters lie in a class
pub record IsTextIn (In : ℕ → Type 0) (text : List ℕ) : Type 0 where
  pub characters : AllByRecursion IsScalar text
  pub in_class : AllByRecursion In text

-- the octets v are the text in UTF-8, and its characters lie in the class
pub record IsUtf8In (In : ℕ → Type 0) (m : BERMode) (text v : List ℕ) : Type 0 where
  pub is_text : IsTextIn In text
  pub octets : v ≡ encode_utf8_all text

-- numbers of 16 bits, each in two octets, the high one first
abbrev pub units : List ℕ → List ℕ
units [] = []
units (x ∷ []) = []
units (x ∷ y ∷ v) = (256 * x + y) ∷ units v

-- the octets v are units of UTF-16, and the text is what they spell, with U+FFFD for each surrogate that has no partner
pub record IsBmp (m : BERMode) (text v : List ℕ) : Type 0 where
  pub even : length v % 2 ≡ 0
  pub spelled : text ≡ utf16_lossy_chars (units v)

-- the octets v are units of UTF-16 that spell the text, and each surrogate has its partner
pub record IsPairedBmp (m : BERMode) (text v : List ℕ) : Type 0 where
  pub even : length v % 2 ≡ 0
  pub spelled : map Some text ≡ utf16_chars (units v)

-- within n levels, b is an octet string with the tag t, and its octets say v by K
pub record IsStringOf {A : Type 0} (K : BERMode → A → List ℕ → Type 0) (t : Tag) (m : BERMode) (n : ℕ) (v : A) (b : List ℕ) : Type 0 where
  pub octets : List ℕ
  pub string : IsOctets t m n octets b
  pub meaning : K m v octets

-- the octets of a unit
abbrev pub unit_octets : ℕ → List ℕ
unit_octets u = (u / 256) ∷ (u % 256) ∷ []

-- the text in UTF-16
abbrev pub bmp_octets : List ℕ → List ℕ
bmp_octets text = flat_map unit_octets (flat_map encode_utf16 text)

-- a text in UTF-8, in a canonical mode
abbrev pub utf8_encoding : Tag → Encoding (List ℕ)
utf8_encoding t m text = octets_encoding t m (encode_utf8_all text)

-- a text in UTF-16, in a canonical mode
abbrev pub bmp_encoding : Tag → Encoding (List ℕ)
bmp_encoding t m text = octets_encoding t m (bmp_octets text)

-- their depth
abbrev pub utf8_depth : Depth (List ℕ)
utf8_depth m text = octets_depth m (encode_utf8_all text)

-- its depth
abbrev pub bmp_depth : Depth (List ℕ)
bmp_depth m text = octets_depth m (bmp_octets text)

-- the characters of a string
abbrev pub characters : String Global → List ℕ
characters s = chars (string_bytes s)

-- the grammar of UTF8String under its own tag
abbrev pub EncodesText : Grammar (List ℕ)
EncodesText = IsStringOf (IsUtf8In InUtf8) utf8_tag

-- as `EncodesText`, of the characters of a string
abbrev pub EncodesString : Grammar (String Global)
EncodesString m n v b = EncodesText m n (characters v) b

-- a class of text in UTF-8 satisfies the laws under any tag
abbrev pub TextKeepsLaws : (ℕ → Type 0) → Type 0
TextKeepsLaws In = KeepsLaws (IsStringOf (IsUtf8In In)) utf8_encoding utf8_depth (IsTextIn In)

-- BMPString satisfies the laws of reading under any tag, and those of writing if each surrogate has its partner
pub record BmpKeepsLaws : Type 0 where
  pub reading : AnyTag (λ t. IsCoding (λ v w. v ≡ w) (IsStringOf IsBmp t) (Any (IsStringOf IsBmp t)))
  pub paired : KeepsLaws (IsStringOf IsPairedBmp) bmp_encoding bmp_depth (IsTextIn InUtf8)
  pub spells : (m : BERMode) (text v : List ℕ) → IsPairedBmp m text v → IsBmp m text v
