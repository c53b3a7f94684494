-- The formats of an input.
use Rattle.std.specs.Prelude.{◌≡◌, ◌⊎◌, ◌≤◌, ◌||◌, ℕ, List, ◌∷◌, ◌++◌, Option, Some, None, IsTrue}
use Rattle.std.specs.Char.{is_ascii_hexdigit}
use Rattle.std.specs.List.{AllByRecursion, Any}
use Rattle.asn1_input.specs.Text.{text_of}
use Rattle.asn1_input.specs.Hex.{is_in_hex, is_x, layout_of, IsHex}
use Rattle.asn1_input.specs.Blocks.{begin_boundary, lines_of, unindented, IsPem}
use Rattle.asn1_input.specs.declared.hex_layout.HexLayout.{HexLayout}
use Rattle.asn1_input.specs.declared.hex_layout.HexLayout.TheVariants.{Digits, Numbers, Xxd, Hexdump}
use Rattle.asn1_input.specs.declared.input_format.InputFormat.{InputFormat}
use Rattle.asn1_input.specs.declared.input_format.InputFormat.TheVariants.{Bytes, Hex, Pem}

-- an octet of text: printed, a tab, a form feed or the end of a line
abbrev pub IsText : ℕ → Type 0
IsText c = ((c ≡ 9) ⊎ (c ≡ 12) ⊎ (c ≡ 13)) ⊎ ((32 ≤ c) × (c ≡ 127 → ⊥))

-- an octet of lines of text
abbrev pub IsTextOrEnd : ℕ → Type 0
IsTextOrEnd c = (c ≡ 10) ⊎ IsText c

-- a line begins as the first line of a block does; it may be indented
abbrev pub BeginsAsBlock : List ℕ → Type 0
BeginsAsBlock line = (others : List ℕ) × (unindented line ≡ begin_boundary ++ others)

-- after lines of text a line begins so
pub record HasBoundary (lines : List (List ℕ)) : Type 0 where
  pub before : List (List ℕ)
  pub line : List ℕ
  pub after : List (List ℕ)
  pub joined : lines ≡ before ++ (line ∷ after)
  pub begins : BeginsAsBlock line
  pub texts : AllByRecursion (AllByRecursion IsText) before

abbrev pub BeginsAfterText : List ℕ → Type 0
BeginsAfterText text = HasBoundary (lines_of text)

-- a text is hexadecimal digits and separators
pub record AreHexDigits (text : List ℕ) : Type 0 where
  pub all : AllByRecursion (λ c. IsTrue (is_in_hex c)) text
  pub some : Any (λ c. IsTrue (is_ascii_hexdigit c)) text

-- a text in this layout is hexadecimal: in numbers there are no other letters than x, and dumps are lines of text
abbrev pub IsHexIn : HexLayout → List ℕ → Type 0
IsHexIn Digits text = AreHexDigits text
IsHexIn Numbers text = AllByRecursion (λ c. IsTrue (is_in_hex c || is_x c)) text
IsHexIn Xxd text = AllByRecursion IsTextOrEnd text
IsHexIn Hexdump text = AllByRecursion IsTextOrEnd text

-- a text is hexadecimal
abbrev pub IsHexText : List ℕ → Type 0
IsHexText text = IsHexIn (layout_of text) text

-- the format that a text is detected as
abbrev pub IsDetectedIn : List ℕ → InputFormat → Type 0
IsDetectedIn text Pem = BeginsAfterText text
IsDetectedIn text Hex = (BeginsAfterText text → ⊥) × IsHexText text
IsDetectedIn text Bytes = (BeginsAfterText text → ⊥) × (IsHexText text → ⊥)

-- the format that an input is detected as: that of its text
abbrev pub IsDetected : List ℕ → InputFormat → Type 0
IsDetected input input_format = IsDetectedIn (text_of input) input_format

-- the format that an input is read in: the given one, else the detected one
abbrev pub IsTakenAs : Option InputFormat → List ℕ → InputFormat → Type 0
IsTakenAs (Some given) input input_format = input_format ≡ given
IsTakenAs None input input_format = IsDetected input input_format

-- P holds of the bytes that an input in this format has, and in PEM of those of each block
abbrev pub HoldsEach : (List ℕ → Type 0) → InputFormat → List ℕ → Type 0
HoldsEach P Bytes input = P input
HoldsEach P Hex input = (bytes : List ℕ) × IsHex (text_of input) bytes × P bytes
HoldsEach P Pem input = (blocks : List (List ℕ)) × IsPem (text_of input) blocks × AllByRecursion P blocks
