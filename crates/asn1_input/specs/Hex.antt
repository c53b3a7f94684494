-- Bytes in hexadecimal: digits alone, numbers as C writes them, and the dumps of `xxd` and of `hexdump -C`.
use Rattle.std.specs.Prelude.{◌≡◌, ◌==◌, ◌&&◌, ◌||◌, ◌+◌, ◌-◌, ◌^◌, min, not, nat_eq, leb, ℕ, suc, Bool, false, cond, List, [], ◌∷◌, ◌++◌, codes, drop, filter, get_or, length, map, replicate, take, Ok, Option, Some, None}
use Rattle.std.specs.Borrow.{Bor}
use Rattle.std.specs.Char.{is_ascii_hexdigit, is_ascii_whitespace}
use Rattle.std.specs.List.{join_with_byte, list_any, position_or_len, slice_index, slice_split, starts_with}
use Rattle.hex.specs.Hex.{decode_of as hex_of}
use Rattle.yasna_base.specs.declared.error.ASN1ErrorKind.{ASN1ErrorKind}
use Rattle.yasna_base.specs.declared.error.ASN1ErrorKind.TheVariants.{Invalid}
use Rattle.asn1_input.specs.Blocks.{is_blank, lines_of, unindented}
use Rattle.asn1_input.specs.declared.hex_layout.HexLayout.{HexLayout}
use Rattle.asn1_input.specs.declared.hex_layout.HexLayout.TheVariants.{Digits, Numbers, Xxd, Hexdump}

-- a separator of hexadecimal digits: a space, a line end, a colon or a comma
abbrev pub is_between : ℕ → Bool
is_between c = is_ascii_whitespace c || c == 58 || c == 44

-- an octet of a text in hexadecimal
abbrev pub is_in_hex : ℕ → Bool
is_in_hex c = is_ascii_hexdigit c || is_between c

-- ---- numbers of C

-- the letter x, in lower or upper case
abbrev pub is_x : ℕ → Bool
is_x c = c == 120 || c == 88

-- whether a text begins with `0x` or `0X`
abbrev pub is_prefixed : List ℕ → Bool
is_prefixed text = starts_with nat_eq text (codes "0x") || starts_with nat_eq text (codes "0X")

-- whether a piece is `0x` and two digits
abbrev pub is_number : List ℕ → Bool
is_number piece = length piece == 4 && (is_prefixed piece && (is_ascii_hexdigit (slice_index piece 2) && is_ascii_hexdigit (slice_index piece 3)))

-- ---- lines of dumps

-- how many digits a line begins with: those of its offset
abbrev pub offset_len : List ℕ → ℕ
offset_len line = position_or_len (λ c. not (is_ascii_hexdigit c)) line

-- a line without them
abbrev pub after_offset : List ℕ → List ℕ
after_offset line = drop (offset_len line) line

-- whether what is after the offset of a line is as `xxd` writes it, or as `hexdump -C` does
abbrev pub follows_offset : HexLayout → List ℕ → Bool
follows_offset Xxd rest = starts_with nat_eq rest (codes ": ")
follows_offset Hexdump rest = starts_with nat_eq rest (codes "  ") || is_blank rest
follows_offset Digits rest = false
follows_offset Numbers rest = false

-- whether a line begins with an offset of eight digits or more
abbrev pub has_offset : HexLayout → List ℕ → Bool
has_offset layout line = leb 8 (offset_len line) && follows_offset layout (after_offset line)

-- where the first two spaces are that are side by side, else the length
abbrev pub two_spaces : List ℕ → ℕ
two_spaces [] = 0
two_spaces (c ∷ more) = cond (starts_with nat_eq (c ∷ more) (codes "  ")) 0 (suc (two_spaces more))

-- where the column of characters begins after the offset of a line: at two spaces in `xxd`, at a bar in `hexdump -C`
abbrev pub columns_len : HexLayout → List ℕ → ℕ
columns_len Xxd rest = two_spaces rest
columns_len Hexdump rest = position_or_len (λ c. c == 124) rest
columns_len Digits rest = 0
columns_len Numbers rest = 0

-- a line whose offset and characters are spaces
abbrev pub only_columns : HexLayout → List ℕ → List ℕ
only_columns layout line =
    let rest = after_offset line in
    let n = columns_len layout rest in
    replicate (offset_len line) 32 ++ (take n rest ++ replicate (length rest - n) 32)

-- ---- a text

-- the layout of a text, by its first line that isn't blank
abbrev pub layout_of_line : List ℕ → HexLayout
layout_of_line line =
    cond (is_prefixed line) Numbers
    (cond (has_offset Xxd line) Xxd
    (cond (has_offset Hexdump line && list_any (λ c. c == 124) line) Hexdump Digits))

abbrev pub layout_of : List ℕ → HexLayout
layout_of text = layout_of_line (get_or (lines_of (unindented text)) 0 [])

-- an octet that ends a piece of a text in a layout: a number, or a line
abbrev pub ends_piece : HexLayout → ℕ → Bool
ends_piece Numbers c = is_between c
ends_piece Xxd c = c == 10
ends_piece Hexdump c = c == 10
ends_piece Digits c = c == 10

-- a line of a dump with spaces for what is no digit of its bytes. One without an offset is question marks
abbrev pub bare_line : HexLayout → List ℕ → List ℕ
bare_line layout line = cond (has_offset layout line) (only_columns layout line) (replicate (length line) 63)

-- as `bare_line`, of a line that may be indented
abbrev pub bare_indented : HexLayout → List ℕ → List ℕ
bare_indented layout line = replicate (length line - length (unindented line)) 32 ++ bare_line layout (unindented line)

-- a number of C with spaces for `0x`. Another one is question marks
abbrev pub bare_number : List ℕ → List ℕ
bare_number piece = cond (is_number piece) (32 ∷ 32 ∷ slice_index piece 2 ∷ slice_index piece 3 ∷ []) (replicate (length piece) 63)

-- a piece with spaces for what is no digit of its bytes
abbrev pub bare_piece : HexLayout → List ℕ → List ℕ
bare_piece Digits piece = piece
bare_piece Numbers piece = bare_number piece
bare_piece Xxd piece = bare_indented Xxd piece
bare_piece Hexdump piece = bare_indented Hexdump piece

-- the pieces of a text in a layout
abbrev pub pieces_of : HexLayout → List ℕ → List (List ℕ)
pieces_of layout text = slice_split (ends_piece layout) text

-- the pieces of the rest of a text, if there is a rest
abbrev pub pieces_left : HexLayout → Option (Bor (List ℕ)) → List (List ℕ)
pieces_left layout None = []
pieces_left layout (Some text) = pieces_of layout text.now

-- the separator before the rest of a text, if there is a rest
abbrev pub separator_before : Option (Bor (List ℕ)) → List ℕ
separator_before None = []
separator_before (Some text) = 32 ∷ []

-- pieces with spaces for what is no digit, with a space between each two
abbrev pub bare_pieces : HexLayout → List (List ℕ) → List ℕ
bare_pieces layout pieces = join_with_byte 32 (map (bare_piece layout) pieces)

-- a text with spaces for what is no digit of its bytes
abbrev pub bare : List ℕ → List ℕ
bare text = bare_pieces (layout_of text) (pieces_of (layout_of text) text)

-- the hexadecimal digits of a text in which nothing else is but separators
abbrev pub digits_of : List ℕ → List ℕ
digits_of text = filter (λ c. not (is_between c)) text

-- a text of digits and separators encodes the bytes
abbrev pub AreDigits : List ℕ → List ℕ → Type 0
AreDigits text bytes = hex_of (digits_of text) ≡ Ok bytes

-- a text that begins at an offset isn't digits and separators that encode bytes. The first octet is reported that is neither, else the end
pub record AreNoDigits (text : List ℕ) (start offset : ℕ) (kind : ASN1ErrorKind) : Type 0 where
  pub none : (bytes : List ℕ) → AreDigits text bytes → ⊥
  pub place : offset ≡ min (start + position_or_len (λ c. not (is_in_hex c)) text) (2 ^ 64 - 1)
  pub invalid : kind ≡ Invalid

-- a text encodes the bytes in hexadecimal
abbrev pub IsHex : List ℕ → List ℕ → Type 0
IsHex text bytes = AreDigits (bare text) bytes

-- a text that begins at an offset encodes no bytes in hexadecimal
abbrev pub IsNoHex : List ℕ → ℕ → ℕ → ASN1ErrorKind → Type 0
IsNoHex text start offset kind = AreNoDigits (bare text) start offset kind
