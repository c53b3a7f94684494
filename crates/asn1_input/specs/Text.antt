-- Bytes as text, in base64 (RFC 4648, 4).
use Rattle.std.specs.Prelude.{◌≡◌, ◌==◌, ◌||◌, not, nat_eq, ℕ, Bool, cond, List, [], ◌∷◌, drop, filter, Ok}
use Rattle.std.specs.Char.{is_ascii_alphanumeric, is_ascii_whitespace}
use Rattle.std.specs.List.{starts_with}
use Rattle.base64.specs.Engines.{standard}
use Rattle.base64.specs.GeneralPurpose.{decode_of as base64_of}
use Rattle.asn1show_walk.specs.declared.error.WalkError.{WalkError}
use Rattle.asn1show_walk.specs.declared.error.WalkError.TheVariants.{Memory}

-- the error is `Memory`: out of memory
abbrev pub IsMemoryError : WalkError → Type 0
IsMemoryError f = f ≡ Memory

-- the byte order mark in UTF-8 (U+FEFF)
abbrev pub byte_order_mark : List ℕ
byte_order_mark = 239 ∷ 187 ∷ 191 ∷ []

-- the text of an input: a byte order mark at its start is no part of it
abbrev pub text_of : List ℕ → List ℕ
text_of input = cond (starts_with nat_eq input byte_order_mark) (drop 3 input) input

-- white space or a digit of base64 (padding, `=`, is none)
abbrev pub is_in_base64 : ℕ → Bool
is_in_base64 c = is_ascii_whitespace c || is_ascii_alphanumeric c || c == 43 || c == 47

-- the octets of a text but white space: its digits of base64 and their padding, if it is base64
abbrev pub base64_of_text : List ℕ → List ℕ
base64_of_text text = filter (λ c. not (is_ascii_whitespace c)) text

-- digits encode the bytes in base64
abbrev pub Base64Decodes : List ℕ → List ℕ → Type 0
Base64Decodes digits bytes = base64_of standard digits ≡ Ok bytes

-- a text encodes the bytes in base64
abbrev pub IsBase64 : List ℕ → List ℕ → Type 0
IsBase64 text bytes = Base64Decodes (base64_of_text text) bytes
