-- Blocks of base64 between lines (RFC 7468).
use Rattle.std.specs.Prelude.{◌≡◌, ◌==◌, ◌≤◌, ◌-◌, ◌&&◌, nat_eq, ℕ, Bool, true, false, cond, List, [], ◌∷◌, ◌++◌, length, take, drop, codes, Option, Some, None}
use Rattle.std.specs.Borrow.{Bor}
use Rattle.std.specs.Char.{is_ascii_whitespace}
use Rattle.std.specs.Str.{IsTrimAsciiEnd}
use Rattle.std.specs.List.{AllByRecursion, after_first, before_first, concat, ends_with, list_all, list_any, prefix_len, slice_split, starts_with, suffix_len}
use Rattle.asn1_input.specs.Text.{IsBase64}

-- the starts of the lines that begin and that end a block
abbrev pub begin_boundary : List ℕ
begin_boundary = codes "-----BEGIN "

abbrev pub end_boundary : List ℕ
end_boundary = codes "-----END "

-- a line without the white space at its start
abbrev pub unindented : List ℕ → List ℕ
unindented line = drop (prefix_len is_ascii_whitespace line) line

-- a text is the first line of a block with this label; white space may be after
pub record Begins (line label : List ℕ) : Type 0 where
  pub others : List ℕ
  pub joined : line ≡ begin_boundary ++ others
  pub trimmed : IsTrimAsciiEnd others (label ++ codes "-----")

-- a line begins a block; it may be indented
abbrev pub BeginsBlock : List ℕ → Type 0
BeginsBlock line = (label : List ℕ) × Begins (unindented line) label

-- a line ends a block, whatever its label; it may be indented
abbrev pub EndsBlock : List ℕ → Type 0
EndsBlock line = (label : List ℕ) × (unindented line ≡ end_boundary ++ label)

-- a line is inside a block: it neither ends one nor begins one
abbrev pub IsInner : List ℕ → Type 0
IsInner line = (EndsBlock line → ⊥) × (BeginsBlock line → ⊥)

-- whether a line is blank
abbrev pub is_blank : List ℕ → Bool
is_blank line = list_all is_ascii_whitespace line

-- whether the lines of a block begin with headers (RFC 1421, 4.4): the first of them has a colon, which is not base64
abbrev pub has_headers : List (List ℕ) → Bool
has_headers [] = false
has_headers (line ∷ more) = list_any (λ c. c == 58) line

-- the headers in the lines of a block: those before the first blank line
abbrev pub headers_in : List (List ℕ) → List (List ℕ)
headers_in lines = cond (has_headers lines) (before_first is_blank lines) []

-- the lines of base64 in the lines of a block: those after the blank line that ends the headers, or all
abbrev pub body_in : List (List ℕ) → List (List ℕ)
body_in lines = cond (has_headers lines) (after_first is_blank lines) lines

-- whether a header says that the block is encrypted (RFC 1421, 4.6.1.1)
abbrev pub says_encrypted : List ℕ → Bool
says_encrypted line =
    starts_with nat_eq line (codes "Proc-Type:")
    && ends_with nat_eq (take (length line - suffix_len is_ascii_whitespace line) line) (codes "ENCRYPTED")

-- the lines of a block encode the bytes
pub record BlockDecodes (lines : List (List ℕ)) (bytes : List ℕ) : Type 0 where
  pub headers_end : has_headers lines ≡ true → list_any is_blank lines ≡ true
  pub is_plain : list_any says_encrypted (headers_in lines) ≡ false
  pub decodes : IsBase64 (concat (body_in lines)) bytes

-- the first block in lines encodes the bytes, and R holds of the lines after it
pub record FirstBlock (R : List (List ℕ) → Type 0) (lines : List (List ℕ)) (bytes : List ℕ) : Type 0 where
  pub before : List (List ℕ)
  pub first : List ℕ
  pub body : List (List ℕ)
  pub last : List ℕ
  pub after : List (List ℕ)
  pub joined : lines ≡ before ++ (first ∷ (body ++ (last ∷ after)))
  pub none_before : AllByRecursion (λ line. BeginsBlock line → ⊥) before
  pub begins : BeginsBlock first
  pub inner : AllByRecursion IsInner body
  pub ends : EndsBlock last
  pub decodes : BlockDecodes body bytes
  pub others : R after

-- the blocks in lines encode these bytes each, one block after the other
unfoldable pub DecodeBlocks : List (List ℕ) → List (List ℕ) → Type 0
DecodeBlocks [] lines = AllByRecursion (λ line. BeginsBlock line → ⊥) lines
DecodeBlocks (bytes ∷ more) lines = FirstBlock (DecodeBlocks more) lines bytes

-- the lines of a text
abbrev pub lines_of : List ℕ → List (List ℕ)
lines_of text = slice_split (λ c. c == 10) text

-- the lines of the rest of a text, if there is a rest
abbrev pub lines_left : Option (Bor (List ℕ)) → List (List ℕ)
lines_left None = []
lines_left (Some text) = lines_of text.now

-- a text is PEM of one or more blocks, which encode these bytes each
pub record IsPem (text : List ℕ) (blocks : List (List ℕ)) : Type 0 where
  pub decode : DecodeBlocks blocks (lines_of text)
  pub some : 1 ≤ length blocks
