-- The step of a reader of PEM by a line, and the blocks that it has yet to read.
use Rattle.std.specs.Prelude.{◌≡◌, ◌≢◌, ◌⊎◌, ◌↔◌, ◌≤◌, ◌+◌, ◌^◌, ◌-◌, not, min, find, ℕ, Bool, true, false, List, [], ◌∷◌, ◌++◌, length, map, Option, Some, None, option_map, Result, Ok, Err, Vec}
use Rattle.std.specs.List.{AllByRecursion, concat, list_any, position_or_len}
use Rattle.std.specs.Option.{option_or}
use Rattle.std.specs.Global.{Global}
use Rattle.yasna_base.specs.declared.error.ASN1ErrorKind.{ASN1ErrorKind}
use Rattle.yasna_base.specs.declared.error.ASN1ErrorKind.TheVariants.{Eof, Invalid}
use Rattle.asn1show_walk.specs.Errors.{IsExternal, IsMalformed, WalkFails}
use Rattle.asn1show_walk.specs.declared.error.WalkError.{WalkError}
use Rattle.asn1_input.specs.Text.{is_in_base64, IsBase64, IsMemoryError}
use Rattle.asn1_input.specs.Blocks.{body_in, has_headers, headers_in, is_blank, says_encrypted, BeginsBlock, BlockDecodes, DecodeBlocks, EndsBlock, IsInner}
use Rattle.asn1_input.specs.declared.block.TextLine.{TextLine}
use Rattle.asn1_input.specs.declared.pem.PemReader.{PemReader}

-- the texts of lines
abbrev pub texts : List TextLine → List (List ℕ)
texts lines = map (λ l. l.text.now) lines

-- ---- the bytes of a block, or why it has none

-- the place of the octet of a line at this index
abbrev pub octet_place : TextLine → ℕ → ℕ
octet_place line index = min (line.offset + index) (2 ^ 64 - 1)

-- whether a text has an octet that is neither white space nor a digit of base64
abbrev pub has_stray : List ℕ → Bool
has_stray text = list_any (λ c. not (is_in_base64 c)) text

-- the index of the first such octet
abbrev pub first_stray : List ℕ → ℕ
first_stray text = position_or_len (λ c. not (is_in_base64 c)) text

abbrev pub stray_place : Option TextLine → ℕ → ℕ
stray_place (Some line) end = octet_place line (first_stray line.text.now)
stray_place None end = end

-- the place of the first such octet of lines, or the end if there is none
abbrev pub base64_place : List TextLine → ℕ → ℕ
base64_place lines end = stray_place (find (λ l. has_stray l.text.now) lines) end

-- lines encode no bytes in base64, which is reported at their first octet that is neither white space nor a digit, else at their end
pub record NoBase64 (lines : List TextLine) (end offset : ℕ) (kind : ASN1ErrorKind) : Type 0 where
  pub none : (bytes : List ℕ) → IsBase64 (concat (texts lines)) bytes → ⊥
  pub place : offset ≡ base64_place lines end
  pub invalid : kind ≡ Invalid

-- the lines of base64 of a block whose headers end, and don't say that it is encrypted
pub record IsBody (lines body : List TextLine) : Type 0 where
  pub headers_end : has_headers (texts lines) ≡ true → list_any is_blank (texts lines) ≡ true
  pub is_plain : list_any says_encrypted (headers_in (texts lines)) ≡ false
  pub same : texts body ≡ body_in (texts lines)

-- the lines of a block whose last line is at the end have no such body: no blank line ends the headers, or a header says that it is encrypted
pub data NoBody (lines : List TextLine) (end offset : ℕ) (kind : ASN1ErrorKind) : Type 0 where
  no_blank : has_headers (texts lines) ≡ true → list_any is_blank (texts lines) ≡ false → offset ≡ end → kind ≡ Eof → NoBody lines end offset kind
  encrypted : (headers : List TextLine) (header : TextLine) → texts headers ≡ headers_in (texts lines) → find (λ l. says_encrypted l.text.now) headers ≡ Some header →
      offset ≡ header.offset → kind ≡ Invalid → NoBody lines end offset kind

-- the lines of a block whose last line is at the end encode no bytes
pub data NoBlock (lines : List TextLine) (end offset : ℕ) (kind : ASN1ErrorKind) : Type 0 where
  no_body : NoBody lines end offset kind → NoBlock lines end offset kind
  no_base64 : (body : List TextLine) → IsBody lines body → NoBase64 body end offset kind → NoBlock lines end offset kind

-- what the lines of a block decode to, where its last line is at the end
abbrev pub IsDecoded : List TextLine → ℕ → Result (Vec ℕ Global) WalkError → Type 0
IsDecoded lines end (Ok bytes) = BlockDecodes (texts lines) bytes.items
IsDecoded lines end (Err f) = WalkFails IsMemoryError (NoBlock lines end) f

-- a block has no bytes, since another one or the end of the input cuts it off at the end
abbrev pub IsCutOff : ℕ → Result (Vec ℕ Global) WalkError → Type 0
IsCutOff end (Ok bytes) = ⊥
IsCutOff end (Err f) = IsMalformed (λ offset kind. (offset ≡ end) × (kind ≡ Eof)) f

-- P holds of the bytes of a block, which has bytes
abbrev pub BlockHolds : (List ℕ → Type 0) → Result (Vec ℕ Global) WalkError → Type 0
BlockHolds P (Ok bytes) = P bytes.items
BlockHolds P (Err f) = ⊥

-- P doesn't hold of the bytes of a block, or it has none, which isn't for lack of memory
abbrev pub BlockLacks : (List ℕ → Type 0) → Result (Vec ℕ Global) WalkError → Type 0
BlockLacks P (Ok bytes) = P bytes.items → ⊥
BlockLacks P (Err f) = IsExternal f → ⊥

-- why a block isn't what is awaited, at this offset and of this kind: Q says it of its bytes, or it has none for the error that it has
abbrev pub BlockFails : (List ℕ → ℕ → ASN1ErrorKind → Type 0) → Result (Vec ℕ Global) WalkError → ℕ → ASN1ErrorKind → Type 0
BlockFails Q (Ok bytes) offset kind = Q bytes.items offset kind
BlockFails Q (Err f) offset kind = IsMalformed (λ at k. (at ≡ offset) × (k ≡ kind)) f

-- ---- the reader

-- the lines of the block that is open, if one is
abbrev pub open_lines : PemReader → Option (List TextLine)
open_lines reader = option_map (λ b. b.lines.items) reader.block

-- whether a block has ended
abbrev pub has_any : PemReader → Bool
has_any reader = reader.is_any

-- where the next line begins
abbrev pub next_offset : PemReader → ℕ
next_offset reader = reader.offset

-- the reader after a line, and what the block decodes to that ends with that line or before it
pub data TakesLine (old : PemReader) (line : List ℕ) (decoded : Option (Result (Vec ℕ Global) WalkError)) (new : PemReader) : Type 0 where
  outside : open_lines old ≡ None → (BeginsBlock line → ⊥) → decoded ≡ None → open_lines new ≡ None → has_any new ≡ has_any old → TakesLine old line decoded new
  begins : open_lines old ≡ None → BeginsBlock line → decoded ≡ None → open_lines new ≡ Some [] → has_any new ≡ has_any old → TakesLine old line decoded new
  within : (lines : List TextLine) (last : TextLine) → open_lines old ≡ Some lines → IsInner line → decoded ≡ None → last.text.now ≡ line →
      last.offset ≡ next_offset old → open_lines new ≡ Some (lines ++ (last ∷ [])) → has_any new ≡ has_any old → TakesLine old line decoded new
  ends : (lines : List TextLine) (r : Result (Vec ℕ Global) WalkError) → open_lines old ≡ Some lines → EndsBlock line → decoded ≡ Some r →
      IsDecoded lines (next_offset old) r → open_lines new ≡ None → has_any new ≡ true → TakesLine old line decoded new
  cuts : (lines : List TextLine) (r : Result (Vec ℕ Global) WalkError) → open_lines old ≡ Some lines → (EndsBlock line → ⊥) → BeginsBlock line → decoded ≡ Some r →
      IsCutOff (next_offset old) r → open_lines new ≡ Some [] → has_any new ≡ has_any old → TakesLine old line decoded new

-- at the end of the input: the block that is open, or there is none and one has ended
abbrev pub IsUnclosed : PemReader → ℕ → Option (Result (Vec ℕ Global) WalkError) → Type 0
IsUnclosed reader size (Some r) = (open_lines reader ≢ None) × IsCutOff size r
IsUnclosed reader size None = (open_lines reader ≡ None) × (has_any reader ≡ true)

-- the open block, of which these lines were read, encodes the bytes, and R holds of the lines after it
pub record OpenBlockDecodes (R : List (List ℕ) → Type 0) (taken : List (List ℕ)) (lines : List (List ℕ)) (bytes : List ℕ) : Type 0 where
  pub body : List (List ℕ)
  pub last : List ℕ
  pub after : List (List ℕ)
  pub joined : lines ≡ body ++ (last ∷ after)
  pub inner : AllByRecursion IsInner body
  pub ends : EndsBlock last
  pub decodes : BlockDecodes (taken ++ body) bytes
  pub others : R after

-- the blocks that end in lines encode these bytes each, where the first of them may be open
abbrev pub DecodeRest : Option (List TextLine) → List (List ℕ) → List (List ℕ) → Type 0
DecodeRest None blocks lines = DecodeBlocks blocks lines
DecodeRest (Some taken) [] lines = ⊥
DecodeRest (Some taken) (bytes ∷ more) lines = OpenBlockDecodes (DecodeBlocks more) (texts taken) lines bytes

-- P holds of the bytes of each block that ends in these lines, and a block ends in them or has ended before
pub record AwaitsFrom (P : List ℕ → Type 0) (taken : Option (List TextLine)) (any : Bool) (lines : List (List ℕ)) : Type 0 where
  pub blocks : List (List ℕ)
  pub decode : DecodeRest taken blocks lines
  pub some : (any ≡ true) ⊎ (1 ≤ length blocks)
  pub all : AllByRecursion P blocks

abbrev pub Awaits : (List ℕ → Type 0) → PemReader → List (List ℕ) → Type 0
Awaits P reader lines = AwaitsFrom P (open_lines reader) (has_any reader) lines

-- P is awaited after a line exactly where it was awaited before
abbrev pub GoesOn : (List ℕ → Type 0) → PemReader → List ℕ → PemReader → Type 0
GoesOn P old line new = (rest : List (List ℕ)) → Awaits P old (line ∷ rest) ↔ Awaits P new rest

-- after a line P isn't awaited, whatever lines follow
abbrev pub NeverComes : (List ℕ → Type 0) → PemReader → List ℕ → Type 0
NeverComes P old line = (rest : List (List ℕ)) → Awaits P old (line ∷ rest) → ⊥

-- ---- the errors of blocks, one block after the other

-- the first error after an outcome: the first one stays, unless the outcome is an external error, which is returned
abbrev pub IsFirstError : Option WalkError → Result Unit WalkError → Result (Option WalkError) WalkError → Type 0
IsFirstError first (Ok u) r = r ≡ Ok first
IsFirstError first (Err f) (Ok None) = ⊥
IsFirstError first (Err f) (Ok (Some g)) = (IsExternal f → ⊥) × (Some g ≡ option_or first (Some f))
IsFirstError first (Err f) (Err g) = IsExternal f × (g ≡ f)
