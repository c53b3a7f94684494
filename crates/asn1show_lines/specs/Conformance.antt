-- The conformance of an input to encoding rules, in each format.
use Rattle.std.specs.Prelude.{◌≡◌, ◌⊎◌, ◌↔◌, ◌≤◌, ℕ, true, List, ◌∷◌, length, IsTrue}
use Rattle.std.specs.List.{AllByRecursion, AllZip}
use Rattle.yasna_base.specs.declared.mode.BERMode.{BERMode}
use Rattle.asn1_input.specs.Blocks.{IsPem}
use Rattle.asn1_input.specs.Hex.{IsHex}
use Rattle.asn1_input.specs.Reader.{has_any, open_lines, DecodeRest}
use Rattle.asn1_input.specs.Text.{text_of}
use Rattle.asn1_input.specs.declared.input_format.InputFormat.{InputFormat}
use Rattle.asn1_input.specs.declared.input_format.InputFormat.TheVariants.{Bytes, Hex, Pem}
use Rattle.asn1_input.specs.declared.pem.PemReader.{PemReader}
use Rattle.asn1show_printer.specs.Conformance.{conforms}
use Rattle.asn1show_printer.specs.Reports.{IsConformanceOf}
use Rattle.asn1show_printer.specs.declared.diagnostic.Conformance.{Conformance}

-- each of these conformances is to a mode
abbrev pub AllConform : List Conformance → BERMode → Type 0
AllConform each m = AllByRecursion (λ c. IsTrue (conforms c m)) each

-- a conformance of blocks of bytes is to exactly the modes that the conformance of each block is to
pub record IsConformanceOfEach (mode : BERMode) (blocks : List (List ℕ)) (c : Conformance) : Type 0 where
  pub each : List Conformance
  pub of_each : AllZip (IsConformanceOf mode) blocks each
  pub modes : (m : BERMode) → IsTrue (conforms c m) ↔ AllConform each m

-- a conformance of an input in this format is that of the bytes that it has, and of PEM that of its blocks
abbrev pub IsConformanceIn : BERMode → InputFormat → List ℕ → Conformance → Type 0
IsConformanceIn mode Bytes input c = IsConformanceOf mode input c
IsConformanceIn mode Hex input c = (bytes : List ℕ) × IsHex (text_of input) bytes × IsConformanceOf mode bytes c
IsConformanceIn mode Pem input c = (blocks : List (List ℕ)) × IsPem (text_of input) blocks × IsConformanceOfEach mode blocks c

-- ---- one line of PEM after the other

-- the blocks that a reader has yet to read in lines have conformances, and `all` is to exactly the modes that `before` and each of these are to
pub record MeetsRest (mode : BERMode) (reader : PemReader) (lines : List (List ℕ)) (before all : Conformance) : Type 0 where
  pub blocks : List (List ℕ)
  pub decode : DecodeRest (open_lines reader) blocks lines
  pub some : (has_any reader ≡ true) ⊎ (1 ≤ length blocks)
  pub each : List Conformance
  pub of_each : AllZip (IsConformanceOf mode) blocks each
  pub modes : (m : BERMode) → IsTrue (conforms all m) ↔ (IsTrue (conforms before m) × AllConform each m)

-- a conformance becomes another one after a line: whatever lines follow, what these make of the other one, they and the line make of the first
abbrev pub MeetsLine : BERMode → PemReader → List ℕ → PemReader → Conformance → Conformance → Type 0
MeetsLine mode old line new before after =
    (rest : List (List ℕ)) (all : Conformance) → MeetsRest mode new rest after all → MeetsRest mode old (line ∷ rest) before all
