-- What an input holds: elements, in each format.
use Rattle.std.specs.Prelude.{◌⊎◌, ◌-◌, ℕ, List, length}
use Rattle.yasna_base.specs.Grammar.{max_depth}
use Rattle.yasna_base.specs.declared.error.ASN1ErrorKind.{ASN1ErrorKind}
use Rattle.yasna_base.specs.declared.mode.BERMode.{BERMode}
use Rattle.asn1_input.specs.Text.{text_of}
use Rattle.asn1_input.specs.Hex.{IsHex, IsNoHex}
use Rattle.asn1_input.specs.Input.{HoldsEach}
use Rattle.asn1_input.specs.declared.input_format.InputFormat.{InputFormat}
use Rattle.asn1_input.specs.declared.input_format.InputFormat.TheVariants.{Bytes, Hex, Pem}
use Rattle.asn1show_walk.specs.Reading.{NoElements}
use Rattle.asn1show_walk.specs.WellFormed.{AreElements}

-- an input in this format encodes one or more well-formed elements, and in PEM each block does
abbrev pub HoldsElements : BERMode → InputFormat → List ℕ → Type 0
HoldsElements mode input_format input = HoldsEach (AreElements max_depth mode) input_format input

-- an input in this format doesn't encode well-formed elements, with the offset and the kind of the error
abbrev pub HoldsNone : BERMode → InputFormat → List ℕ → ℕ → ASN1ErrorKind → Type 0
HoldsNone mode Bytes input offset kind = NoElements max_depth mode input offset kind
HoldsNone mode Hex input offset kind =
    IsNoHex (text_of input) (length input - length (text_of input)) offset kind
    ⊎ ((bytes : List ℕ) × IsHex (text_of input) bytes × NoElements max_depth mode bytes offset kind)
HoldsNone mode Pem input offset kind = HoldsElements mode Pem input → ⊥
