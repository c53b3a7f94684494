-- What is written of an input.
use Rattle.std.specs.Prelude.{◌≡◌, ℕ, List, Option, Some, None}
use Rattle.std.specs.Borrow.{Bor}
use Rattle.asn1_input.specs.Text.{text_of}
use Rattle.asn1_input.specs.Hex.{IsHex}
use Rattle.asn1der_convert.specs.Conversion.{Converts}
use Rattle.asn1der.specs.Pem.{block}

-- what is written of elements in DER: these, or with a label a block of PEM
abbrev pub labelled : Option (Bor (List ℕ)) → List ℕ → List ℕ
labelled None der = der
labelled (Some label) der = block label.now der

-- the output is the encoding in DER of the elements in BER that are the input, with this label
pub record IsOutput (label : Option (Bor (List ℕ))) (input output : List ℕ) : Type 0 where
  pub der : List ℕ
  pub converts : Converts input der
  pub labels : output ≡ labelled label der

-- the output is this of the bytes that a text in hexadecimal encodes
pub record IsOutputOfHex (label : Option (Bor (List ℕ))) (input output : List ℕ) : Type 0 where
  pub bytes : List ℕ
  pub encodes : IsHex (text_of input) bytes
  pub written : IsOutput label bytes output
