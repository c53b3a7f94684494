-- The text of a line as it is made.
use Rattle.std.specs.Prelude.{◌≡◌, ℕ, false, cond, codes, List, [], ◌++◌}
use Rattle.asn1show_printer.specs.declared.diagnostic.Conformance.{Conformance}
use Rattle.asn1show_printer.specs.declared.line.LineBuffer.{LineBuffer}

-- octets were appended to a text, and there was memory for all of it
pub record Appended (old : LineBuffer) (octets : List ℕ) (new : LineBuffer) : Type 0 where
  pub before : old.out_of_memory ≡ false
  pub text : new.text.items ≡ old.text.items ++ octets

-- octets were appended, unless memory ran out
abbrev pub Appends : LineBuffer → List ℕ → LineBuffer → Type 0
Appends old octets new = new.out_of_memory ≡ false → Appended old octets new

-- the names of the modes that elements conform to; what isn't in BER is in no mode
abbrev pub modes_text : Conformance → List ℕ
modes_text c = cond c.ber (codes "BER" ++ (cond c.der (codes ", DER") [] ++ cond c.cer (codes ", CER") [])) (codes "none")
