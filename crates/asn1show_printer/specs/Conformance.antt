-- The encoding rules that diagnostics exclude, and which diagnostics are shown.
use Rattle.std.specs.Prelude.{◌≡◌, Bool, true, false, ◌&&◌, ◌||◌, not, Option, Some, None}
use Rattle.yasna_base.specs.declared.mode.BERMode.{BERMode}
use Rattle.yasna_base.specs.declared.mode.BERMode.TheVariants.{Ber, Der, Cer}
use Rattle.asn1show_printer.specs.declared.diagnostic.Conformance.{Conformance}
use Rattle.asn1show_printer.specs.declared.diagnostic.Diagnostic.{Diagnostic}
use Rattle.asn1show_printer.specs.declared.diagnostic.Diagnostic.TheVariants.{LongLength, Indefinite, Segments, Truth, Padding, Order, TagOrder, Time, Local}
use Rattle.asn1show_printer.specs.declared.diagnostic.Diagnostic.TheVariants.{Definite, Uncut, NotInModule, Missing, Repeated, Bounds, Item, LastZeros}
use Rattle.asn1show_printer.specs.declared.diagnostic.Diagnostic.TheVariants.{Size, Default}
use Rattle.asn1show_printer.specs.declared.selection.Selection.{Selection}
use Rattle.asn1show_printer.specs.declared.selection.Selection.TheVariants.{Elements, Defects, Bytes}

abbrev pub is_der : BERMode → Bool
is_der Ber = false
is_der Der = true
is_der Cer = false

abbrev pub is_cer : BERMode → Bool
is_cer Ber = false
is_cer Der = false
is_cer Cer = true

abbrev pub is_canonical : BERMode → Bool
is_canonical Ber = false
is_canonical Der = true
is_canonical Cer = true

-- whether an element with a diagnostic isn't in a mode: BER accepts what is only not canonical (X.690, 9 to 11)
abbrev pub excludes : Diagnostic → BERMode → Bool
excludes LongLength m = is_canonical m
excludes Indefinite m = is_der m
excludes Segments m = is_der m
excludes Truth m = is_canonical m
excludes Padding m = is_canonical m
excludes Order m = is_canonical m
excludes TagOrder m = is_der m
excludes Time m = is_canonical m
excludes Local m = is_canonical m
excludes Definite m = is_cer m
excludes Uncut m = is_cer m
excludes NotInModule m = false
excludes Missing m = false
excludes Repeated m = false
excludes Bounds m = false
excludes Size m = false
excludes Item m = false
excludes Default m = is_canonical m
excludes LastZeros m = is_canonical m
excludes other m = true

-- whether an element with a diagnostic isn't as the module says
abbrev pub is_of_module : Diagnostic → Bool
is_of_module NotInModule = true
is_of_module Missing = true
is_of_module Repeated = true
is_of_module Bounds = true
is_of_module Size = true
is_of_module Item = true
is_of_module other = false

-- whether elements conform to a mode
abbrev pub conforms : Conformance → BERMode → Bool
conforms c Ber = c.ber
conforms c Der = c.der
conforms c Cer = c.cer

-- whether a diagnostic of an element is shown, which may be in a string: in a listing what excludes DER or isn't in the module, and in a check what
-- excludes the rules of the whole or isn't in the module
abbrev pub shows : Selection → Bool → Diagnostic → Bool
shows (Elements extent) in_string d = is_of_module d || excludes d Der
shows (Defects m) in_string d = not in_string && (is_of_module d || excludes d m)
shows (Bytes at part) in_string d = false

-- the conformance after further elements: to the modes that both conform to
pub record AreMet (old further new : Conformance) : Type 0 where
  pub ber : new.ber ≡ old.ber && further.ber
  pub der : new.der ≡ old.der && further.der
  pub cer : new.cer ≡ old.cer && further.cer

-- the conformance after a diagnostic: to the modes that it doesn't exclude
pub record IsNoted (old : Conformance) (d : Diagnostic) (new : Conformance) : Type 0 where
  pub ber : new.ber ≡ old.ber && not (excludes d Ber)
  pub der : new.der ≡ old.der && not (excludes d Der)
  pub cer : new.cer ≡ old.cer && not (excludes d Cer)

-- the conformance of an element after a diagnostic, if there is one
abbrev pub IsDiagnosed : Conformance → Option Diagnostic → Conformance → Type 0
IsDiagnosed old None new = new ≡ old
IsDiagnosed old (Some d) new = IsNoted old d new

-- whether elements are as asked: in a check, in its rules
abbrev pub accepts : Selection → Conformance → Bool
accepts (Elements extent) c = true
accepts (Defects m) c = conforms c m
accepts (Bytes at part) c = true
