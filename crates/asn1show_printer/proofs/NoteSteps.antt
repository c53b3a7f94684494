-- The rules that are left after diagnostics.
use Rattle.std.proofs.Common.{◌≡◌, ℕ, sym, ap, ◌∙◌, Bool, true, List, [], drop, get_or, length, ◌+◌, ◌<◌, Option, Some, None}
use Rattle.std.specs.Prelude.{◌&&◌}
use Rattle.std.proofs.Math.Bool.{and_assoc, and-true}
use Rattle.std.proofs.lemmas.List.{at_drop_more}
use Rattle.yasna_base.specs.declared.mode.BERMode.{BERMode}
use Rattle.yasna_base.specs.declared.mode.BERMode.TheVariants.{Ber, Der, Cer}
use Rattle.asn1show_printer.specs.Conformance.{conforms, IsDiagnosed}
use Rattle.asn1show_printer.specs.Modes.{spares, spare_each}
use Rattle.asn1show_printer.specs.declared.diagnostic.Conformance.{Conformance}
use Rattle.asn1show_printer.specs.declared.diagnostic.Diagnostic.{Diagnostic}

-- after one
pub note_step : (old new : Conformance) (said : Option Diagnostic) → IsDiagnosed old said new → (m : BERMode) → conforms new m ≡ (conforms old m && spares said m)
note_step old new None x m = ap (λ c. conforms c m) x ∙ sym (and-true (conforms old m))
note_step old new (Some d) x Ber = x.ber
note_step old new (Some d) x Der = x.der
note_step old new (Some d) x Cer = x.cer

-- what is left after the one at i and those from there on is as before
pub note_more : (start old new : Conformance) (said : List (Option Diagnostic)) (i : ℕ) (one : Option Diagnostic) → i < length said → one ≡ get_or said i None →
    IsDiagnosed old one new → (all : Bool) (m : BERMode) → (conforms old m && spare_each (drop i said) m) ≡ all →
    (conforms new m && spare_each (drop (i + 1) said) m) ≡ all
note_more start old new said i one h is x all m e =
    let split : spare_each (drop i said) m ≡ (spares one m && spare_each (drop (i + 1) said) m) =
    at_drop_more (λ z. spare_each z m) said i None h ∙ ap (λ z. spares z m && spare_each (drop (i + 1) said) m) (sym is) in
    ap (λ z. z && spare_each (drop (i + 1) said) m) (note_step old new one x m)
    ∙ and_assoc (conforms old m) (spares one m) (spare_each (drop (i + 1) said) m) ∙ ap (λ z. conforms old m && z) (sym split) ∙ e

pub note_end : (new : Conformance) (left : List (Option Diagnostic)) (all : Bool) (m : BERMode) → left ≡ [] → (conforms new m && spare_each left m) ≡ all →
    conforms new m ≡ all
note_end new left all m none e = sym (and-true (conforms new m)) ∙ ap (λ z. conforms new m && spare_each z m) (sym none) ∙ e

-- notes of each list, one after the other
pub all_true : (c : Conformance) (said : List (Option Diagnostic)) (m : BERMode) → conforms c m ≡ true → (conforms c m && spare_each said m) ≡ spare_each said m
all_true c said m e = ap (λ z. z && spare_each said m) e
