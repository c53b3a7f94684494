use Rattle.std.proofs.Common.{◌↔◌, IsTrue, subst, sym}
use Rattle.yasna_bytes.specs.declared.bytes.text.Class.{Class}
use Rattle.asn1_contents.specs.Contents.{IsTextOf}
use Rattle.asn1_contents.proofs.Contents.{both, bmp_is, ia5_is, numeric_is, printable_is, text_is, visible_is}
use Rattle.asn1_contents.proofs.plain.is_text.Goals as goal

pub returns-in-Utf8 : goal.returns-in-Utf8
returns-in-Utf8 c =
    subst (λ (k : Class). IsTrue c.is_utf8.result ↔ IsTextOf k c.args.octets.now) (sym c.in-Utf8.is)
    (both c.is_utf8.ensures (text_is c.args.octets.now))

pub returns-in-Numeric : goal.returns-in-Numeric
returns-in-Numeric c =
    subst (λ (k : Class). IsTrue c.is_numeric.result ↔ IsTextOf k c.args.octets.now) (sym c.in-Numeric.is)
    (both c.is_numeric.ensures (numeric_is c.args.octets.now))

pub returns-in-Printable : goal.returns-in-Printable
returns-in-Printable c =
    subst (λ (k : Class). IsTrue c.is_printable.result ↔ IsTextOf k c.args.octets.now) (sym c.in-Printable.is)
    (both c.is_printable.ensures (printable_is c.args.octets.now))

pub returns-in-Ia5 : goal.returns-in-Ia5
returns-in-Ia5 c =
    subst (λ (k : Class). IsTrue c.is_ia5.result ↔ IsTextOf k c.args.octets.now) (sym c.in-Ia5.is)
    (both c.is_ia5.ensures (ia5_is c.args.octets.now))

pub returns-in-Visible : goal.returns-in-Visible
returns-in-Visible c =
    subst (λ (k : Class). IsTrue c.is_visible.result ↔ IsTextOf k c.args.octets.now) (sym c.in-Visible.is)
    (both c.is_visible.ensures (visible_is c.args.octets.now))

pub returns-in-Bmp : goal.returns-in-Bmp
returns-in-Bmp c =
    subst (λ (k : Class). IsTrue c.are_units.result ↔ IsTextOf k c.args.octets.now) (sym c.in-Bmp.is)
    (both c.are_units.ensures (bmp_is c.args.octets.now))
