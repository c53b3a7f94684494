-- The text of a line, append by append.
use Rattle.std.proofs.Common.{ℕ, List, ◌++◌, ap, ◌∙◌, append_assoc}
use Rattle.asn1show_printer.specs.Lines.{Appends}
use Rattle.asn1show_printer.specs.declared.line.LineBuffer.{LineBuffer}

pub appends_more : (a b c : LineBuffer) (x y : List ℕ) → Appends a x b → Appends b y c → Appends a (x ++ y) c
appends_more a b c x y first second = λ e.
    let q = second e in
    let p = first q.before in
    record { before = p.before; text = q.text ∙ ap (λ z. z ++ y) p.text ∙ append_assoc a.text.items x y }
