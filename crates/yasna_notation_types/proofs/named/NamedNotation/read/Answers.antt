use Rattle.std.proofs.Common.{◌≡◌, Err, false, true, rules, sym, subst}
use Rattle.yasna_notation.specs.Notation.{ReadsMeaning}
use Rattle.yasna_notation_types.specs.Named.{named_means}
use Rattle.yasna_notation_types.proofs.Numbering.{value_read, no_value_read, no_number_read}
use Rattle.yasna_notation_types.proofs.named.NamedNotation.read.Goals as goal

pub returns-in_err-number : goal.returns-in_err-number
returns-in_err-number g c =
    let n = g.E.Numbered in
    let is : c.from_residual.result ≡ Err c.in_err-number.field-0.0 = search rules in
    rw is (no_number_read n.number_of n.named n.allowed c.args.reader.now c.read_enum.result c.read_enum.new.self c.read_enum.ensures
    c.in_err-number.field-0.0 c.in_err-number.was)

pub returns-in-None : goal.returns-in-None
returns-in-None g c =
    let n = g.E.Numbered in
    let none : n.named c.in_ok-number.number ≡ false = search rules in
    subst (λ e. ReadsMeaning (named_means n.number_of n.named n.allowed) c.args.reader.now (Err e) c.read_enum.new.self) (sym c.new.ensures)
    (no_value_read n.number_of n.named n.allowed c.args.reader.now c.read_enum.result c.read_enum.new.self c.read_enum.ensures
    c.in_ok-number.number c.in_ok-number.was none)

pub returns-in-Some : goal.returns-in-Some
returns-in-Some g c =
    let n = g.E.Numbered in
    let some : n.named c.in_ok-number.number ≡ true = search rules in
    let one : n.number_of c.in-Some.value ≡ c.in_ok-number.number = search rules in
    value_read n.number_of n.named n.allowed c.args.reader.now c.read_enum.result c.read_enum.new.self c.read_enum.ensures
    c.in_ok-number.number c.in-Some.value c.in_ok-number.was some one
