use Rattle.std.proofs.Common.{◌≡◌, rules, Err}
use Rattle.yasna_notation.proofs.Represented.{read_for, failed_for}
use Rattle.yasna_notation.proofs.messages.read_as.Goals as goal

pub returns : goal.returns
returns g c =
    let n = g.N.Notation.means in
    read_for g.T.Represents.value_of n.tags_known n.tags n.retagged n.may_allocate n.under n.any_under c.args.reader.now c.from_value.result
    c.in_ok-value.value c.read.result c.read.new.reader c.in_ok-value.was c.from_value.ensures c.read.ensures

pub returns-in_err-value : goal.returns-in_err-value
returns-in_err-value g c =
    let n = g.N.Notation.means in
    let is : c.from_residual.result ≡ Err c.in_err-value.field-0.0 = search rules in
    rw is (failed_for g.T.Represents.value_of n.tags_known n.tags n.retagged n.may_allocate n.under n.any_under c.args.reader.now
    c.in_err-value.field-0.0 c.read.result c.read.new.reader c.in_err-value.was c.read.ensures)
