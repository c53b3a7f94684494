use Rattle.std.proofs.Common.{◌≡◌, Err, rules}
use Rattle.yasna_notation.proofs.Found.{choice_read, choice_not_read}
use Rattle.yasna_notation.proofs.choices.ChoiceNotation.read.Goals as goal

pub returns : goal.returns
returns g c =
    choice_read c.args.reader.now c.in_ok-tag.tag c.lookahead_tag.result c.read_found.result c.read_found.new.reader c.lookahead_tag.ensures c.in_ok-tag.was
    c.read_found.ensures

pub returns-in_err-tag : goal.returns-in_err-tag
returns-in_err-tag g c =
    let is : c.from_residual.result ≡ Err c.in_err-tag.field-0.0 = search rules in
    rw is (choice_not_read c.args.reader.now (g.met.A.Alternatives.laws c.requires).coding c.in_err-tag.field-0.0 c.lookahead_tag.result
    c.lookahead_tag.ensures c.in_err-tag.was)
