use Rattle.std.proofs.Common.{◌≡◌, ◌∙◌, ◌∷◌, [], Err, rules, sym, subst, true, false}
use Rattle.yasna_base.specs.Coding.{Any}
use Rattle.yasna_notation.specs.Notation.{ReadsAs}
use Rattle.yasna_notation.proofs.Found.{choice_not_read}
use Rattle.yasna_notation_types.specs.AnyUnder.{EncodesUnder, any_under_lawful}
use Rattle.yasna_notation_types.proofs.Given.{another_read, given_read}
use Rattle.yasna_notation_types.proofs.any_under.AnyUnderNotation.read.Goals as goal

pub returns-in_err-tag : goal.returns-in_err-tag
returns-in_err-tag g c =
    let is : c.from_residual.result ≡ Err c.in_err-tag.field-0.0 = search rules in
    rw is (choice_not_read c.args.reader.now (any_under_lawful g.T.TagName.tag).own.coding c.in_err-tag.field-0.0 c.lookahead_tag.result
    c.lookahead_tag.ensures c.in_err-tag.was)

pub returns-then-has_tag : goal.returns-then-has_tag
returns-then-has_tag g c =
    given_read g.T.TagName.tag c.in_ok-tag.tag c.args.reader.now c.lookahead_tag.result c.lookahead_tag.ensures c.in_ok-tag.was
    (sym c.has_tag.ensures ∙ c.if-has_tag.true) c.read_tagged_der.result c.read_tagged_der.new.self c.read_tagged_der.ensures

pub returns : goal.returns
returns g c =
    let t = g.T.TagName.tag in
    let s = c.args.reader.now in
    subst (λ e. ReadsAs true (t ∷ []) false true (λ u. EncodesUnder t) (λ u. Any (EncodesUnder t)) s (Err e) s) (sym c.new.ensures)
    (another_read t c.in_ok-tag.tag s c.lookahead_tag.result c.lookahead_tag.ensures c.in_ok-tag.was (sym c.has_tag.ensures ∙ c.if-has_tag.false) _ tt)
