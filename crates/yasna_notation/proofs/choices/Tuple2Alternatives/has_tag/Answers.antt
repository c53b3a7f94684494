use Rattle.std.proofs.Common.{◌||◌, sym, ap, ◌∙◌}
use Rattle.std.proofs.lemmas.List.Folds.{list_any-append}
use Rattle.yasna_base.specs.Beginnings.{is_tag}
use Rattle.std.specs.List.{list_any}
use Rattle.yasna_notation.proofs.choices.Tuple2Alternatives.has_tag.Goals as goal

pub returns-then-has_tag : goal.returns-then-has_tag
returns-then-has_tag g c =
    let is = is_tag c.args.tag in
    c.if-has_tag.true
    ∙ ap (λ b. b || list_any is g.W.Alternatives.tags) (sym c.if-has_tag.true ∙ c.has_tag.ensures)
    ∙ sym (list_any-append is g.A.Notation.means.tags g.W.Alternatives.tags)

pub returns-else-has_tag : goal.returns-else-has_tag
returns-else-has_tag g c =
    let is = is_tag c.args.tag in
    c.has_tag-else-has_tag.ensures
    ∙ ap (λ b. b || list_any is g.W.Alternatives.tags) (sym c.if-has_tag.false ∙ c.has_tag.ensures)
    ∙ sym (list_any-append is g.A.Notation.means.tags g.W.Alternatives.tags)
