use Rattle.std.proofs.Common.{◌∷◌, sym, ◌∙◌, ap}
use Rattle.std.specs.Prelude.{codes}
use Rattle.asn1_syntax.specs.Tree.{comma_then, left, names_then}
use Rattle.asn1_syntax.proofs.Texts.{one_more_name}
use Rattle.asn1_syntax.proofs.module.push_other_name.Goals as goal

pub returns : goal.returns
returns c =
    let after = left c.imported_name.new.cursor in
    let name = c.in_ok-name.name in
    ap (names_then c.args.names.now.items) (c.in_ok-take.ensures
    ∙ ap (λ l. codes "," ∷ l) c.in_ok-name.ensures.text
    ∙ ap (λ b. comma_then b (name.text.now ∷ after)) (sym c.in_ok-name.ensures.kind))
    ∙ sym (one_more_name c.args.names.now.items name after)
    ∙ ap (λ ts. names_then ts after) (sym c.in_ok-push.ensures.items)
