use Rattle.std.proofs.Common.{◌∷◌, sym, ◌∙◌, ap}
use Rattle.asn1_syntax.specs.Tree.{comma_then, is_name, left, names_then}
use Rattle.asn1_syntax.proofs.Texts.{one_more_name}
use Rattle.asn1_syntax.proofs.module.push_brace.Goals as goal

pub returns : goal.returns
returns c =
    let after = left c.next_of.new.self in
    let brace = c.in_ok-brace.brace in
    ap (names_then c.args.names.now.items) (c.in_ok-brace.ensures.text ∙ ap (λ k. comma_then (is_name k) (brace.text.now ∷ after)) (sym c.in_ok-brace.ensures.kind))
    ∙ sym (one_more_name c.args.names.now.items brace after)
    ∙ ap (λ ts. names_then ts after) (sym c.in_ok-push.ensures.items)
