use Rattle.std.proofs.Common.{sym, ◌∙◌, ap}
use Rattle.asn1_syntax.specs.Tree.{left, texts_then}
use Rattle.asn1_syntax.proofs.Texts.{one_more_text}
use Rattle.asn1_syntax.proofs.cursor.Cursor.push_next.Goals as goal

pub returns : goal.returns
returns c =
    ap (texts_then c.args.tokens.now.items) c.in_ok-token.ensures
    ∙ sym (one_more_text _ _ _)
    ∙ ap (λ ts. texts_then ts (left c.next.new.self)) (sym c.in_ok-push.ensures.items)
