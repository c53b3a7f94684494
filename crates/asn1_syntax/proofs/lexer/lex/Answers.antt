use Rattle.asn1_syntax.proofs.Tokens.{after_token, before_first, token_shortens}
use Rattle.asn1_syntax.proofs.lexer.lex.Goals as goal

pub loop-rest-init : goal.loop-rest-init
loop-rest-init c = rw c.new-tokens.ensures.items (before_first _ _ c.after_gap-rest.ensures)

pub loop-rest-smaller : goal.loop-rest-smaller
loop-rest-smaller c = token_shortens _ c.in_ok-token.token _ c.in_ok-token.after.now _ c.in_ok-token.ensures.ok c.after_gap-rest-in-loop-rest.ensures

pub loop-rest-preserved : goal.loop-rest-preserved
loop-rest-preserved c = rw c.in_ok-push.ensures.items
    (after_token c.args.source.now c.loop-rest.tokens.items c.in_ok-token.token c.loop-rest.rest.now c.in_ok-token.after.now c.after_gap-rest-in-loop-rest.result.now c.loop-rest.invariant c.in_ok-token.ensures.ok c.after_gap-rest-in-loop-rest.ensures)
