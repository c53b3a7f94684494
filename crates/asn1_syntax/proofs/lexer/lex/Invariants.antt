use Rattle.std.proofs.Common.{length}
use Rattle.asn1_syntax.proofs.Tokens.{LexesTo}
use Rattle.asn1_syntax.proofs.lexer.lex.Given as goal

abbrev pub invariant-loop-rest : goal.invariant-loop-rest
invariant-loop-rest l = LexesTo l.source l.tokens.items l.rest

abbrev pub decreases-loop-rest : goal.decreases-loop-rest
decreases-loop-rest l = length l.rest
