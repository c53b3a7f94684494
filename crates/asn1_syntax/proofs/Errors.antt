-- Where sources of modules are rejected.
use Rattle.std.proofs.Common.{ℕ, List, length, inl, inr}
use Rattle.asn1_syntax.specs.declared.error.SyntaxError.{SyntaxError}
use Rattle.asn1_syntax.specs.declared.error.SyntaxError.TheVariants.{Malformed, Memory}
use Rattle.asn1_syntax.specs.declared.token.Token.{Token}
use Rattle.asn1_syntax.specs.Lexing.{Lexes, LexingFails}
use Rattle.asn1_syntax.specs.Parsing.{IsErrorAmong, ParsingFails}

pub lexing_failed : (source : List ℕ) (e : SyntaxError) → LexingFails source e → ParsingFails source e
lexing_failed source Memory fails = tt
lexing_failed source (Malformed offset expected) fails = inl fails

pub parsing_failed : (source : List ℕ) (ts : List Token) (e : SyntaxError) → Lexes source ts → IsErrorAmong ts (length source) e → ParsingFails source e
parsing_failed source ts Memory lexes among = tt
parsing_failed source ts (Malformed offset expected) lexes among = inr (record { tokens = ts; lexes = lexes; place = among })
