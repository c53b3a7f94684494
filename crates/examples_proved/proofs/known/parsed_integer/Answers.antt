use Rattle.std.proofs.Common.{rules, arith, false}
use Rattle.std.specs.Int.{w64}
use Rattle.yasna.specs.Words.{Der, Primitively, IsSigned}
use Rattle.yasna.proofs.Laws.{signed_coding, signed_written}
use Rattle.yasna.proofs.Closures.{leaf_by, parse_by, read_encoding, rejects_none}
use Rattle.examples_proved.proofs.known.parsed_integer.Goals as goal

pub returns : goal.returns
returns c =
    let s = c.args.buf.now in
    let r = c.parse_der.result in
    let h = parse_by (signed_coding w64) (leaf_by (Primitively (IsSigned w64)) 2 (λ e. omega arith)) c.parse_der.ensures (λ p q x h. search rules) in
    record { number = read_encoding false (signed_coding w64) (signed_written w64) Der tt s r h; rejected = rejects_none (signed_coding w64) Der s r h }
