use Rattle.std.proofs.Common.{rules, arith}
use Rattle.std.specs.Int.{w64}
use Rattle.yasna.specs.Words.{Primitively, IsSigned}
use Rattle.yasna.proofs.Laws.{signed_coding}
use Rattle.yasna.proofs.Closures.{leaf_by, list_by}
use Rattle.examples_proved.proofs.known.fn.parsed_numbers.parse_der.Goals as goal

pub returns : goal.returns
returns c =
    list_by (signed_coding w64) (leaf_by (Primitively (IsSigned w64)) 2 (λ e. omega arith)) c.requires c.collect_sequence_of.ensures
    (λ f f' p q x h. search rules)
