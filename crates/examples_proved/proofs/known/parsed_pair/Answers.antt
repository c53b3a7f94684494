use Rattle.std.proofs.Common.{rules, false}
use Rattle.std.specs.Int.{w64}
use Rattle.yasna.specs.Words.{Der}
use Rattle.yasna.proofs.Laws.{part, no_part, tuple, bool_coding, signed_coding}
use Rattle.yasna.proofs.Closures.{decodes_by, parse_by, rejects_none}
use Rattle.examples_proved.proofs.known.parsed_pair.Goals as goal

pub returns-clause-rejected : goal.returns-clause-rejected
returns-clause-rejected c =
    let laws = tuple (λ v. (v.0, (v.1, tt))) (part (signed_coding w64) (part bool_coding no_part)) in
    rejects_none laws Der c.args.buf.now c.parse_der.result (parse_by laws (decodes_by {may_allocate = false}) c.parse_der.ensures (λ p q x h. search rules))
