use Rattle.std.proofs.Common.{rules, refl, false}
use Rattle.std.specs.Int.{w64}
use Rattle.yasna.proofs.Laws.{part, no_part, bool_coding, signed_coding}
use Rattle.yasna.proofs.Closures.{sequence_by, step_by, decodes_by, done_by}
use Rattle.examples_proved.proofs.known.fn.parsed_pair.parse_der.Goals as goal

pub returns : goal.returns
returns c =
    sequence_by (λ v. (v.0, (v.1, tt)))
    (λ w. (w.0, w.1.0))
    (λ w. refl)
    (part (signed_coding w64) (part bool_coding no_part))
    (step_by (signed_coding w64) (decodes_by {may_allocate = false}) (λ number.
    step_by bool_coding (decodes_by {may_allocate = false}) (λ flag. done_by)))
    c.requires c.read_sequence.ensures (λ p q x h. search rules)
