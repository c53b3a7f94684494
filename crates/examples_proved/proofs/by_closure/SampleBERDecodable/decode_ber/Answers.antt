use Rattle.std.proofs.Common.{rules, refl, false}
use Rattle.std.specs.Int.{w64}
use Rattle.yasna.proofs.Laws.{part, no_part, bool_coding, signed_coding, unsigned_coding}
use Rattle.yasna.proofs.Closures.{sequence_by, step_by, decodes_by, done_by, parts_repeat_error}
use Rattle.examples_proved.proofs.by_closure.SampleBERDecodable.decode_ber.Goals as goal

pub returns-clause-decodes : goal.returns-clause-decodes
returns-clause-decodes c failed =
    sequence_by (λ v. (v.count, (v.last, (v.shift, tt))))
    (λ w. record { count = w.0; last = w.1.0; shift = w.1.1.0 })
    (λ w. refl)
    (part (unsigned_coding 32) (part bool_coding (part (signed_coding w64) no_part)))
    (step_by (unsigned_coding 32) (decodes_by {may_allocate = false}) (λ count.
    step_by bool_coding (decodes_by {may_allocate = false}) (λ last.
    step_by (signed_coding w64) (decodes_by {may_allocate = false}) (λ shift. done_by))))
    (failed, c.requires) c.read_sequence.ensures (λ p q x h. search rules)

pub returns-clause-failed : goal.returns-clause-failed
returns-clause-failed c = parts_repeat_error c.read_sequence.ensures
