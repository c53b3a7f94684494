use Rattle.std.proofs.Common.{rules, refl, true, false}
use Rattle.std.specs.Int.{w64}
use Rattle.yasna.proofs.Laws.{part, no_part, signed_coding, vec_coding, text_coding}
use Rattle.yasna.proofs.Closures.{sequence_by, step_by, decodes_by, done_by, parts_repeat_error}
use Rattle.examples_proved.proofs.third_party.ReportBERDecodable.decode_ber.Goals as goal

pub returns-clause-decodes : goal.returns-clause-decodes
returns-clause-decodes c failed =
    sequence_by (λ v. (v.name, (v.raw, (v.number, tt))))
    (λ w. record { name = w.0; raw = w.1.0; number = w.1.1.0 })
    (λ w. refl)
    (part text_coding (part vec_coding (part (signed_coding w64) no_part)))
    (step_by text_coding (decodes_by {may_allocate = true}) (λ name.
    step_by vec_coding (decodes_by {may_allocate = true}) (λ raw.
    step_by (signed_coding w64) (decodes_by {may_allocate = false}) (λ number. done_by))))
    (failed, c.requires) c.read_sequence.ensures (λ p q x h. search rules)

pub returns-clause-failed : goal.returns-clause-failed
returns-clause-failed c = parts_repeat_error c.read_sequence.ensures
