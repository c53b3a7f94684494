use Rattle.std.proofs.Common.{rules, refl, true}
use Rattle.yasna.proofs.Laws.{bit_string_coding, no_part, part}
use Rattle.yasna.proofs.Closures.{bits_by, decodes_by, done_by, sequence_by, step_by, parts_repeat_error}
use Rattle.examples_proved.specs.Algorithm.{algorithm_coding}
use Rattle.examples_proved.proofs.public_key.SubjectPublicKeyInfoBERDecodable.decode_ber.Goals as goal

pub returns-clause-decodes : goal.returns-clause-decodes
returns-clause-decodes c failed =
    sequence_by (λ v. (v.algorithm, ((v.key, v.bits), tt))) (λ w. record { algorithm = w.0; key = w.1.0.0; bits = w.1.0.1 }) (λ w. refl)
    (part algorithm_coding (part bit_string_coding no_part))
    (step_by algorithm_coding (decodes_by {may_allocate = true}) (λ algorithm. step_by bit_string_coding bits_by (λ bits. done_by)))
    (failed, c.requires) c.read_sequence.ensures (λ p q x h. search rules)

pub returns-clause-failed : goal.returns-clause-failed
returns-clause-failed c = parts_repeat_error c.read_sequence.ensures
