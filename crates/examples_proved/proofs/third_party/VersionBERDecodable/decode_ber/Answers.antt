use Rattle.std.proofs.Common.{rules, refl, arith, false}
use Rattle.yasna.specs.Words.{Primitively, IsUnsigned}
use Rattle.yasna.proofs.Closures.{sequence_by, step_by, done_by, decodes_by, leaf_by, parts_repeat_error}
use Rattle.yasna.proofs.Laws.{part, no_part, bool_coding, unsigned_coding}
use Rattle.examples_proved.proofs.third_party.VersionBERDecodable.decode_ber.Goals as goal

pub returns-clause-decodes : goal.returns-clause-decodes
returns-clause-decodes c failed =
    sequence_by (λ v. (v.major, (v.flag, tt))) (λ w. record { major = w.0; flag = w.1.0 }) (λ w. refl) (part (unsigned_coding 16) (part bool_coding no_part))
    (step_by (unsigned_coding 16) (leaf_by (Primitively (IsUnsigned 16)) 2 (λ e. omega arith)) (λ major. step_by bool_coding (decodes_by {may_allocate =
    false}) (λ flag. done_by)))
    (failed, c.requires) c.read_sequence.ensures (λ p q x h. search rules)

pub returns-clause-failed : goal.returns-clause-failed
returns-clause-failed c = parts_repeat_error c.read_sequence.ensures
