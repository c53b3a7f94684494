use Rattle.std.proofs.Common.{rules, refl, true}
use Rattle.yasna.specs.Words.{IsRaw, raw_of}
use Rattle.yasna.proofs.Laws.{unambiguous_before_nothing, oid_coding}
use Rattle.yasna.proofs.Closures.{contents_by, then_by, part_by, option_by, end_by, decodes_by, raw_by, no_match_at_end, parts_repeat_error}
use Rattle.examples_proved.specs.Algorithm.{element_coding}
use Rattle.examples_proved.proofs.public_key.AlgorithmIdentifierBERDecodable.decode_ber.Goals as goal

pub returns-clause-decodes : goal.returns-clause-decodes
returns-clause-decodes c failed =
    contents_by (λ v. (v.algorithm, (v.parameters, tt))) (λ w. record { algorithm = w.0; parameters = w.1.0 }) (λ w. refl)
    (then_by (part_by oid_coding (decodes_by {may_allocate = true})) (λ algorithm.
    then_by (option_by element_coding (raw_by IsRaw raw_of) (unambiguous_before_nothing element_coding) (no_match_at_end (raw_by IsRaw raw_of)))
    (λ parameters. end_by)))
    (failed, c.requires) c.read_sequence.ensures (λ p q x h. search rules)

pub returns-clause-failed : goal.returns-clause-failed
returns-clause-failed c = parts_repeat_error c.read_sequence.ensures
