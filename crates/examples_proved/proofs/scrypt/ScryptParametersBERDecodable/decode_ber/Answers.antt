use Rattle.std.proofs.Common.{rules, refl, true, false}
use Rattle.yasna.proofs.Laws.{unambiguous_before_nothing, unsigned_coding, vec_coding}
use Rattle.yasna.proofs.Closures.{contents_by, then_by, part_by, option_by, end_by, decodes_by, no_match_at_end, parts_repeat_error}
use Rattle.examples_proved.specs.Scrypt.{scrypt_parts}
use Rattle.examples_proved.proofs.scrypt.ScryptParametersBERDecodable.decode_ber.Goals as goal

pub returns-clause-decodes : goal.returns-clause-decodes
returns-clause-decodes c failed =
    contents_by scrypt_parts
    (λ w. record { salt = w.0; cost = w.1.0; block_size = w.1.1.0; parallelization = w.1.1.1.0; key_length = w.1.1.1.1.0 })
    (λ w. refl)
    (then_by (part_by vec_coding (decodes_by {may_allocate = true})) (λ salt.
    then_by (part_by (unsigned_coding 64) (decodes_by {may_allocate = false})) (λ cost.
    then_by (part_by (unsigned_coding 64) (decodes_by {may_allocate = false})) (λ block_size.
    then_by (part_by (unsigned_coding 64) (decodes_by {may_allocate = false})) (λ parallelization.
    then_by (option_by (unsigned_coding 64) (decodes_by {may_allocate = false}) (unambiguous_before_nothing (unsigned_coding 64)) (no_match_at_end (decodes_by {may_allocate =
    false}))) (λ key_length. end_by))))))
    (failed, c.requires) c.read_sequence.ensures (λ p q x h. search rules)

pub returns-clause-failed : goal.returns-clause-failed
returns-clause-failed c = parts_repeat_error c.read_sequence.ensures
