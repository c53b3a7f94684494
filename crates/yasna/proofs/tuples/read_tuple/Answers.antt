use Rattle.std.proofs.Common.{rules, arith}
use Rattle.yasna_base.specs.Sequence.{sequence_tag}
use Rattle.yasna_base.proofs.Identifier.{not_end}
use Rattle.yasna_reader.specs.Decodes.{DecodesParts}
use Rattle.yasna_reader.proofs.Sequences.{parts_map}
use Rattle.yasna_reader.proofs.Sticky.{parts_repeat_error}
use Rattle.yasna_reader.proofs.Tuples.{parts_element}
use Rattle.yasna.proofs.tuples.read_tuple.Goals as goal

pub returns-clause-decodes : goal.returns-clause-decodes
returns-clause-decodes g c failed =
    let s = c.args.reader.now in
    let r = c.read_sequence.result in
    let left = c.read_sequence.new.self in
    parts_element g.W.TupleParts.parts_may_allocate g.met.W.TupleParts.lawful sequence_tag (not_end 16 (λ e. omega arith)) s (failed, c.requires) r left
    (parts_map _ (DecodesParts g.W.TupleParts.parts_may_allocate g.W.TupleParts.parts g.W.TupleParts.any_parts) (λ s r s' f h. search rules)
    sequence_tag s r left c.read_sequence.ensures)

pub returns-clause-failed : goal.returns-clause-failed
returns-clause-failed g c = parts_repeat_error c.read_sequence.ensures
