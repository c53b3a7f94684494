use Rattle.std.proofs.Common.{rules}
use Rattle.yasna_notation.proofs.Enclosing.{sequence_read}
use Rattle.yasna_notation.proofs.sequences.SequenceNotation.read.Goals as goal

pub returns : goal.returns
returns g c =
    let p = g.P.Parts in
    sequence_read {may_allocate = p.may_allocate} {C = p.parts} {S = p.any_parts} c.read_sequence.ensures (λ p q x fresh h. search rules)
