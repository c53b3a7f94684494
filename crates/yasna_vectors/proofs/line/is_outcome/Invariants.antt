use denote.Text.{Utf8}
use denote.Shadow.{shadow}
use Rattle.yasna_vectors.proofs.line.is_outcome.Given as goal

-- what is left to compare is text
abbrev pub invariant-loop : goal.invariant-loop
invariant-loop l = shadow (Utf8 l.others)

abbrev pub invariant-loop-piece : goal.invariant-loop-piece
invariant-loop-piece l =
    (goal.iterator-loop-piece).can_next l.piece-iterator ×
    (goal.iterator-loop-piece).is_finite l.piece-iterator ×
    shadow (Utf8 l.others)
