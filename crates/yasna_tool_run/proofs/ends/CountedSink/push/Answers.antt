use Rattle.std.proofs.Common.{nat_eq, ap, ◌∙◌, arith}
use Rattle.std.proofs.lemmas.Bool.{false≢true}
use Rattle.yasna_tool_run.proofs.ends.CountedSink.push.Goals as goal

pub returns-then-not-is_empty-clause-count : goal.returns-then-not-is_empty-clause-count
returns-then-not-is_empty-clause-count g c = (
  λ some. absurd (omega (arith, some, c.if-taken-eq0.true)),
  λ none. absurd (false≢true ((c.if-not-is_empty.ensures {u = tt}) ∙ ap (λ n. nat_eq n 0) none)),
  λ nothing some. c.count_failure.ensures.failures,
)
