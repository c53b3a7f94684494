use Rattle.std.proofs.Common.{sym, subst, rules}
use Rattle.std.specs.Prelude.{IsTrue, ◌↔◌}
use Rattle.yasna_reader.specs.Lookahead.{NothingFollows}
use Rattle.yasna_reader.proofs.state.ReaderState.nothing_follows.Goals as goal

pub returns-in-None : goal.returns-in-None
returns-in-None c = subst (λ z. IsTrue c.end_here.result ↔ NothingFollows z.failed z.left) c.self.view_is
    (subst (λ k. IsTrue c.end_here.result ↔ NothingFollows k c.self.inside.cursor.left.now) (sym c.in-None.is) c.end_here.ensures)

pub returns-in-Some : goal.returns-in-Some
returns-in-Some c = search rules
