use Rattle.std.proofs.Common.{subst}
use Rattle.yasna_reader.specs.Raw.{CopiedAt}
use Rattle.yasna_reader.specs.State.{Reading}
use Rattle.yasna_reader.proofs.state.ReaderState.copy_of.Goals as goal

pub returns : goal.returns
returns g c =
    subst (λ (s : Reading). CopiedAt g.T.Copied.copies g.T.Copied.view s.levels s.mode s.left c.parse_copy.result) c.self.view_is c.parse_copy.ensures
