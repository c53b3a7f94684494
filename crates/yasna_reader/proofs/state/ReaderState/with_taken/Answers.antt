use Rattle.std.proofs.Common.{ap}
use Rattle.yasna_reader.specs.State.{Reading}
use Rattle.yasna_reader.proofs.Callbacks.{buffered}
use Rattle.yasna_reader.proofs.state.ReaderState.with_taken.Goals as goal

pub returns : goal.returns
returns g c =
    let left = ap (λ (z : Reading). z.left) c.self.view_is in
    search (buffered, left)
