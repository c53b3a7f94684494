use Rattle.std.proofs.Common.{ap, ◌∙◌, refl}
use Rattle.yasna_reader.specs.State.{Reading}
use Rattle.yasna_reader.proofs.Callbacks.{lent_after}
use Rattle.yasna_reader.proofs.state.ReaderState.read_with_buffer.Goals as goal

pub with_taken-requires : goal.with_taken-requires
with_taken-requires g c =
    let t = lent_after _ _ c.args.self.now c.hand_under-outcome.result c.hand_under-outcome.new.self refl c.hand_under-outcome.ensures in
    (t.0, ap (λ (z : Reading). z.left) c.self.view_is ∙ t.1)
