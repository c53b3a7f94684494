use Rattle.std.proofs.Common.{refl}
use Rattle.yasna_reader.proofs.Callbacks.{copied, regained}
use Rattle.yasna_reader.proofs.state.ReaderState.hand_under.Goals as goal

pub returns : goal.returns
returns g c =
    let s = c.self.inside in
    let further = c.further.ensures in
    let shows = copied s.cursor c.further.result c.args.tag s.tag s.failed c.args.self.now further.left further.mode further.levels c.self.view_is c.requires.failed in
    regained _ c.args.self.now c.args.tag c.f-returned.result c.f-returned.new.arg2 c.regain.result c.regain.new.self
    (record { shown = _; shows = shows; left = _; met = c.f-returned.ensures; leaves = refl }) c.regain.ensures
