use Rattle.std.proofs.Common.{refl}
use Rattle.yasna_reader.proofs.Callbacks.{comes_at}
use Rattle.yasna_reader.proofs.state.ReaderState.hand.Goals as goal

pub returns : goal.returns
returns g c = record {
  own = c.f-returned.result;
  left = c.f-returned.new.arg2;
  obeys = record { shown = _; shows = refl; left = _; met = c.f-returned.ensures; leaves = refl };
  comes = comes_at c.self.inside.cursor c.self.inside.tag c.self.inside.failed c.args.self.now c.f-returned.result c.f-returned.new.arg2 c.take_back.result
      c.take_back.new.self c.self.view_is c.take_back.ensures;
}
