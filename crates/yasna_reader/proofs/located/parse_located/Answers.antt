use Rattle.std.proofs.Common.{refl}
use Rattle.yasna_reader.proofs.located.parse_located.Goals as goal

pub returns : goal.returns
returns g c = record {
  parses = record {
    own = c.callback-returned.result;
    left = _;
    obeys = record { shown = _; shows = c.new-state.ensures; left = _; met = c.callback-returned.ensures; leaves = refl };
    returns = c.located.ensures.returned;
  };
  place = c.located.ensures.place;
}
