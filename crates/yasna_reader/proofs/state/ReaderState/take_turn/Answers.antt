use Rattle.std.proofs.Common.{◌≤◌, length, rules}
use Rattle.yasna_reader.specs.Callback.{at_cursor}
use Rattle.yasna_reader.specs.State.{Reading}
use Rattle.yasna_reader.proofs.ListTurns.{idled}
use Rattle.yasna_reader.proofs.state.ReaderState.take_turn.Goals as goal

pub returns : goal.returns
returns g c =
    let left : Reading = c.look_back-outcome.new.self in
    let idle : length c.args.before.left.now ≤ length left.left = search rules in
    idled (at_cursor c.args.before) c.args.returned.now c.args.self.now left c.fail_outcome.new.self c.look_back-outcome.result c.fail_outcome.result tt
    c.new.result c.look_back-outcome.ensures c.in-Matched.is idle c.new.ensures c.fail_outcome.ensures

pub returns-2 : goal.returns-2
returns-2 g c = search rules
