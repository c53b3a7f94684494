use Rattle.yasna_reader.specs.Callback.{at_cursor}
use Rattle.yasna_reader.proofs.ListTurns.{turn_rest}
use Rattle.yasna_reader.proofs.state.ReaderState.turned.Goals as goal

pub in_order-requires : goal.in_order-requires
in_order-requires g c =
    turn_rest (at_cursor c.args.before) c.args.returned.now c.args.self.now c.take_turn-outcome.result c.take_turn-outcome.new.self
    c.take_turn-outcome.ensures
