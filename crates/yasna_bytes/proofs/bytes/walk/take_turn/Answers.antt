use Rattle.yasna_base.specs.Identifier.{AtEnd}
use Rattle.yasna_bytes.proofs.RawHeader.{stops_after, stops_at_end, turns_to}
use Rattle.yasna_bytes.proofs.bytes.walk.take_turn.Goals as goal

pub returns-in-Ok : goal.returns-in-Ok
returns-in-Ok c = turns_to c.args.cursor.mode c.args.cursor.levels c.args.outermost.now.end c.args.cursor.left.now
    c.in-Ok.field-0-0 c.in-Ok.opened _ (c.in-Ok.ensures {u = tt}) c.pass_or_enter.ensures

pub returns-then-rejection : goal.returns-then-rejection
returns-then-rejection c = stops_after c.args.cursor.mode c.args.cursor.levels c.args.outermost.now.end c.args.cursor.left.now c.in-Err.rejection
    (c.in-Err.ensures {u = tt}) c.if-rejection.true

pub returns-in-None : goal.returns-in-None
returns-in-None c =
    let w = c.in-Err.ensures {u = tt} in
    let a : AtEnd c.args.cursor.left.now = w.consumed.0 c.if-rejection.false in
    stops_at_end c.args.cursor.mode c.args.cursor.levels c.args.outermost.now.end c.args.cursor.left.now _ (c.in-None.ensures {u = tt}) a
    c.stray_end_error.ensures
