use Rattle.std.proofs.Common.{[], sym, append-nil}
use Rattle.yasna_writer.proofs.buffer.state_of.Goals as goal

pub returns-in-Some : goal.returns-in-Some
returns-in-Some c = ([], sym (append-nil c.args.large.now.items), c.in-Some.ensures {u = tt} c.args.large.now.items)
