use Rattle.std.proofs.Common.{length, ap, arith}
use Rattle.yasna_base.proofs.Length.{short_length}
use Rattle.yasna_writer.proofs.length.put_length.Goals as goal

pub put_bytes-requires-clause-room : goal.put_bytes-requires-clause-room
put_bytes-requires-clause-room c =
    let e = short_length c.args.length c.if-length-lt128.true in
    omega (arith, c.requires.room, ap length e)

pub returns-then-length-lt128-clause-put : goal.returns-then-length-lt128-clause-put
returns-then-length-lt128-clause-put c = search short_length
