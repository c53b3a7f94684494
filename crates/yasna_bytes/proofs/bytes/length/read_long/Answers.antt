use Rattle.yasna_bytes.proofs.Length.{none_measured}
use Rattle.yasna_bytes.proofs.bytes.length.read_long.Goals as goal

pub returns-in-None : goal.returns-in-None
returns-in-None c =
    (c.long_length_error.ensures, none_measured c.args.mode c.args.first c.args.s.now c.if-first-eq128.false (c.in-None.ensures {u = tt}))
