use Rattle.yasna_base.proofs.Base128.{too_small}
use Rattle.yasna_base.proofs.bytes.identifier.read_number.Goals as goal

pub returns-then-number-lt31 : goal.returns-then-number-lt31
returns-then-number-lt31 c = (
  tt,
  too_small c.args.s.now c.in-Ok.number c.in-Ok.rest.now (c.in-Ok.ensures {u = tt}) c.if-number-lt31.true,
)
