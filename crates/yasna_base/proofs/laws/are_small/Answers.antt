use Rattle.yasna_base.proofs.Oid.{all_small}
use Rattle.yasna_base.proofs.laws.are_small.Goals as goal

pub returns : goal.returns
returns c = all_small c.args.numbers.now c.type_inv.numbers
