use Rattle.yasna_base.proofs.SetContents.{set_contents_one}
use Rattle.yasna_base.proofs.SetLaws.{set_coding, set_of_order_one, set_order_one}
use Rattle.yasna_base.proofs.laws.sets.Goals as goal

pub returns-clause-set : goal.returns-clause-set
returns-clause-set c = set_coding

pub returns-clause-set_of_order : goal.returns-clause-set_of_order
returns-clause-set_of_order c = set_of_order_one

pub returns-clause-set_order : goal.returns-clause-set_order
returns-clause-set_order c = set_order_one

pub returns-clause-set_contents : goal.returns-clause-set_contents
returns-clause-set_contents c = set_contents_one
