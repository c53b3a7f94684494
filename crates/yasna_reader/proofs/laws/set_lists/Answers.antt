use Rattle.yasna_reader.proofs.SetLaws.{lists_are_one, lists_are_sets, sets_are_listed}
use Rattle.yasna_reader.proofs.laws.set_lists.Goals as goal

pub returns-clause-lists : goal.returns-clause-lists
returns-clause-lists c = lists_are_sets

pub returns-clause-sets : goal.returns-clause-sets
returns-clause-sets c = sets_are_listed

pub returns-clause-one : goal.returns-clause-one
returns-clause-one c = lists_are_one
