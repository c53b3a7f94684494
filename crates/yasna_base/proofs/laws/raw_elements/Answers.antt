use Rattle.yasna_base.proofs.Raw.{raw_coding, deep_not_raw}
use Rattle.yasna_base.proofs.laws.raw_elements.Goals as goal

pub returns-clause-reading : goal.returns-clause-reading
returns-clause-reading c = raw_coding

pub returns-clause-depth : goal.returns-clause-depth
returns-clause-depth c = λ n m v s b r d x e. deep_not_raw n m s d v b r x e
