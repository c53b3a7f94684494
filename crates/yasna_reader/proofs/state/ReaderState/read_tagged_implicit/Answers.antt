use Rattle.std.proofs.Common.{rules}
use Rattle.yasna_reader.proofs.state.ReaderState.read_tagged_implicit.Goals as goal

pub hand_under-requires : goal.hand_under-requires
hand_under-requires g c κs = search rules

pub returns : goal.returns
returns g c = search rules

pub returns-in-NoMatch : goal.returns-in-NoMatch
returns-in-NoMatch g c = search rules
