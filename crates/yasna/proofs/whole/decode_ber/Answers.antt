use Rattle.std.proofs.Common.{rules}
use Rattle.yasna.proofs.whole.decode_ber.Goals as goal

pub returns-clause-decoded : goal.returns-clause-decoded
returns-clause-decoded g c = search rules

pub returns-clause-parses : goal.returns-clause-parses
returns-clause-parses g c = search rules

pub returns-clause-exact : goal.returns-clause-exact
returns-clause-exact g c = search rules
