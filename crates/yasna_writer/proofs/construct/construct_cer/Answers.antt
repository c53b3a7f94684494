use Rattle.std.proofs.Common.{rules}
use Rattle.yasna_writer.proofs.construct.construct_cer.Goals as goal

pub construct_by-requires : goal.construct_by-requires
construct_by-requires g c = search rules

pub returns : goal.returns
returns g c = search rules
