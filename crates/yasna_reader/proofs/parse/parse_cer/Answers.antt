use Rattle.std.proofs.Common.{rules}
use Rattle.yasna_reader.proofs.parse.parse_cer.Goals as goal

pub parse_ber_general-requires : goal.parse_ber_general-requires
parse_ber_general-requires g c κs = search rules

pub returns : goal.returns
returns g c = search rules
