use Rattle.std.proofs.Common.{rules}
use Rattle.yasna_bytes.proofs.bytes.segments.octets.OctetsTally.tag.Goals as goal

pub returns : goal.returns
returns c = search rules
