use Rattle.std.proofs.Common.{rules}
use Rattle.asn1check.proofs.message_type.MessageType.named.Goals as goal

pub returns-in_default : goal.returns-in_default
returns-in_default c = search rules
