use Rattle.std.proofs.Common.{refl}
use Rattle.asn1_types.proofs.Words.{builtin_or_none}
use Rattle.asn1_types.proofs.builtins.builtin_of.Goals as goal

pub returns : goal.returns
returns c = builtin_or_none (c.in_default.ensures.none refl) c.in_default-text_kind.ensures c.unread_type.result c.unread_type.ensures
