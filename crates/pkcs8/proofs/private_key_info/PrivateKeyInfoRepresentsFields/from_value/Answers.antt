use Rattle.std.proofs.Common.{refl}
use Rattle.pkcs8.proofs.private_key_info.PrivateKeyInfoRepresentsFields.from_value.Goals as goal

pub returns : goal.returns
returns c = refl
