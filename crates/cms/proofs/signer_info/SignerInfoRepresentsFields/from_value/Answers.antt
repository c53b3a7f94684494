use Rattle.std.proofs.Common.{refl}
use Rattle.cms.proofs.signer_info.SignerInfoRepresentsFields.from_value.Goals as goal

pub returns : goal.returns
returns c = refl
