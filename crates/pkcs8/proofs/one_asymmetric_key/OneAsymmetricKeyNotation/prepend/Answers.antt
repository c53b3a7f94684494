use Rattle.std.proofs.Common.{rules}
use Rattle.pkcs8.proofs.one_asymmetric_key.OneAsymmetricKeyNotation.prepend.Goals as goal

pub returns : goal.returns
returns c = search rules
