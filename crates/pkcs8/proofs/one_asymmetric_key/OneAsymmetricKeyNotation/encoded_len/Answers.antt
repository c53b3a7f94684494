use Rattle.std.proofs.Common.{rules}
use Rattle.pkcs8.proofs.one_asymmetric_key.OneAsymmetricKeyNotation.encoded_len.Goals as goal

pub returns : goal.returns
returns c = search rules
