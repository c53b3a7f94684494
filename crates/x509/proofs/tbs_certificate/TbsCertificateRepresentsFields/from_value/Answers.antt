use Rattle.std.proofs.Common.{refl}
use Rattle.x509.proofs.tbs_certificate.TbsCertificateRepresentsFields.from_value.Goals as goal

pub returns : goal.returns
returns c = refl
