use Rattle.yasna_notation.proofs.Chosen.{can_as, known_as}
use Rattle.cms.specs.contracts.certificate_choices.CertificateChoicesNotation.TheImpl.{ghosts as choice}
use Rattle.cms.proofs.certificate_choices.CertificateChoicesNotation.encoded_len.Goals as goal

pub encoded_len-requires : goal.encoded_len-requires
encoded_len-requires c = can_as choice.means c.in-Certificate.is c.requires

pub returns-in-Certificate : goal.returns-in-Certificate
returns-in-Certificate c = known_as choice.means c.in-Certificate.is c.args.under c.args.mode _ c.encoded_len.ensures

pub encoded_len-requires-in-ExtendedCertificate : goal.encoded_len-requires-in-ExtendedCertificate
encoded_len-requires-in-ExtendedCertificate c = can_as choice.means c.in-ExtendedCertificate.is c.requires

pub returns-in-ExtendedCertificate : goal.returns-in-ExtendedCertificate
returns-in-ExtendedCertificate c = known_as choice.means c.in-ExtendedCertificate.is c.args.under c.args.mode _ c.encoded_len-in-ExtendedCertificate.ensures

pub encoded_len-requires-in-V1AttrCert : goal.encoded_len-requires-in-V1AttrCert
encoded_len-requires-in-V1AttrCert c = can_as choice.means c.in-V1AttrCert.is c.requires

pub returns-in-V1AttrCert : goal.returns-in-V1AttrCert
returns-in-V1AttrCert c = known_as choice.means c.in-V1AttrCert.is c.args.under c.args.mode _ c.encoded_len-in-V1AttrCert.ensures

pub encoded_len-requires-in-V2AttrCert : goal.encoded_len-requires-in-V2AttrCert
encoded_len-requires-in-V2AttrCert c = can_as choice.means c.in-V2AttrCert.is c.requires

pub returns-in-V2AttrCert : goal.returns-in-V2AttrCert
returns-in-V2AttrCert c = known_as choice.means c.in-V2AttrCert.is c.args.under c.args.mode _ c.encoded_len-in-V2AttrCert.ensures

pub encoded_len-requires-in-Other : goal.encoded_len-requires-in-Other
encoded_len-requires-in-Other c = can_as choice.means c.in-Other.is c.requires

pub returns-in-Other : goal.returns-in-Other
returns-in-Other c = known_as choice.means c.in-Other.is c.args.under c.args.mode _ c.encoded_len-in-Other.ensures
