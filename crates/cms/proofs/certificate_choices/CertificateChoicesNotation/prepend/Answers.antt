use Rattle.yasna_notation.proofs.Chosen.{can_as, prepended_as}
use Rattle.cms.specs.contracts.certificate_choices.CertificateChoicesNotation.TheImpl.{ghosts as choice}
use Rattle.cms.proofs.certificate_choices.CertificateChoicesNotation.prepend.Goals as goal

pub prepend-requires : goal.prepend-requires
prepend-requires c = can_as choice.means c.in-Certificate.is c.requires

pub returns-in-Certificate : goal.returns-in-Certificate
returns-in-Certificate c = prepended_as choice.means c.in-Certificate.is c.args.under c.args.out.now _ _ c.prepend.ensures

pub prepend-requires-in-ExtendedCertificate : goal.prepend-requires-in-ExtendedCertificate
prepend-requires-in-ExtendedCertificate c = can_as choice.means c.in-ExtendedCertificate.is c.requires

pub returns-in-ExtendedCertificate : goal.returns-in-ExtendedCertificate
returns-in-ExtendedCertificate c = prepended_as choice.means c.in-ExtendedCertificate.is c.args.under c.args.out.now _ _ c.prepend-in-ExtendedCertificate.ensures

pub prepend-requires-in-V1AttrCert : goal.prepend-requires-in-V1AttrCert
prepend-requires-in-V1AttrCert c = can_as choice.means c.in-V1AttrCert.is c.requires

pub returns-in-V1AttrCert : goal.returns-in-V1AttrCert
returns-in-V1AttrCert c = prepended_as choice.means c.in-V1AttrCert.is c.args.under c.args.out.now _ _ c.prepend-in-V1AttrCert.ensures

pub prepend-requires-in-V2AttrCert : goal.prepend-requires-in-V2AttrCert
prepend-requires-in-V2AttrCert c = can_as choice.means c.in-V2AttrCert.is c.requires

pub returns-in-V2AttrCert : goal.returns-in-V2AttrCert
returns-in-V2AttrCert c = prepended_as choice.means c.in-V2AttrCert.is c.args.under c.args.out.now _ _ c.prepend-in-V2AttrCert.ensures

pub prepend-requires-in-Other : goal.prepend-requires-in-Other
prepend-requires-in-Other c = can_as choice.means c.in-Other.is c.requires

pub returns-in-Other : goal.returns-in-Other
returns-in-Other c = prepended_as choice.means c.in-Other.is c.args.under c.args.out.now _ _ c.prepend-in-Other.ensures
