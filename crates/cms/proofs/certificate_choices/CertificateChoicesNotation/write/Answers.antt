use Rattle.yasna_notation.proofs.Chosen.{can_as, written_as}
use Rattle.cms.specs.contracts.certificate_choices.CertificateChoicesNotation.TheImpl.{ghosts as choice}
use Rattle.cms.proofs.certificate_choices.CertificateChoicesNotation.write.Goals as goal

pub write-requires : goal.write-requires
write-requires c = can_as choice.means c.in-Certificate.is c.requires

pub returns-in-Certificate : goal.returns-in-Certificate
returns-in-Certificate c = written_as choice.means c.in-Certificate.is c.args.writer.now _ _ c.write.ensures

pub write-requires-in-ExtendedCertificate : goal.write-requires-in-ExtendedCertificate
write-requires-in-ExtendedCertificate c = can_as choice.means c.in-ExtendedCertificate.is c.requires

pub returns-in-ExtendedCertificate : goal.returns-in-ExtendedCertificate
returns-in-ExtendedCertificate c = written_as choice.means c.in-ExtendedCertificate.is c.args.writer.now _ _ c.write-in-ExtendedCertificate.ensures

pub write-requires-in-V1AttrCert : goal.write-requires-in-V1AttrCert
write-requires-in-V1AttrCert c = can_as choice.means c.in-V1AttrCert.is c.requires

pub returns-in-V1AttrCert : goal.returns-in-V1AttrCert
returns-in-V1AttrCert c = written_as choice.means c.in-V1AttrCert.is c.args.writer.now _ _ c.write-in-V1AttrCert.ensures

pub write-requires-in-V2AttrCert : goal.write-requires-in-V2AttrCert
write-requires-in-V2AttrCert c = can_as choice.means c.in-V2AttrCert.is c.requires

pub returns-in-V2AttrCert : goal.returns-in-V2AttrCert
returns-in-V2AttrCert c = written_as choice.means c.in-V2AttrCert.is c.args.writer.now _ _ c.write-in-V2AttrCert.ensures

pub write-requires-in-Other : goal.write-requires-in-Other
write-requires-in-Other c = can_as choice.means c.in-Other.is c.requires

pub returns-in-Other : goal.returns-in-Other
returns-in-Other c = written_as choice.means c.in-Other.is c.args.writer.now _ _ c.write-in-Other.ensures
