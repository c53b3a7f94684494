use Rattle.yasna_notation.proofs.Chosen.{can_as, written_as}
use Rattle.cms.specs.contracts.signer_identifier.SignerIdentifierNotation.TheImpl.{ghosts as choice}
use Rattle.cms.proofs.signer_identifier.SignerIdentifierNotation.write.Goals as goal

pub write-requires : goal.write-requires
write-requires c = can_as choice.means c.in-IssuerAndSerialNumber.is c.requires

pub returns-in-IssuerAndSerialNumber : goal.returns-in-IssuerAndSerialNumber
returns-in-IssuerAndSerialNumber c = written_as choice.means c.in-IssuerAndSerialNumber.is c.args.writer.now _ _ c.write.ensures

pub write-requires-in-SubjectKeyIdentifier : goal.write-requires-in-SubjectKeyIdentifier
write-requires-in-SubjectKeyIdentifier c = can_as choice.means c.in-SubjectKeyIdentifier.is c.requires

pub returns-in-SubjectKeyIdentifier : goal.returns-in-SubjectKeyIdentifier
returns-in-SubjectKeyIdentifier c = written_as choice.means c.in-SubjectKeyIdentifier.is c.args.writer.now _ _ c.write-in-SubjectKeyIdentifier.ensures
