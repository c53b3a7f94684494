use Rattle.yasna_notation.proofs.Chosen.{can_as, prepended_as}
use Rattle.cms.specs.contracts.signer_identifier.SignerIdentifierNotation.TheImpl.{ghosts as choice}
use Rattle.cms.proofs.signer_identifier.SignerIdentifierNotation.prepend.Goals as goal

pub prepend-requires : goal.prepend-requires
prepend-requires c = can_as choice.means c.in-IssuerAndSerialNumber.is c.requires

pub returns-in-IssuerAndSerialNumber : goal.returns-in-IssuerAndSerialNumber
returns-in-IssuerAndSerialNumber c = prepended_as choice.means c.in-IssuerAndSerialNumber.is c.args.under c.args.out.now _ _ c.prepend.ensures

pub prepend-requires-in-SubjectKeyIdentifier : goal.prepend-requires-in-SubjectKeyIdentifier
prepend-requires-in-SubjectKeyIdentifier c = can_as choice.means c.in-SubjectKeyIdentifier.is c.requires

pub returns-in-SubjectKeyIdentifier : goal.returns-in-SubjectKeyIdentifier
returns-in-SubjectKeyIdentifier c = prepended_as choice.means c.in-SubjectKeyIdentifier.is c.args.under c.args.out.now _ _ c.prepend-in-SubjectKeyIdentifier.ensures
