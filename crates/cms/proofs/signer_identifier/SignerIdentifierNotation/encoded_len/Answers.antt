use Rattle.yasna_notation.proofs.Chosen.{can_as, known_as}
use Rattle.cms.specs.contracts.signer_identifier.SignerIdentifierNotation.TheImpl.{ghosts as choice}
use Rattle.cms.proofs.signer_identifier.SignerIdentifierNotation.encoded_len.Goals as goal

pub encoded_len-requires : goal.encoded_len-requires
encoded_len-requires c = can_as choice.means c.in-IssuerAndSerialNumber.is c.requires

pub returns-in-IssuerAndSerialNumber : goal.returns-in-IssuerAndSerialNumber
returns-in-IssuerAndSerialNumber c = known_as choice.means c.in-IssuerAndSerialNumber.is c.args.under c.args.mode _ c.encoded_len.ensures

pub encoded_len-requires-in-SubjectKeyIdentifier : goal.encoded_len-requires-in-SubjectKeyIdentifier
encoded_len-requires-in-SubjectKeyIdentifier c = can_as choice.means c.in-SubjectKeyIdentifier.is c.requires

pub returns-in-SubjectKeyIdentifier : goal.returns-in-SubjectKeyIdentifier
returns-in-SubjectKeyIdentifier c = known_as choice.means c.in-SubjectKeyIdentifier.is c.args.under c.args.mode _ c.encoded_len-in-SubjectKeyIdentifier.ensures
