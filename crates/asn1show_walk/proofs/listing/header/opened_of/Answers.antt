use Rattle.std.proofs.Common.{rules}
use Rattle.asn1show_walk.proofs.listing.header.opened_of.Goals as goal

pub returns-clause-header : goal.returns-clause-header
returns-clause-header c = search rules
