use Rattle.std.proofs.Common.{rules}
use Rattle.asn1show_walk.proofs.listing.header.malformed.Goals as goal

pub returns : goal.returns
returns c = search rules
