use Rattle.std.proofs.Common.{rules}
use Rattle.asn1show_walk.proofs.listing.place.Context.for_string.Goals as goal

pub returns-clause-in_string : goal.returns-clause-in_string
returns-clause-in_string c = search rules
