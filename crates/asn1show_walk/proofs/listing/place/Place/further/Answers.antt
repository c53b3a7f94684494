use Rattle.std.proofs.Common.{rules}
use Rattle.asn1show_walk.proofs.listing.place.Place.further.Goals as goal

pub returns-clause-offset : goal.returns-clause-offset
returns-clause-offset c = search rules
