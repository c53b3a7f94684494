use Rattle.std.proofs.Common.{rules}
use Rattle.asn1show_walk.proofs.listing.after_end.Goals as goal

pub returns-then-is_counted : goal.returns-then-is_counted
returns-then-is_counted c = search rules
