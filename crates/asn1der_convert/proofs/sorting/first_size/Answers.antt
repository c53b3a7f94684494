use Rattle.std.proofs.Common.{arith}
use Rattle.asn1der_convert.proofs.Weaving.{sorts_one, sorts_none, first_within}
use Rattle.asn1der_convert.proofs.sorting.first_size.Goals as goal

pub returns-in-Some : goal.returns-in-Some
returns-in-Some c = record { within = first_within _ _ _ (c.in-Some.ensures {u = tt}); sorted = sorts_one c.args.key _ _ _ (c.in-Some.ensures {u = tt}) }

pub returns-in-None : goal.returns-in-None
returns-in-None c = record { within = omega arith; sorted = sorts_none c.args.key _ _ (c.in-None.ensures {u = tt}) }
