use Rattle.std.proofs.Common.{arith}
use Rattle.asn1der_convert.proofs.Rows.{first_shorter, counted_none, counted_next, counted_all}
use Rattle.asn1der_convert.proofs.elements.count_elements.Goals as goal

pub loop-rest-init : goal.loop-rest-init
loop-rest-init c = record { few = omega arith; counted = λ ps a. counted_none ps c.args.elements.now a }

pub loop-rest-smaller : goal.loop-rest-smaller
loop-rest-smaller c = first_shorter _ _ _ (c.in-Some.ensures {u = tt})

pub loop-rest-preserved : goal.loop-rest-preserved
loop-rest-preserved c = record {
  few = omega (arith, c.loop-rest.invariant.few, first_shorter _ _ _ (c.in-Some.ensures {u = tt}));
  counted = λ ps a. counted_next ps _ _ _ c.loop-rest.count (c.loop-rest.invariant.counted ps a) (c.in-Some.ensures {u = tt});
}

pub returns : goal.returns
returns c = record {
  count = λ ps a. counted_all ps _ c.loop-rest.count (c.loop-rest.invariant.counted ps a) (c.in_default.ensures {u = tt});
  few = omega (arith, c.loop-rest.invariant.few);
}
