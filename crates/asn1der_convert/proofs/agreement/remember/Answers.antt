use Rattle.std.proofs.Common.{subst, List, Some}
use Rattle.asn1der_convert.specs.Agreement.{PlaceAt}
use Rattle.asn1der_convert.specs.Rows.{part_of}
use Rattle.asn1der_convert.specs.declared.agreement.Bounds.{Bounds}
use Rattle.asn1der_convert.proofs.Agreements.{no_shape, remembered, remembered_first}
use Rattle.asn1der_convert.proofs.agreement.remember.Goals as goal

pub returns-in_default : goal.returns-in_default
returns-in_default c = λ a e. absurd (no_shape (part_of c.args.element) e (c.in_default.ensures {u = tt}))

pub returns-in-Some-place_of : goal.returns-in-Some-place_of
returns-in-Some-place_of c =
    let bs = c.args.all.now.items in
    let at = subst (λ (z : List Bounds). PlaceAt z c.in-Some.shape (Some c.in-Some-place_of.place)) c.deref.ensures.value (c.in-Some-place_of.ensures {u = tt}) in
    remembered bs c.in-Some-place_of.place c.index.result.now c.in-Some.shape c.args.element c.widened.result at c.index.ensures (c.in-Some.ensures {u = tt}) c.widened.ensures

pub returns-in_ok-push-in-None : goal.returns-in_ok-push-in-None
returns-in_ok-push-in-None c =
    remembered_first c.args.all.now.items c.push.new.self.items c.in-Some.shape c.args.element (c.in-Some.ensures {u = tt}) (c.in_ok-push-in-None.ensures {u = tt}).items
