use Rattle.std.proofs.Common.{rules, ◌≡◌, length}
use Rattle.asn1show_walk.proofs.OneElement.{one_before_nothing, nothing_after_one, none_is_one}
use Rattle.asn1show_walk.proofs.listing.one_element.is_one_element.Goals as goal

pub returns-in-Ok : goal.returns-in-Ok
returns-in-Ok c =
    let x = (c.in-Ok.ensures {u = tt}).element in
    let p = c.args.place in
    let q = c.in-Ok.after in (
      λ e. let f : length q.left.now ≡ 0 = search rules in one_before_nothing c.args.context p q x f,
      λ o. let f : length q.left.now ≡ 0 = nothing_after_one c.args.context p q x o in search rules,
    )

pub returns-in-Err : goal.returns-in-Err
returns-in-Err c = (λ e. search rules, λ o. absurd (none_is_one c.args.context c.args.place _ (c.in-Err.ensures {u = tt}).fails o))
