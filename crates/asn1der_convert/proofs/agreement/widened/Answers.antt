use Rattle.std.proofs.Common.{◌<◌, ◌≤◌, rules}
use Rattle.asn1der_convert.proofs.Agreements.{lower_bound, upper_bound, within_bounds}
use Rattle.asn1der_convert.proofs.agreement.widened.Goals as goal

pub returns-then-element-bounds : goal.returns-then-element-bounds
returns-then-element-bounds c =
    let low : c.args.element.tag.tag_number < c.args.bounds.least.tag.tag_number = search rules in
    lower_bound c.args.bounds c.args.element low

pub returns-then-bounds-element : goal.returns-then-bounds-element
returns-then-bounds-element c =
    let high : c.args.bounds.greatest.tag.tag_number < c.args.element.tag.tag_number = search rules in
    upper_bound c.args.bounds c.args.element high

pub returns : goal.returns
returns c =
    let low : c.args.bounds.least.tag.tag_number ≤ c.args.element.tag.tag_number = search rules in
    let high : c.args.element.tag.tag_number ≤ c.args.bounds.greatest.tag.tag_number = search rules in
    within_bounds c.args.bounds c.args.element low high
