use Rattle.std.proofs.Common.{ap, false}
use Rattle.yasna_bytes.specs.Opening.{end_found}
use Rattle.asn1show_walk.specs.Errors.{WalkFails}
use Rattle.asn1show_walk.specs.Reading.{ContentsVisited, ElementVisited, ElementBefore, NoElement, NotClosed, NoneBelow}
use Rattle.asn1show_walk.proofs.Reading.{if_ok, reached_none, reached_more, element_counted, element_uncounted, nothing_reported, string_reported}
use Rattle.asn1show_walk.proofs.WalkFails.{visited_element, fails_by, rejected_by, if_err, closes_after, not_closed, promised_closed, item_fails, below_not_element, uncounted_not_element, none_below}
use Rattle.asn1show_walk.proofs.listing.+listing.Goals as goal

pub list_contents-loop-after-init : goal.list_contents-loop-after-init
list_contents-loop-after-init g t c = (reached_none c.args.context c.args.contents (g.L.Visitor.visited c.args.visitor.now), λ x. x)

pub list_contents-loop-after-preserved : goal.list_contents-loop-after-preserved
list_contents-loop-after-preserved g t c =
    let x = c.loop-after.invariant in
    let y = (c.in-Ok.ensures {u = tt}).visited in (
      reached_more c.args.context c.args.contents c.loop-after.place c.in-Ok.after (g.L.Visitor.visited c.args.visitor.now)
          (g.L.Visitor.visited c.loop-after.visitor) (g.L.Visitor.visited c.list_element.new.visitor) x.0 y,
      λ z. closes_after c.args.context c.loop-after.place c.in-Ok.after c.args.is_counted (g.L.Visitor.visited c.loop-after.visitor)
          (g.L.Visitor.visited c.list_element.new.visitor) y (x.1 z),
    )

pub list_element-returns-in-Ok-list_contents_of-clause-visited : goal.list_element-returns-in-Ok-list_contents_of-clause-visited
list_element-returns-in-Ok-list_contents_of-clause-visited g t c =
    element_counted c.args.context c.args.place c.further.result c.in-Ok.opened (g.L.Visitor.visited c.args.visitor.now) (g.L.Visitor.visited c.visit.new.self)
    (g.L.Visitor.visited c.list_contents_of.new.visitor) c.in-Definite.after.now (c.in-Ok.ensures {u = tt}) (ap end_found c.in-Definite.is)
    (c.in-Ok-visit.ensures {u = tt}).reported (c.in-Ok-list_contents_of.ensures {u = tt}).visited c.further.ensures.left c.further.ensures.offset

pub list_element-returns-in-Indefinite-clause-visited : goal.list_element-returns-in-Indefinite-clause-visited
list_element-returns-in-Indefinite-clause-visited g t c =
    if_ok c.list_contents.result
    (λ q. ContentsVisited c.below.result c.contents_place.result false q (g.L.Visitor.visited c.visit.new.self) (g.L.Visitor.visited c.list_contents.new.visitor))
    (λ q. ElementVisited c.args.context c.args.place q (g.L.Visitor.visited c.args.visitor.now) (g.L.Visitor.visited c.list_contents.new.visitor))
    (λ q y. element_uncounted c.args.context c.below.result c.args.place c.contents_place.result q c.in-Ok.opened (g.L.Visitor.visited c.args.visitor.now)
    (g.L.Visitor.visited c.visit.new.self) (g.L.Visitor.visited c.list_contents.new.visitor) (c.in-Ok.ensures {u = tt}) (ap end_found c.in-Indefinite.is)
    (c.in-Ok-visit.ensures {u = tt}).reported c.below.ensures.mode c.below.ensures.levels c.below.ensures.in_string c.contents_place.ensures.left
    c.contents_place.ensures.offset y)
    c.list_contents.ensures.visited

pub list_contents_of-returns-in_default-clause-visited : goal.list_contents_of-returns-in_default-clause-visited
list_contents_of-returns-in_default-clause-visited g t c =
    nothing_reported c.args.context c.args.item.now (g.L.Visitor.visited c.args.visitor.now) c.requires c.in-Primitive.is

pub list_contents_of-returns-then-not-descends_into-clause-visited : goal.list_contents_of-returns-then-not-descends_into-clause-visited
list_contents_of-returns-then-not-descends_into-clause-visited g t c =
    nothing_reported c.args.context c.args.item.now (g.L.Visitor.visited c.args.visitor.now) c.requires c.in-Primitive.is

pub list_contents_of-returns-in-Ok-list_contents-clause-visited : goal.list_contents_of-returns-in-Ok-list_contents-clause-visited
list_contents_of-returns-in-Ok-list_contents-clause-visited g t c =
    string_reported c.args.context c.for_string-in-Primitive.result c.args.item.now c.in-Some.string c.in-Ok-list_contents.field-0
    (g.L.Visitor.visited c.args.visitor.now) (g.L.Visitor.visited c.list_contents-in-Primitive.new.visitor) c.in-Primitive.is
    c.for_string-in-Primitive.ensures.mode c.for_string-in-Primitive.ensures.levels c.for_string-in-Primitive.ensures.in_string (c.in-Some.ensures {u = tt})
    (c.in-Ok-list_contents.ensures {u = tt}).visited

pub list_contents-returns-in-Err-clause-fails : goal.list_contents-returns-in-Err-clause-fails
list_contents-returns-in-Err-clause-fails g t c =
    fails_by (g.L.Visitor.rejects c.list_element.new.visitor) c.in-Err.error
    (λ o k. not_closed c.args.context c.args.contents c.loop-after.place c.args.is_counted (g.L.Visitor.visited c.args.visitor.now)
    (g.L.Visitor.visited c.loop-after.visitor) o k c.loop-after.invariant.0 c.loop-after.invariant.1 (c.in_default.ensures {u = tt}))
    (c.in-Err.ensures {u = tt}).fails

pub list_element-returns-in-Err-clause-fails : goal.list_element-returns-in-Err-clause-fails
list_element-returns-in-Err-clause-fails g t c =
    item_fails (g.L.Visitor.rejects c.args.visitor.now) c.args.context c.args.place c.in-Err.error (c.in-Err.ensures {u = tt})

pub list_element-returns-in-Err-list_contents_of-clause-fails : goal.list_element-returns-in-Err-list_contents_of-clause-fails
list_element-returns-in-Err-list_contents_of-clause-fails g t c =
    fails_by (g.L.Visitor.rejects c.list_contents_of.new.visitor) c.in-Err-list_contents_of.error
    (below_not_element c.args.context c.args.place c.in-Ok.opened c.in-Definite.after.now (c.in-Ok.ensures {u = tt}) (ap end_found c.in-Definite.is))
    (c.in-Err-list_contents_of.ensures {u = tt}).fails

pub list_element-returns-in-Indefinite-clause-fails : goal.list_element-returns-in-Indefinite-clause-fails
list_element-returns-in-Indefinite-clause-fails g t c =
    if_err c.list_contents.result
    (WalkFails (g.L.Visitor.rejects c.list_contents.new.visitor) (NotClosed c.below.result c.contents_place.result false))
    (WalkFails (g.L.Visitor.rejects c.list_contents.new.visitor) (NoElement c.args.context c.args.place))
    (λ f. fails_by (g.L.Visitor.rejects c.list_contents.new.visitor) f (uncounted_not_element c.args.context c.below.result c.args.place
    c.contents_place.result c.in-Ok.opened (c.in-Ok.ensures {u = tt}) (ap end_found c.in-Indefinite.is) c.below.ensures.mode c.below.ensures.levels
    c.contents_place.ensures.left c.contents_place.ensures.offset))
    c.list_contents.ensures.fails

pub list_contents_of-returns-in-Err-clause-fails : goal.list_contents_of-returns-in-Err-clause-fails
list_contents_of-returns-in-Err-clause-fails g t c =
    fails_by (g.L.Visitor.rejects c.list_contents.new.visitor) c.in-Err.error
    (none_below c.args.context c.below.result c.args.item.now c.contents_place.result c.in-Constructed.is c.below.ensures.mode c.below.ensures.levels
    c.contents_place.ensures.left c.contents_place.ensures.offset) (c.in-Err.ensures {u = tt}).fails

pub list_contents_of-returns-in-Err-list_contents-clause-fails : goal.list_contents_of-returns-in-Err-list_contents-clause-fails
list_contents_of-returns-in-Err-list_contents-clause-fails g t c =
    let r = c.args.context in
    let w = c.for_string.ensures in
    let i = c.for_string-in-Primitive.ensures in
    rejected_by (g.L.Visitor.rejects c.list_contents-in-Primitive.new.visitor) (NoneBelow r c.args.item.now) c.in-Err-list_contents.error
    (promised_closed r c.for_string.result c.for_string-in-Primitive.result c.in-Some.string w.mode w.levels i.mode i.levels
    (c.descends_into.ensures c.if-not-descends_into.false)) (c.in-Err-list_contents.ensures {u = tt}).fails

pub list_element-returns-in-Ok-list_contents_of-clause-element : goal.list_element-returns-in-Ok-list_contents_of-clause-element
list_element-returns-in-Ok-list_contents_of-clause-element g t c =
    visited_element c.args.context c.args.place c.further.result (g.L.Visitor.visited c.args.visitor.now) (g.L.Visitor.visited c.list_contents_of.new.visitor)
    (list_element-returns-in-Ok-list_contents_of-clause-visited g t c)

pub list_element-returns-in-Indefinite-clause-element : goal.list_element-returns-in-Indefinite-clause-element
list_element-returns-in-Indefinite-clause-element g t c =
    if_ok c.list_contents.result
    (λ q. ElementVisited c.args.context c.args.place q (g.L.Visitor.visited c.args.visitor.now) (g.L.Visitor.visited c.list_contents.new.visitor))
    (λ q. ElementBefore c.args.context c.args.place q)
    (λ q. visited_element c.args.context c.args.place q (g.L.Visitor.visited c.args.visitor.now) (g.L.Visitor.visited c.list_contents.new.visitor))
    (list_element-returns-in-Indefinite-clause-visited g t c)
