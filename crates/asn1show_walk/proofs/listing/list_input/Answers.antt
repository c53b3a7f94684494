use Rattle.std.proofs.Common.{false, inr, rules}
use Rattle.asn1show_walk.proofs.WellFormed.{lists_formed, joining_raw}
use Rattle.asn1show_walk.proofs.Reading.{reported_input}
use Rattle.asn1show_walk.proofs.WalkFails.{fails_by, none_in_nothing, none_in_input}
use Rattle.asn1show_walk.proofs.listing.list_input.Goals as goal

pub returns-in-Ok-clause-lines : goal.returns-in-Ok-clause-lines
returns-in-Ok-clause-lines g c =
    let x = (c.in-Ok.ensures {u = tt}).visited in
    let r = c.start.ensures in (
      x.lines,
      x.visits,
      reported_input c.start.result c.args.mode c.start-2.result c.in-Ok.field-0 c.args.input.now
          (g.L.Visitor.visited c.args.visitor.now) (g.L.Visitor.visited c.list_contents.new.visitor) r.mode r.levels r.in_string c.start-2.ensures.left
          c.start-2.ensures.offset x,
    )

pub returns-in-Ok-clause-raw : goal.returns-in-Ok-clause-raw
returns-in-Ok-clause-raw g c =
    let x = (c.in-Ok.ensures {u = tt}).visited in
    let r = c.start.ensures in
    joining_raw 101 c.args.mode c.args.input.now (lists_formed 101 c.args.mode false 0 c.args.input.now x.lines
    (reported_input c.start.result c.args.mode c.start-2.result
    c.in-Ok.field-0 c.args.input.now (g.L.Visitor.visited c.args.visitor.now) (g.L.Visitor.visited c.list_contents.new.visitor) r.mode r.levels r.in_string
    c.start-2.ensures.left c.start-2.ensures.offset x))

pub returns-in-Ok-clause-some : goal.returns-in-Ok-clause-some
returns-in-Ok-clause-some g c = search rules

pub returns-in-Ok-clause-elements : goal.returns-in-Ok-clause-elements
returns-in-Ok-clause-elements g c =
    let x = (c.in-Ok.ensures {u = tt}).visited in
    let r = c.start.ensures in
    record {
      joining = lists_formed 101 c.args.mode false 0 c.args.input.now x.lines (reported_input c.start.result c.args.mode c.start-2.result c.in-Ok.field-0
          c.args.input.now (g.L.Visitor.visited c.args.visitor.now) (g.L.Visitor.visited c.list_contents.new.visitor) r.mode r.levels r.in_string
          c.start-2.ensures.left c.start-2.ensures.offset x);
      some = search rules;
    }

pub returns-then-is_empty-clause-fails : goal.returns-then-is_empty-clause-fails
returns-then-is_empty-clause-fails g c = inr (none_in_nothing 101 c.args.mode c.args.input.now (search rules))

pub returns-in-Err-clause-fails : goal.returns-in-Err-clause-fails
returns-in-Err-clause-fails g c =
    let r = c.start.ensures in
    fails_by (g.L.Visitor.rejects c.list_contents.new.visitor) c.in-Err.error
    (none_in_input c.start.result c.args.mode c.start-2.result c.args.input.now r.mode r.levels c.start-2.ensures.left c.start-2.ensures.offset)
    (c.in-Err.ensures {u = tt}).fails
