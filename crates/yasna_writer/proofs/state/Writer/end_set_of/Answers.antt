use Rattle.std.proofs.Common.{◌≡◌, [], inr, inl, rules}
use Rattle.std.proofs.lemmas.List.{nil_from_length}
use Rattle.yasna_base.proofs.Options.{option_weaker}
use Rattle.yasna_writer.proofs.Sets.{only_part_ends}
use Rattle.yasna_writer.proofs.state.Writer.end_set_of.Goals as goal

pub returns-then-is_empty : goal.returns-then-is_empty
returns-then-is_empty c =
    let s = c.set.inside in
    let none : s.parts.items ≡ [] = nil_from_length s.parts.items (search rules) in
    only_part_ends _ s.parts.items _ _ s.last _ c.args.self.now c.end_set_of_one.new.self c.set.view_is c.if-set.true none c.end_set_of_one.ensures

pub returns-in-Ok : goal.returns-in-Ok
returns-in-Ok c =
    let taken = c.in-Ok.ensures {u = tt} in
    option_weaker c.write_ordered.new.self.failed _ _ _ _
    (λ e. (taken.0, _, taken.1, rw c.deref.ensures.value at e)) (λ k e. inr (taken.0, inl e)) c.write_ordered.ensures

pub returns-in-Err : goal.returns-in-Err
returns-in-Err c = rw c.fail.ensures (c.in-Err.ensures {u = tt})
