use Rattle.std.proofs.Common.{◌∙◌, arith}
use Rattle.std.proofs.lemmas.List.Edits.{length-between}
use Rattle.yasna_writer.proofs.Joins.{places_last, placed_last}
use Rattle.yasna_writer.proofs.Puts.{put_both}
use Rattle.yasna_writer.proofs.join.place_headers.Goals as goal

pub move_up-piece-requires-clause-piece : goal.move_up-piece-requires-clause-piece
move_up-piece-requires-clause-piece c =
    let i = c.loop-slot.invariant in
    (places_last _ _ _ _ _ _ (c.in-Some.ensures {u = tt}) i.ordered i.room).after

pub put_slot-to-requires-clause-room : goal.put_slot-to-requires-clause-room
put_slot-to-requires-clause-room c =
    let i = c.loop-slot.invariant in
    let l = places_last _ _ _ _ _ _ (c.in-Some.ensures {u = tt}) i.ordered i.room in
    let long = length-between c.loop-slot.bytes c.in-Some.slot.place c.loop-slot.from (omega (arith, i.within, l.room, l.after)) in
    omega (arith, l.room, l.after, long, c.move_up-piece.ensures.put.place)

pub loop-slot-preserved : goal.loop-slot-preserved
loop-slot-preserved c =
    let i = c.loop-slot.invariant in
    let s = (c.in-Some.ensures {u = tt}) in
    let l = places_last _ _ _ _ _ _ s i.ordered i.room in
    let long = length-between c.loop-slot.bytes c.in-Some.slot.place c.loop-slot.from (omega (arith, i.within, l.room, l.after)) in
    let p = put_both _ _ _ _ _ _ _ _ c.move_up-piece.ensures.put c.put_slot-to.ensures.put i.within in
    record {
      ordered = l.ordered;
      room = omega (arith, l.room, l.after, long, c.move_up-piece.ensures.put.place, c.put_slot-to.ensures.put.place);
      within = omega (
        arith,
        i.within,
        c.move_up-piece.ensures.put.place,
        c.put_slot-to.ensures.put.place,
        c.move_up-piece.ensures.len,
        c.put_slot-to.ensures.len,
      );
      joins = i.joins ∙ placed_last _ _ _ _ _ _ _ _ _ s l i.within p;
    }
