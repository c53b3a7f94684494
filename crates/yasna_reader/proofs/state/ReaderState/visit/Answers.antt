use Rattle.std.proofs.Common.{Ok, Err, [], ◌∷◌, ◌++◌, refl}
use Rattle.std.specs.Fn.{CalledAtMut}
use Rattle.yasna_reader.specs.declared.callback.Outcome.TheVariants.{Matched, NoMatch, Failed}
use Rattle.yasna_reader.specs.SetOf.{bound_in, bound_bytes}
use Rattle.yasna_reader.proofs.ListTurns.{more_so_far, takes_turn, turned_at, matched_in_order, no_match_in_order, failed_in_order}
use Rattle.yasna_reader.proofs.state.ReaderState.visit.Goals as goal

pub call-returned-requires : goal.call-returned-requires
call-returned-requires g c κs =
    let so = c.loop-f.invariant in (
      (refl, tt),
      takes_turn c.args.order g.F.FnMut c.args.f c.args.self.now so.0 (record { callback = c.loop-f.f; bound = bound_bytes c.loop-f.bound })
          c.loop-f.self c.requires.turns so.1,
    )

pub loop-f-preserved : goal.loop-f-preserved
loop-f-preserved g c =
    let so = c.loop-f.invariant in
    let C = CalledAtMut g.F.FnMut in
    let i = c.self-in-loop-f.inside in
    let turned = turned_at i.cursor i.tag i.failed c.loop-f.self (bound_bytes c.loop-f.bound) c.call-returned.result c.call-returned.new.self
    (Matched c.in-Matched.field-0) (bound_bytes c.turned.new.bound) c.turned.new.self c.self-in-loop-f.view_is (c.in-Matched.ensures {u = tt}) in
    let matched = matched_in_order C (record { callback = c.loop-f.f; bound = bound_bytes c.loop-f.bound })
    (record { callback = c.call-returned.new.f; bound = bound_bytes c.turned.new.bound }) c.loop-f.self c.call-returned.result c.call-returned.new.self
    c.turned.new.self c.call-returned.ensures c.in-Matched.field-0 turned in (
      so.0 ++ (matched.0 ∷ []),
      more_so_far C (record { callback = c.args.f; bound = bound_in c.args.order c.args.self.now.mode }) c.args.self.now so.0
          matched.0 (record { callback = c.loop-f.f; bound = bound_bytes c.loop-f.bound }) c.loop-f.self
          (record { callback = c.call-returned.new.f; bound = bound_bytes c.turned.new.bound }) c.turned.new.self
          c.requires.fresh so.1 matched.2,
    )

pub returns-in-NoMatch : goal.returns-in-NoMatch
returns-in-NoMatch g c =
    let so = c.loop-f.invariant in
    let C = CalledAtMut g.F.FnMut in
    let i = c.self-in-loop-f.inside in
    let turned = turned_at i.cursor i.tag i.failed c.loop-f.self (bound_bytes c.loop-f.bound) c.call-returned.result c.call-returned.new.self
    (NoMatch c.in-NoMatch.field-0) (bound_bytes c.turned.new.bound) c.turned.new.self c.self-in-loop-f.view_is (c.in-NoMatch.ensures {u = tt}) in
    record {
      items = Ok so.0;
      lists = record {
        values = so.0;
        reached = record { callback = c.loop-f.f; bound = bound_bytes c.loop-f.bound };
        place = c.loop-f.self;
        turns = so.1.turns;
        last = NoMatch c.in-NoMatch.field-0;
        after = record { callback = c.call-returned.new.f; bound = bound_bytes c.turned.new.bound };
        turn = no_match_in_order C (record { callback = c.loop-f.f; bound = bound_bytes c.loop-f.bound })
            (record { callback = c.call-returned.new.f; bound = bound_bytes c.turned.new.bound }) c.loop-f.self c.call-returned.result c.call-returned.new.self
            c.turned.new.self c.call-returned.ensures c.in-NoMatch.field-0 turned;
        ends = refl;
      };
      returned = refl;
    }

pub returns-in-Failed : goal.returns-in-Failed
returns-in-Failed g c =
    let so = c.loop-f.invariant in
    let C = CalledAtMut g.F.FnMut in
    let i = c.self-in-loop-f.inside in
    let turned = turned_at i.cursor i.tag i.failed c.loop-f.self (bound_bytes c.loop-f.bound) c.call-returned.result c.call-returned.new.self
    (Failed c.in-Failed.error) (bound_bytes c.turned.new.bound) c.turned.new.self c.self-in-loop-f.view_is (c.in-Failed.ensures {u = tt}) in
    record {
      items = Err c.in-Failed.error;
      lists = record {
        values = so.0;
        reached = record { callback = c.loop-f.f; bound = bound_bytes c.loop-f.bound };
        place = c.loop-f.self;
        turns = so.1.turns;
        last = Failed c.in-Failed.error;
        after = record { callback = c.call-returned.new.f; bound = bound_bytes c.turned.new.bound };
        turn = failed_in_order C (record { callback = c.loop-f.f; bound = bound_bytes c.loop-f.bound })
            (record { callback = c.call-returned.new.f; bound = bound_bytes c.turned.new.bound }) c.loop-f.self c.call-returned.result c.call-returned.new.self
            c.turned.new.self c.call-returned.ensures c.in-Failed.error turned;
        ends = refl;
      };
      returned = refl;
    }
