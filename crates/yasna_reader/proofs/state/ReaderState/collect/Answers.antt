use Rattle.std.proofs.Common.{◌≡◌, [], ◌∷◌, ◌++◌, inl, inr, rules, refl, sym, ap, subst, ◌∙◌}
use Rattle.std.specs.Fn.{CalledAtMut}
use Rattle.yasna_base.specs.Error.{kind_of}
use Rattle.yasna_base.specs.declared.error.ASN1ErrorKind.TheVariants.{OutOfMemory}
use Rattle.yasna_reader.specs.declared.callback.Outcome.TheVariants.{Matched, NoMatch, Failed}
use Rattle.yasna_reader.specs.SequenceOf.{items_of}
use Rattle.yasna_reader.specs.SetOf.{TurnInOrder, bound_in, bound_bytes}
use Rattle.yasna_reader.proofs.ListTurns.{SoFar, more_so_far, takes_turn, turned_at, matched_in_order, no_match_in_order, failed_in_order}
use Rattle.yasna_reader.proofs.state.ReaderState.collect.Goals as goal

pub call-returned-requires : goal.call-returned-requires
call-returned-requires g c κs = (
  (refl, tt),
  takes_turn c.args.order g.F.FnMut c.args.f c.args.self.now
      c.loop-items.items.items (record { callback = c.loop-items.f; bound = bound_bytes c.loop-items.bound }) c.loop-items.self c.requires.turns
      c.loop-items.invariant,
)

pub loop-items-preserved : goal.loop-items-preserved
loop-items-preserved g c =
    let C = CalledAtMut g.F.FnMut in
    let i = c.self-in-loop-items.inside in
    let turned = turned_at i.cursor i.tag i.failed c.loop-items.self (bound_bytes c.loop-items.bound) c.call-returned.result c.call-returned.new.self
    (Matched c.in-Matched.field-0) (bound_bytes c.turned.new.bound) c.turned.new.self c.self-in-loop-items.view_is (c.in-Matched.ensures {u = tt}) in
    let matched = matched_in_order C (record { callback = c.loop-items.f; bound = bound_bytes c.loop-items.bound })
    (record { callback = c.call-returned.new.f; bound = bound_bytes c.turned.new.bound }) c.loop-items.self c.call-returned.result
    c.call-returned.new.self c.turned.new.self c.call-returned.ensures c.in-Matched.field-0 turned in
    let more = more_so_far C (record { callback = c.args.f; bound = bound_in c.args.order c.args.self.now.mode }) c.args.self.now
    c.loop-items.items.items matched.0 (record { callback = c.loop-items.f; bound = bound_bytes c.loop-items.bound }) c.loop-items.self
    (record { callback = c.call-returned.new.f; bound = bound_bytes c.turned.new.bound }) c.turned.new.self c.requires.fresh
    c.loop-items.invariant matched.2 in
    let pushed : c.push.new.self.items ≡ c.loop-items.items.items ++ (c.in_ok-returned.field-0 ∷ []) = search rules in
    let p = matched.1 in
    let q = c.in_ok-returned.was in
    let same : matched.0 ≡ c.in_ok-returned.field-0 = cc in
    subst (λ vs. SoFar (TurnInOrder C) (record { callback = c.args.f; bound = bound_in c.args.order c.args.self.now.mode }) c.args.self.now vs
    (record { callback = c.call-returned.new.f; bound = bound_bytes c.turned.new.bound }) c.turned.new.self)
    (ap (λ v. c.loop-items.items.items ++ (v ∷ [])) same ∙ sym pushed) more

pub returns-then-is_err : goal.returns-then-is_err
returns-then-is_err g c =
    let memory : kind_of c.new.result ≡ OutOfMemory = search rules in
    let C = CalledAtMut g.F.FnMut in
    let i = c.self-in-loop-items.inside in
    let turned = turned_at i.cursor i.tag i.failed c.loop-items.self (bound_bytes c.loop-items.bound) c.call-returned.result c.call-returned.new.self
    (Matched c.in-Matched.field-0) (bound_bytes c.turned.new.bound) c.turned.new.self c.self-in-loop-items.view_is (c.in-Matched.ensures {u = tt}) in
    let matched = matched_in_order C (record { callback = c.loop-items.f; bound = bound_bytes c.loop-items.bound })
    (record { callback = c.call-returned.new.f; bound = bound_bytes c.turned.new.bound }) c.loop-items.self c.call-returned.result
    c.call-returned.new.self c.turned.new.self c.call-returned.ensures c.in-Matched.field-0 turned in
    let more = more_so_far C (record { callback = c.args.f; bound = bound_in c.args.order c.args.self.now.mode }) c.args.self.now
    c.loop-items.items.items matched.0 (record { callback = c.loop-items.f; bound = bound_bytes c.loop-items.bound }) c.loop-items.self
    (record { callback = c.call-returned.new.f; bound = bound_bytes c.turned.new.bound }) c.turned.new.self c.requires.fresh
    c.loop-items.invariant matched.2 in
    inr (record {
      values = c.loop-items.items.items;
      last = matched.0;
      reached = record { callback = c.call-returned.new.f; bound = bound_bytes c.turned.new.bound };
      place = c.turned.new.self;
      turns = more.turns;
      error = c.new.result;
      memory = memory;
      returned = ap items_of c.fail.ensures.returned;
      state = c.fail.ensures.state;
    })

pub returns-in-NoMatch : goal.returns-in-NoMatch
returns-in-NoMatch g c =
    let C = CalledAtMut g.F.FnMut in
    let i = c.self-in-loop-items.inside in
    let turned = turned_at i.cursor i.tag i.failed c.loop-items.self (bound_bytes c.loop-items.bound) c.call-returned.result c.call-returned.new.self
    (NoMatch c.in-NoMatch.field-0) (bound_bytes c.turned.new.bound) c.turned.new.self c.self-in-loop-items.view_is (c.in-NoMatch.ensures {u = tt}) in
    inl (record {
      values = c.loop-items.items.items;
      reached = record { callback = c.loop-items.f; bound = bound_bytes c.loop-items.bound };
      place = c.loop-items.self;
      turns = c.loop-items.invariant.turns;
      last = NoMatch c.in-NoMatch.field-0;
      after = record { callback = c.call-returned.new.f; bound = bound_bytes c.turned.new.bound };
      turn = no_match_in_order C (record { callback = c.loop-items.f; bound = bound_bytes c.loop-items.bound })
          (record { callback = c.call-returned.new.f; bound = bound_bytes c.turned.new.bound }) c.loop-items.self c.call-returned.result
          c.call-returned.new.self c.turned.new.self c.call-returned.ensures c.in-NoMatch.field-0 turned;
      ends = refl;
    })

pub returns-in-Failed : goal.returns-in-Failed
returns-in-Failed g c =
    let C = CalledAtMut g.F.FnMut in
    let i = c.self-in-loop-items.inside in
    let turned = turned_at i.cursor i.tag i.failed c.loop-items.self (bound_bytes c.loop-items.bound) c.call-returned.result c.call-returned.new.self
    (Failed c.in-Failed.error) (bound_bytes c.turned.new.bound) c.turned.new.self c.self-in-loop-items.view_is (c.in-Failed.ensures {u = tt}) in
    inl (record {
      values = c.loop-items.items.items;
      reached = record { callback = c.loop-items.f; bound = bound_bytes c.loop-items.bound };
      place = c.loop-items.self;
      turns = c.loop-items.invariant.turns;
      last = Failed c.in-Failed.error;
      after = record { callback = c.call-returned.new.f; bound = bound_bytes c.turned.new.bound };
      turn = failed_in_order C (record { callback = c.loop-items.f; bound = bound_bytes c.loop-items.bound })
          (record { callback = c.call-returned.new.f; bound = bound_bytes c.turned.new.bound }) c.loop-items.self c.call-returned.result
          c.call-returned.new.self c.turned.new.self c.call-returned.ensures c.in-Failed.error turned;
      ends = refl;
    })
