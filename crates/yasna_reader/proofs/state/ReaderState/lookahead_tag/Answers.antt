use Rattle.std.proofs.Common.{◌≡◌, Ok, None, rules, sym, ap, subst, ◌∙◌}
use Rattle.yasna_base.specs.Identifier.{begins}
use Rattle.yasna_reader.specs.Lookahead.{LooksAhead}
use Rattle.yasna_reader.specs.State.{Reading}
use Rattle.yasna_reader.proofs.state.ReaderState.lookahead_tag.Goals as goal

pub returns-in-Ok : goal.returns-in-Ok
returns-in-Ok c =
    let s = c.args.self.now in
    let none : s.failed ≡ None = search rules in
    subst (λ k. LooksAhead k s.left (Ok c.in-Ok.tag)) (sym none)
    (begins c.in-Ok.field-0-1 c.in-Ok.field-0-2.now (sym (ap (λ (z : Reading). z.left) c.self.view_is) ∙ c.in-Ok.ensures {u = tt}))
