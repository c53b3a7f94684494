use Rattle.std.proofs.Common.{refl, ap}
use Rattle.yasna_base.specs.Set.{set_tag}
use Rattle.yasna_reader.specs.Set.{TakesElements}
use Rattle.yasna_reader.specs.State.{Reading}
use Rattle.yasna_reader.proofs.Sequences.{takes_inside}
use Rattle.yasna_reader.proofs.state.ReaderState.read_set.Goals as goal

pub run_on_set-returned-requires : goal.run_on_set-returned-requires
run_on_set-returned-requires g c κs =
    let h = c.in_ok-opened.ensures {u = tt} in
    let e = c.contents_reader-contents.ensures in
    let inside = c.contents_reader-contents.result in (
      (refl, tt),
      (
        (ap (λ (z : Reading). z.failed) e, ap (λ (z : Reading). z.tag) e),
        takes_inside (TakesElements g.F.FnOnce c.args.f) set_tag c.args.self.now c.in_ok-opened.opened inside c.step_in.new.self c.requires h e,
      ),
    )
