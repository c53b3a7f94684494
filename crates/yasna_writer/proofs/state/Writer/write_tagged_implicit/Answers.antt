use Rattle.std.proofs.Common.{◌≡◌, None, refl, subst, sym}
use Rattle.yasna_writer.specs.Tagged.{LeftAfter}
use Rattle.yasna_writer.proofs.Tagging.{tagged_fresh}
use Rattle.yasna_writer.proofs.state.Writer.write_tagged_implicit.Goals as goal

pub returns : goal.returns
returns g c =
    let none : c.args.self.now.failed ≡ None = search (sym c.failed.ensures) in
    tagged_fresh none (record {
      own = c.f-own.result;
      left = c.f-own.new.arg2;
      ran = record { shown = _; shows = c.tag_next-start.ensures.tagged; left = _; met = c.f-own.ensures; leaves = refl };
      after = subst (λ n. LeftAfter n c.f-own.new.arg2 c.end_tagging.new.self) c.tag_next-start.ensures.start c.end_tagging.ensures;
      returns = c.resolve.ensures;
    })

pub f-own-requires : goal.f-own-requires
f-own-requires g c = search (c.requires, c.tag_next-start.ensures.tagged, sym c.failed.ensures)
