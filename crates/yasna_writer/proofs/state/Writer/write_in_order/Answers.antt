use Rattle.std.proofs.Common.{refl, ap, ◌∙◌}
use Rattle.yasna_base.specs.Identifier.{tag_or}
use Rattle.yasna_base.specs.Set.{set_tag}
use Rattle.yasna_writer.specs.Parts.{begun_set}
use Rattle.yasna_writer.specs.Set.{contents_in}
use Rattle.yasna_writer.specs.View.{Written}
use Rattle.yasna_writer.proofs.Sets.{set_ends}
use Rattle.yasna_writer.proofs.state.Writer.write_in_order.Goals as goal

pub f-own-requires : goal.f-own-requires
f-own-requires g c =
    let taken = c.in-Ok.ensures {u = tt} in
    c.requires taken.0 _ (c.begin_set-set.ensures ∙ ap (λ (w : Written). begun_set w.mode) taken.2)

pub returns : goal.returns
returns g c =
    let old = c.args.self.now in
    let taken = c.in-Ok.ensures {u = tt} in
    let left = c.f-own.new.arg2 in
    rw taken.0 (record {
      own = c.f-own.result;
      left = left;
      ran = record {
        shown = _;
        shows = c.begin_set-set.ensures ∙ ap (λ (w : Written). begun_set w.mode) taken.2;
        left = _;
        met = c.f-own.ensures;
        leaves = refl;
      };
      ends = set_ends (contents_in c.args.order) _ (tag_or old.tag set_tag) old c.fresh_tag.new.self left c.end_set.new.self taken.2 taken.1 c.end_set.ensures;
      returns = c.resolve.ensures;
    })
