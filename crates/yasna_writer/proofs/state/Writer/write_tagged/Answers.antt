use Rattle.std.proofs.Common.{◌≡◌, refl, subst}
use Rattle.yasna_base.specs.declared.tag.Tag.{Tag}
use Rattle.yasna_base.specs.Identifier.{tag_or}
use Rattle.yasna_writer.specs.View.{Written, handed}
use Rattle.yasna_writer.specs.State.{BeginsAt}
use Rattle.yasna_writer.proofs.Sequences.{ended_failed, ended_writes, handed_untagged}
use Rattle.yasna_writer.proofs.state.Writer.write_tagged.Goals as goal

pub returns : goal.returns
returns g c =
    let old = c.args.self.now in
    let b = c.begin-opened.result in
    let t = tag_or old.tag c.args.tag in
    let taken = c.in-Ok.ensures {u = tt} in
    let start : c.fresh_tag.new.self ≡ handed old = handed_untagged old c.fresh_tag.new.self taken.0 taken.2 in
    let between = c.begin-opened.new.self in
    let begun : BeginsAt t (handed old) between b =
    subst (λ (w : Written). BeginsAt t w between b) start
    (subst (λ (u : Tag). BeginsAt u c.fresh_tag.new.self between b) taken.1 c.begin-opened.ensures) in
    let left = c.f-own.new.arg2 in
    rw taken.0 (record {
      own = c.f-own.result;
      left = left;
      ran = record { shown = _; shows = begun.same; left = _; met = c.f-own.ensures; leaves = refl };
      failed = ended_failed t old between left c.end.new.self b begun c.end.ensures;
      returns = c.resolve.ensures;
      bytes = ended_writes t old between left c.end.new.self b begun c.end.ensures;
    })
