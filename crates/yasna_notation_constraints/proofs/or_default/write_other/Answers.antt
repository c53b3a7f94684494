use Rattle.std.proofs.Common.{◌∙◌, None, Ok, rules, sym, subst}
use Rattle.yasna_base.specs.Default.{default_encoding}
use Rattle.yasna_writer.specs.View.{Written, WroteParts}
use Rattle.yasna_writer.proofs.PartByPart.{last_one, nothing_written}
use Rattle.yasna_notation.proofs.LeftOut.{not_default, default_left_out}
use Rattle.yasna_notation_constraints.proofs.or_default.write_other.Goals as goal

pub returns-then-is_default : goal.returns-then-is_default
returns-then-is_default g c =
    let old : Written = c.args.seq.now in
    let same = sym c.is_default.ensures ∙ c.if-is_default.true in
    subst (λ b. WroteParts b old old (Ok tt))
    (default_left_out g.D.TestedDefault.is (g.A.Notation.means.encoding_under None) old.mode c.args.part.now same) (nothing_written old)

pub returns : goal.returns
returns g c =
    let old : Written = c.args.seq.now in
    let encoding = g.A.Notation.means.encoding_under in
    let is = g.D.TestedDefault.is in
    let v = c.args.part.now in
    let other = sym c.is_default.ensures ∙ c.if-is_default.false in
    last_one (λ u m. encoding u m v) old c.next.result.now c.write.new.writer c.write.result c.next.ensures.value c.write.ensures
    (default_encoding is (encoding None) old.mode v) (not_default is (encoding None) old.mode v other) (search rules) (search rules) (search rules)
