use Rattle.std.proofs.Common.{None, Ok, sym, subst}
use Rattle.yasna_writer.specs.View.{Written, WroteParts}
use Rattle.yasna_writer.proofs.PartByPart.{nothing_written}
use Rattle.yasna_notation_constraints.specs.OrDefault.{or_default_encoding}
use Rattle.yasna_notation_constraints.proofs.or_default.write_or_default.Goals as goal

pub returns-in-None : goal.returns-in-None
returns-in-None g c =
    let old : Written = c.args.seq.now in
    subst (λ v. WroteParts (or_default_encoding g.D.TestedDefault.is (g.A.Notation.means.encoding_under None) old.mode v) old old (Ok tt)) (sym c.in-None.is)
    (nothing_written old)
