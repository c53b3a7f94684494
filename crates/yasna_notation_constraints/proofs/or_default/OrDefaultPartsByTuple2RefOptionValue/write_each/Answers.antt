use Rattle.std.proofs.Common.{◌≡◌, None, rules}
use Rattle.std.specs.Prelude.{IsErrAnd}
use Rattle.yasna_writer.proofs.PartByPart.{others_by, failed_by}
use Rattle.yasna_notation_constraints.specs.OrDefault.{or_default_encoding}
use Rattle.yasna_notation_constraints.proofs.or_default.OrDefaultPartsByTuple2RefOptionValue.write_each.Goals as goal

pub returns : goal.returns
returns g c =
    others_by (or_default_encoding g.D.TestedDefault.is (g.A.Notation.means.encoding_under None) c.args.seq.now.mode c.args.fields.now.0.now)
    (λ m. g.W.PartsBy.encoding_by m (g.W.PartsBy.held c.args.fields.now.1)) c.args.seq.now c.write_or_default.new.seq c.write_each.new.seq
    c.write_or_default.result c.write_each.result c.in_ok-write_or_default.field-0 c.write_or_default.ensures
    c.in_ok-write_or_default.was c.write_each.ensures

pub returns-in_err-write_or_default : goal.returns-in_err-write_or_default
returns-in_err-write_or_default g c =
    let e = c.in_err-write_or_default.field-0.0 in
    failed_by (or_default_encoding g.D.TestedDefault.is (g.A.Notation.means.encoding_under None) c.args.seq.now.mode c.args.fields.now.0.now) _ c.args.seq.now
    c.write_or_default.new.seq c.write_or_default.result c.from_residual.result e c.write_or_default.ensures c.in_err-write_or_default.was
    (let x : IsErrAnd c.from_residual.result (λ k. k ≡ e) = search rules in x)
