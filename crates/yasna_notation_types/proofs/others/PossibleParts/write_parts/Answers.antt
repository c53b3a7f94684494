use Rattle.std.proofs.Common.{◌≡◌, None, rules}
use Rattle.std.specs.Prelude.{IsErrAnd}
use Rattle.yasna_base.specs.Optional.{option_encoding}
use Rattle.yasna_writer.proofs.PartByPart.{others_by, failed_by}
use Rattle.yasna_notation_types.proofs.others.PossibleParts.write_parts.Goals as goal

pub returns : goal.returns
returns g c =
    others_by (option_encoding (g.A.Notation.means.encoding_under None) c.args.seq.now.mode c.args.values.now.0)
    (λ m. g.W.Parts.encoding m c.args.values.now.1) c.args.seq.now c.write_optional.new.seq c.write_parts.new.seq
    c.write_optional.result c.write_parts.result c.in_ok-write_optional.field-0 c.write_optional.ensures c.in_ok-write_optional.was c.write_parts.ensures

pub returns-in_err-write_optional : goal.returns-in_err-write_optional
returns-in_err-write_optional g c =
    let e = c.in_err-write_optional.field-0.0 in
    failed_by (option_encoding (g.A.Notation.means.encoding_under None) c.args.seq.now.mode c.args.values.now.0) _ c.args.seq.now
    c.write_optional.new.seq c.write_optional.result c.from_residual.result e c.write_optional.ensures c.in_err-write_optional.was
    (let x : IsErrAnd c.from_residual.result (λ k. k ≡ e) = search rules in x)
