use Rattle.std.proofs.Common.{◌≡◌, rules}
use Rattle.std.specs.Prelude.{IsErrAnd}
use Rattle.yasna_writer.proofs.PartByPart.{after_one, failed_one}
use Rattle.yasna_notation.proofs.parts.Tuple2Parts.write_parts.Goals as goal

pub returns : goal.returns
returns g c =
    let encoding = g.A.Notation.means.encoding_under in
    let v = c.args.values.now.0 in
    after_one (λ u m. encoding u m v) c.args.seq.now c.next.result.now c.write.new.writer c.write.result c.next.ensures.value c.write.ensures
    c.write_parts.result (λ m. g.W.Parts.encoding m c.args.values.now.1) c.write_parts.new.seq c.in_ok-write.field-0 c.in_ok-write.was
    c.write_parts.ensures (search rules) (search rules) (search rules)

pub returns-in_err-write : goal.returns-in_err-write
returns-in_err-write g c =
    let encoding = g.A.Notation.means.encoding_under in
    let v = c.args.values.now.0 in
    let e = c.in_err-write.field-0.0 in
    failed_one (λ u m. encoding u m v) c.args.seq.now c.next.result.now c.write.new.writer c.write.result c.next.ensures.value c.write.ensures
    c.from_residual.result _ e c.in_err-write.was
    (let x : IsErrAnd c.from_residual.result (λ k. k ≡ e) = search rules in x) (search rules) (search rules) (search rules)
