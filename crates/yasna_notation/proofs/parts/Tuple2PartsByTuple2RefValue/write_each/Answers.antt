use Rattle.std.proofs.Common.{◌≡◌, rules}
use Rattle.std.specs.Prelude.{IsErrAnd}
use Rattle.yasna_writer.proofs.PartByPart.{after_one, failed_one}
use Rattle.yasna_notation.proofs.parts.Tuple2PartsByTuple2RefValue.write_each.Goals as goal

pub returns : goal.returns
returns g c =
    let encoding = g.A.Notation.means.encoding_under in
    let v = c.args.fields.now.0.now in
    after_one (λ u m. encoding u m v) c.args.seq.now c.next.result.now c.write.new.writer c.write.result c.next.ensures.value c.write.ensures
    c.write_each.result (λ m. g.W.PartsBy.encoding_by m (g.W.PartsBy.held c.args.fields.now.1)) c.write_each.new.seq c.in_ok-write.field-0 c.in_ok-write.was
    c.write_each.ensures (search rules) (search rules) (search rules)

pub returns-in_err-write : goal.returns-in_err-write
returns-in_err-write g c =
    let encoding = g.A.Notation.means.encoding_under in
    let v = c.args.fields.now.0.now in
    let e = c.in_err-write.field-0.0 in
    failed_one (λ u m. encoding u m v) c.args.seq.now c.next.result.now c.write.new.writer c.write.result c.next.ensures.value c.write.ensures
    c.from_residual.result _ e c.in_err-write.was
    (let x : IsErrAnd c.from_residual.result (λ k. k ≡ e) = search rules in x) (search rules) (search rules) (search rules)
