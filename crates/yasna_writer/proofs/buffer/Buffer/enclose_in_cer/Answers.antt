use Rattle.std.proofs.Common.{ap, ◌∙◌}
use Rattle.std.proofs.lemmas.Result.{MatchResult-weaker}
use Rattle.yasna_writer.specs.Header.{indefinite_header}
use Rattle.yasna_writer.specs.Buffer.{with_header}
use Rattle.yasna_writer.proofs.Buffers.{indefinite_apart}
use Rattle.yasna_writer.proofs.buffer.Buffer.enclose_in_cer.Goals as goal

pub returns-in-Ok : goal.returns-in-Ok
returns-in-Ok c =
    let t = c.args.tag in
    let n = c.args.start in
    MatchResult-weaker c.place_header.result c.place_header.ensures
    (λ _ e. e ∙ ap (with_header n (indefinite_header t)) (c.in-Ok.ensures {u = tt}) ∙ indefinite_apart t n c.args.self.now c.requires)
    (λ k f. f)
