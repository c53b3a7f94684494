use Rattle.std.proofs.Common.{◌-◌, inl, ◌∙◌, arith}
use Rattle.std.proofs.lemmas.Result.{MatchResult-weaker}
use Rattle.yasna_writer.specs.declared.header.Header.{Header}
use Rattle.yasna_writer.proofs.Buffers.{unambiguous}
use Rattle.yasna_writer.proofs.buffer.Buffer.enclose.Goals as goal

pub returns : goal.returns
returns c =
    let b = c.args.opened in
    let h : Header = record { tag = b.tag; length = c.len-all.result - b.start } in
    MatchResult-weaker c.place_header.result c.place_header.ensures
    (λ _ e. (
      omega (arith, c.if-all-opened.false, c.len-all.ensures),
      e ∙ unambiguous b.mode h b.start c.args.self.now c.in_default.not-Cer (omega (arith, c.if-all-opened.false, c.len-all.ensures)),
    )) (λ k f. inl f)
