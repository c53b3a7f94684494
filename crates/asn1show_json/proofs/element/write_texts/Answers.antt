use Rattle.std.proofs.Common.{◌∙◌}
use Rattle.asn1show_json.proofs.Tokens.{more_texts}
use Rattle.asn1show_json.proofs.element.write_texts.Goals as goal

pub loop-diagnostic-preserved : goal.loop-diagnostic-preserved
loop-diagnostic-preserved c =
    let v = c.loop-diagnostic.invariant in
    let ok = c.in_ok-string.ensures in
    let step = more_texts c.args.json.now.tokens c.loop-diagnostic.json.tokens c.string.new.self.tokens in
    let more = step c.loop-diagnostic.diagnostic-index c.text.result.now (v.1, v.2, v.3) ok.ok in
    (ok.room.0 ∙ v.0, more.0, more.1, more.2)
