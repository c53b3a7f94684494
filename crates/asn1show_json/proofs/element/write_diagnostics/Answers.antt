use Rattle.asn1show_json.proofs.Tokens.{diagnostics_written, then_ok}
use Rattle.asn1show_json.proofs.element.write_diagnostics.Goals as goal

pub returns-clause-tokens : goal.returns-clause-tokens
returns-clause-tokens c =
    let w = c.in_ok-write_texts.ensures.tokens in
    let start = c.args.json.now.tokens in
    let opened = c.begin_array.new.self.tokens in
    let ended = c.end_array.new.self.tokens in
    let written = diagnostics_written start c.key.new.self.tokens opened c.write_texts.new.json.tokens ended w.0 in
    then_ok c.end_array.result (λ e. (w.0, w.1, written c.in_ok-key.ensures.ok c.in_ok-begin_array.ensures.ok w.2 e)) c.end_array.ensures.ok
