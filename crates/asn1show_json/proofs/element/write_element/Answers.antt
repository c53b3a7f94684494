use Rattle.asn1show_json.proofs.Tokens.{element_written, then_ok}
use Rattle.asn1show_json.specs.Json.{diagnostic_tokens, member_tokens}
use Rattle.asn1show_json.proofs.element.write_element.Goals as goal

pub returns-clause-tokens : goal.returns-clause-tokens
returns-clause-tokens c =
    let w = c.in_ok-write_diagnostics.ensures.tokens in
    let members = member_tokens c.args.item.now c.args.part c.args.alternative c.args.value in
    let start = c.args.json.now.tokens in
    let begun = c.begin_object.new.self.tokens in
    let listed = c.write_members.new.json.tokens in
    let diagnosed = c.write_diagnostics.new.json.tokens in
    let named = c.key.new.self.tokens in
    let opened = c.begin_array.new.self.tokens in
    let written = element_written start begun listed diagnosed named opened members (diagnostic_tokens w.0) in
    let so_far = written c.in_ok-begin_object.ensures.ok c.in_ok-write_members.ensures.tokens w.2 c.in_ok-key.ensures.ok in
    then_ok c.begin_array.result (λ e. (w.0, w.1, so_far e)) c.begin_array.ensures.ok
