use Rattle.std.proofs.Common.{rules, ◌≡◌, ◌∙◌, ◌++◌, ℤ, List, reverse, take, drop, length, ap, arith, subst}
use Rattle.std.proofs.lemmas.Grind.{common_steps}
use Rattle.yasna.specs.Words.{enclosed_encoding, integer_encoding, sequence_tag, elements_encoding, Writes, integer_tag}
use Rattle.examples_proved.proofs.encoders.TrailDEREncodable.encode_der.Goals as goal

pub returns : goal.returns
returns c =
    let r : List ℤ = c.reverse.new.self in
    let whole : take c.in-Ok.steps.len (r ++ drop (length r) c.in-Ok.steps.items) ≡ r = grind (arith, common_steps) in
    let same : c.as_mut_slice.result.now ≡ c.args.self.now.steps.items = search rules in
    let turned : r ≡ reverse c.args.self.now.steps.items = c.reverse.ensures.after ∙ ap reverse same in
    subst (λ (steps : List ℤ). Writes (enclosed_encoding (elements_encoding (integer_encoding integer_tag)) sequence_tag c.args.writer.now.mode steps) c.args.writer.now
    c.encode_der.new.writer c.encode_der.result) (whole ∙ turned) c.encode_der.ensures
