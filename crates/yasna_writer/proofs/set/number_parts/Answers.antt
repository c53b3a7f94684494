use Rattle.std.proofs.Common.{◌≡◌, ℕ, ◌++◌, ◌∷◌, [], Vec, take, ap, ap₂, sym, ◌∙◌, rules}
use Rattle.std.proofs.lemmas.List.{map-append, take_more}
use Rattle.std.specs.Global.{Global}
use Rattle.yasna_writer.specs.declared.ordered_part.OrderedPart.{OrderedPart}
use Rattle.yasna_writer.specs.Parts.{bytes_each, ordered_bytes}
use Rattle.yasna_writer.proofs.set.number_parts.Goals as goal

pub loop-bytes-preserved : goal.loop-bytes-preserved
loop-bytes-preserved c =
    let before = take c.loop-bytes.bytes-index c.args.parts.now in
    let part = c.bytes-item.result in
    let numbered = c.loop-bytes.numbered.items in
    let pushed : c.push.new.self.items ≡ numbered ++ c.new.result ∷ [] = search rules in
    let bytes : c.new.result.bytes.now ≡ part.items = search rules in
    ap ordered_bytes pushed ∙ map-append (λ (p : OrderedPart). p.bytes.now) numbered (c.new.result ∷ [])
    ∙ ap₂ (λ xs b. xs ++ b ∷ []) c.loop-bytes.invariant bytes ∙ sym (map-append (λ (v : Vec ℕ Global). v.items) before (part ∷ []))
    ∙ ap bytes_each (ap (λ v. before ++ v ∷ []) c.bytes-item.is ∙ sym (take_more c.args.parts.now c.loop-bytes.bytes-index part c.loop-bytes-test.true))
