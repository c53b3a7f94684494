use Rattle.std.proofs.Common.{ℕ, List, sym, subst, ◌∙◌}
use Rattle.std.proofs.lemmas.Str.{encodes-chars}
use Rattle.yasna_base.specs.Octets.{octets_encoding}
use Rattle.yasna_writer.specs.Prepend.{Prepends}
use Rattle.yasna_writer.proofs.prepend_buffer.PrependBuffer.prepend_text.Goals as goal

pub returns : goal.returns
returns c =
    let old = c.args.self.now in
    subst (λ (b : List ℕ). Prepends (octets_encoding c.args.tag old.mode b) old c.prepend_bytes.new.self c.prepend_bytes.result)
    (c.as_bytes.ensures.value ∙ sym (encodes-chars c.args.string.now c.utf8.string)) c.prepend_bytes.ensures
