use Rattle.std.proofs.Common.{ℕ, List, sym, subst, ◌∙◌}
use Rattle.std.proofs.lemmas.Str.{encodes-chars}
use Rattle.yasna_base.specs.Identifier.{tag_or}
use Rattle.yasna_base.specs.Octets.{octets_encoding}
use Rattle.yasna_writer.specs.View.{Wrote}
use Rattle.yasna_writer.proofs.state.Writer.write_text.Goals as goal

pub returns : goal.returns
returns c =
    let old = c.args.self.now in
    subst (λ (b : List ℕ). Wrote (octets_encoding (tag_or old.tag c.args.own) old.mode b) old c.write_octets.new.self c.write_octets.result)
    (c.as_bytes.ensures.value ∙ sym (encodes-chars c.args.string.now c.utf8.string)) c.write_octets.ensures
