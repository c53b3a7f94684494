use Rattle.std.proofs.Common.{ℕ, List, sym, subst, ◌∙◌}
use Rattle.std.proofs.lemmas.Str.{encodes-chars}
use Rattle.yasna_base.specs.Octets.{octets_encoding}
use Rattle.yasna_writer.specs.Prepend.{KnownLength}
use Rattle.yasna_writer.proofs.encoded_len.text_len.Goals as goal

pub returns : goal.returns
returns c =
    subst (λ (b : List ℕ). KnownLength (octets_encoding c.args.tag c.args.mode b) c.bytes_len.result)
    (c.as_bytes.ensures.value ∙ sym (encodes-chars c.args.string.now c.utf8.string)) c.bytes_len.ensures
