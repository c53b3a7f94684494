use mir.Val.{SFits}
use Rattle.std.proofs.Common.{◌≡◌, ℤ, ◌∙◌, subst, rules}
use Rattle.std.proofs.lemmas.Int.{to_z-of_z}
use Rattle.std.specs.Int.{w64}
use Rattle.yasna_base.specs.declared.tag.Tag.{Tag}
use Rattle.yasna_base.specs.Identifier.{tag_or}
use Rattle.yasna_base.specs.Integer.{integer_encoding, integer_tag}
use Rattle.yasna_writer.specs.Prepend.{KnownLength}
use Rattle.yasna_notation.proofs.simple.I32Notation.encoded_len.Goals as goal

pub returns : goal.returns
returns c =
    let fits : SFits w64 c.from.result = search rules in
    let same : c.from.result ≡ c.args.value.now = search rules in
    let tag : c.unwrap_or.result ≡ tag_or c.args.under integer_tag = search rules in
    subst (λ (t : Tag). KnownLength (integer_encoding t c.args._mode c.args.value.now) c.i64_len.result) tag
    (subst (λ (z : ℤ). KnownLength (integer_encoding c.unwrap_or.result c.args._mode z) c.i64_len.result) (to_z-of_z w64 c.from.result fits ∙ same)
    (c.i64_len.ensures c.args._mode))
