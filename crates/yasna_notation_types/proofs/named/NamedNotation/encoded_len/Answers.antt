use mir.Val.{SFits}
use Rattle.std.proofs.Common.{◌≡◌, ◌∙◌, ℤ, subst, rules}
use Rattle.std.proofs.lemmas.Int.{to_z-of_z}
use Rattle.std.specs.Int.{w64}
use Rattle.yasna_base.specs.declared.tag.Tag.{Tag}
use Rattle.yasna_base.specs.Enumerated.{enumerated_tag}
use Rattle.yasna_base.specs.Identifier.{tag_or}
use Rattle.yasna_base.specs.Integer.{integer_encoding}
use Rattle.yasna_writer.specs.Prepend.{KnownLength}
use Rattle.yasna_notation_types.proofs.named.NamedNotation.encoded_len.Goals as goal

pub returns : goal.returns
returns g c =
    let fits : SFits w64 c.number.result = search rules in
    let tag : c.unwrap_or.result ≡ tag_or c.args.under enumerated_tag = search rules in
    let number = to_z-of_z w64 c.number.result fits ∙ c.number.ensures in
    subst (λ (t : Tag). KnownLength (integer_encoding t c.args._mode (g.E.Numbered.number_of c.args.value.now)) c.i64_len.result) tag
    (subst (λ (z : ℤ). KnownLength (integer_encoding c.unwrap_or.result c.args._mode z) c.i64_len.result) number
    (c.i64_len.ensures c.args._mode))
