use mir.Val.{SFits}
use Rattle.std.proofs.Common.{◌≡◌, ℤ, ◌∙◌, subst, rules}
use Rattle.std.proofs.lemmas.Int.{to_z-of_z}
use Rattle.std.specs.Int.{w64}
use Rattle.yasna_base.specs.Integer.{integer_encoding, integer_tag}
use Rattle.yasna_writer.specs.Prepend.{KnownLength}
use Rattle.yasna.proofs.primitive.I32DEREncodable.encoded_len.Goals as goal

pub returns : goal.returns
returns c =
    let fits : SFits w64 c.from.result = search rules in
    let same : c.from.result ≡ c.args.self.now = search rules in
    subst (λ (z : ℤ). KnownLength (integer_encoding integer_tag c.args._mode z) c.i64_len.result) (to_z-of_z w64 c.from.result fits ∙ same)
    (c.i64_len.ensures c.args._mode)
