use Rattle.std.proofs.Common.{◌≡◌, Err, None, rules, subst}
use Rattle.yasna_reader.specs.Decodes.{Decodes}
use Rattle.yasna_notation.proofs.encoded.EncodedBERDecodable.decode_ber.Goals as goal

pub returns-in_err-value-clause-decodes : goal.returns-in_err-value-clause-decodes
returns-in_err-value-clause-decodes g c failed =
    let n = g.T.Notation.means in
    let s = c.args.reader.now in
    let left = c.read.new.reader in
    let is : c.from_residual.result ≡ Err c.in_err-value.field-0.0 = search rules in
    rw is (subst (λ r. Decodes n.may_allocate (n.under None) (n.any_under None) s r left) c.in_err-value.was (c.read.ensures.fresh (failed, c.requires)).decodes)
