use Rattle.std.proofs.Common.{rules}
use Rattle.std.proofs.lemmas.Bool.{and_parts}
use Rattle.yasna_notation_types.proofs.Sets.{set_read}
use Rattle.yasna_notation_types.proofs.set_parts.SetNotation.read.Goals as goal

pub returns : goal.returns
returns g c =
    let z = and_parts g.P.Parts.unambiguous g.P.SetParts.set_unambiguous c.requires in
    set_read _ _ c.args.reader.now c.read_set.result c.read_set.new.self (g.met.P.SetParts.set_laws z.1) (g.met.P.Parts.laws z.0).coding.meaning.equal
    c.read_set.ensures (λ p q x h. search rules)
