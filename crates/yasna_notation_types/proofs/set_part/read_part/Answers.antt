use Rattle.std.proofs.Common.{rules}
use Rattle.yasna_notation.specs.Notation.{ReadsAs}
use Rattle.yasna_notation.proofs.Enclosing.{value_by}
use Rattle.yasna_notation_types.proofs.SetReading.{single_read}
use Rattle.yasna_notation_types.proofs.set_part.read_part.Goals as goal

pub returns : goal.returns
returns g c =
    let n = g.A.Notation.means in
    single_read _ _ (g.met.A.Notation.lawful c.requires).own.coding n.may_allocate
    (ReadsAs n.tags_known n.tags n.retagged n.may_allocate n.under n.any_under) value_by c.args.tags.now c.args.set.now c.read_optional.result
    c.read_optional.new.self c.read_optional.ensures (λ p q x h. search rules)
