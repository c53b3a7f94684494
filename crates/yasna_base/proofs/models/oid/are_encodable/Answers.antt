use Rattle.yasna_base.proofs.Oid.{encodable_of}
use Rattle.yasna_base.proofs.models.oid.are_encodable.Goals as goal

pub returns-in-len2-up : goal.returns-in-len2-up
returns-in-len2-up c = encodable_of c.args.components.now c.are_first_two.result c.in-len2-up.len_at_least c.type_inv.components c.are_first_two.ensures
