use Rattle.std.proofs.Common.{refl, arith}
use Rattle.yasna_base.specs.Boolean.{encodes_true}
use Rattle.yasna_base.proofs.Lists.{one_of}
use Rattle.yasna_bytes.proofs.bytes.contents.boolean.BoolContents.of_contents.Goals as goal

pub returns-then-is_true : goal.returns-then-is_true
returns-then-is_true c =
    let f = c.type_inv.contents 0 in
    encodes_true _ ((c.if-is_true.ensures {u = tt}).0 refl) (omega arith, tt) refl (one_of c.args.contents.now (omega arith))
