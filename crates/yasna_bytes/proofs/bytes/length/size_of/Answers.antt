use Rattle.yasna_bytes.proofs.Length.{too_wide, not_so}
use Rattle.yasna_bytes.proofs.bytes.length.size_of.Goals as goal

pub returns-in_default : goal.returns-in_default
returns-in_default c = too_wide c.args.mode c.args.digits.now (c.in_default.ensures {u = tt})

pub returns-else-is_spelling : goal.returns-else-is_spelling
returns-else-is_spelling c = not_so c.args.mode c.args.digits.now c.in-Some.size (c.in-Some.ensures {u = tt})
    (λ t. let z = (c.if-is_spelling.ensures {u = tt}).1 t in cc)
