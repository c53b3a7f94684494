use Rattle.yasna_base.proofs.Digits.{slice_bytes}
use Rattle.yasna_notation_constraints.proofs.Signs.{sign_matches}
use Rattle.yasna_notation_constraints.proofs.simple.is_canonical.Goals as goal

pub returns-then-is_minimal : goal.returns-then-is_minimal
returns-then-is_minimal c =
    sign_matches c.args.bytes.now c.args.positive (slice_bytes c.args.bytes.now c.type_inv.bytes) (c.is_minimal.ensures.0 c.if-is_minimal.true)
