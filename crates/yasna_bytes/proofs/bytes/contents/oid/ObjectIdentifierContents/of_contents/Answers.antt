use Rattle.std.proofs.Common.{inl, inr}
use Rattle.yasna_bytes.proofs.bytes.contents.oid.ObjectIdentifierContents.of_contents.Goals as goal

pub returns-in-Err : goal.returns-in-Err
returns-in-Err c = elim (c.in-Err.ensures {u = tt} c.args._mode) [
  | inl k ↦ inl (c.oid_error.ensures.memory k.0, k.1)
  | inr h ↦ inr (c.oid_error.ensures.blames_bytes h.0, h.1)
]
