use Rattle.std.proofs.Common.{refl, inl}
use Rattle.yasna_base.proofs.Digits.{slice_bytes}
use Rattle.yasna_bytes.proofs.Integer.{sign_is, minimal_some}
use Rattle.yasna_bytes.proofs.Contents.{copy_may_allocate}
use Rattle.yasna_bytes.proofs.bytes.contents.big_integer.Tuple2VecU8BoolContents.of_contents.Goals as goal

pub returns-in-Ok : goal.returns-in-Ok
returns-in-Ok c = record {
  contents = c.in-Ok.ensures.bytes;
  in_bytes = slice_bytes c.args.contents.now c.type_inv.contents;
  minimal = (c.if-not-is_minimal.ensures {u = tt}).0 refl;
  sign = sign_is c.args.contents.now (slice_bytes c.args.contents.now c.type_inv.contents);
}

pub returns-in-Err : goal.returns-in-Err
returns-in-Err c = inl (
  c.in-Err.ensures.memory,
  copy_may_allocate c.args.contents.now
      (minimal_some c.args.contents.now ((c.if-not-is_minimal.ensures {u = tt}).0 refl)),
)
