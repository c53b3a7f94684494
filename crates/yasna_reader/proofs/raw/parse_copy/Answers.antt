use Rattle.std.proofs.Common.{refl}
use Rattle.yasna_bytes.specs.Prefix.{HasPrefix}
use Rattle.yasna_reader.proofs.RawReads.{rejects_copy, out_of_memory_for_copy}
use Rattle.yasna_reader.proofs.raw.parse_copy.Goals as goal

pub returns-in-Err-of_element : goal.returns-in-Err-of_element
returns-in-Err-of_element g c =
    let p = c.args.cursor in
    rw c.reject.ensures (out_of_memory_for_copy (HasPrefix (g.T.Copied.copies p.mode p.levels) p.left.now) p.levels p.mode p.left.now _ c.in-Ok.element c.in-Ok.rest.now
    (c.in-Ok.ensures {u = tt}) refl refl)

pub returns-in-Err : goal.returns-in-Err
returns-in-Err g c =
    let p = c.args.cursor in
    rejects_copy g.T.Copied.copies p.levels p.mode p.left.now c.in-Err.rejection (g.met.T.Copied.element p.levels p.mode) (c.in-Err.ensures {u = tt})
