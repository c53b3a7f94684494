use Rattle.std.proofs.Common.{refl}
use Rattle.yasna_base.proofs.Identifier.{long_identifier, no_identifier}
use Rattle.yasna_base.proofs.bytes.identifier.read_long.Goals as goal

pub returns-in-Ok : goal.returns-in-Ok
returns-in-Ok c =
    let r = c.in-Ok.ensures {u = tt} in
    long_identifier _ _ c.args.s.now c.args.tag_class c.args.bit 31 c.in-Ok.tag_number c.in-Ok.rest.now refl refl refl r.0 r.1

pub returns-in-Err : goal.returns-in-Err
returns-in-Err c =
    let r = c.in-Err.ensures {u = tt} in
    (r.0, no_identifier _ _ c.args.s.now c.args.tag_class c.args.bit 31 refl refl refl r.1)
