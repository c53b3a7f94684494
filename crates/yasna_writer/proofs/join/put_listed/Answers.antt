use Rattle.std.proofs.Common.{◌≤◌, length, refl, sym, subst, take-append-drop, arith}
use Rattle.std.proofs.lemmas.Option.{slice_get_past, slice_get_read}
use Rattle.yasna_writer.specs.Buffer.{listed_header}
use Rattle.yasna_writer.proofs.join.put_listed.Goals as goal

pub put_parts_header-requires-clause-room : goal.put_parts_header-requires-clause-room
put_parts_header-requires-clause-room c =
    let found = (c.in-Some.ensures {u = tt}).lookup in
    subst (λ h. length (listed_header h) ≤ c.args.end)
    (slice_get_read c.args.large.now _ c.args.index c.in-Some.header.now refl found.3.0 found.1) c.requires.room

pub returns-in-None-clause-put : goal.returns-in-None-clause-put
returns-in-None-clause-put c =
    rw (slice_get_past c.args.large.now c.args.index (c.in-None.ensures {u = tt}).lookup.3)
    (record { place = omega arith; bytes = sym (take-append-drop c.args.end c.args.out.now) })
