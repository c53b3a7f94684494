use Rattle.std.proofs.Common.{◌/◌, ◌∷◌, [], ◌++◌, sym, ap, ◌∙◌, arith}
use Rattle.std.specs.Prelude.{true}
use Rattle.yasna_writer.specs.Identifier.{base128_digits}
use Rattle.yasna_writer.proofs.Identifiers.{base128_digits_step, base128_digits_some, base128_digits_longer}
use Rattle.yasna_writer.proofs.Puts.{put_then}
use Rattle.yasna_writer.proofs.identifier.+put_base128.Goals as goal

pub put_bytes-last-requires-clause-room : goal.put_bytes-last-requires-clause-room
put_bytes-last-requires-clause-room t c = omega (arith, c.requires.room, base128_digits_some c.args.more c.args.number)

pub put_base128-requires : goal.put_base128-requires
put_base128-requires t c =
    let longer = base128_digits_longer c.args.more c.args.number (omega arith) in (
      omega arith,
      (
        omega (arith, c.requires.room, longer, c.put_bytes-last.ensures.put.place),
        omega (arith, c.requires.within, c.put_bytes-last.ensures.put.place, c.put_bytes-last.ensures.len),
      ),
    )

pub returns-clause-put : goal.returns-clause-put
returns-clause-put t c =
    put_then _ _ _ _ _ _ _ _ _ c.put_bytes-last.ensures.put c.put_base128.ensures.put c.requires.within
    (ap (λ b. base128_digits true (c.args.number / 128) ++ (b ∷ [])) c.base128_byte.ensures ∙ sym (base128_digits_step c.args.more c.args.number (omega arith)))
