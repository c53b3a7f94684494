use Rattle.std.proofs.Common.{◌+◌, ◌∷◌, length, sym, ap, ◌∙◌, arith}
use Rattle.yasna_base.specs.BigInteger.{trim_leading}
use Rattle.yasna_writer.proofs.BigEndian.{length_trimmed}
use Rattle.yasna_writer.proofs.Puts.{put_then}
use Rattle.yasna_writer.proofs.length.put_long_length.Goals as goal

pub returns-clause-put : goal.returns-clause-put
returns-clause-put c =
    let digits = c.trim_leading-digits.ensures ∙ ap (trim_leading 0) c.to_be_bytes-bytes.ensures in
    put_then _ _ _ _ _ _ _ _ _ c.put_bytes-start.ensures.put c.put_bytes.ensures.put c.requires.within
    (ap (λ ds. (128 + length ds) ∷ ds) digits ∙ sym (length_trimmed c.args.length c.requires.long (omega arith)))
