use Rattle.std.proofs.Common.{◌∷◌, sym, ap, ◌∙◌, arith}
use Rattle.yasna_base.specs.Digits.{base128}
use Rattle.yasna_base.proofs.Identifier.{identifier_long}
use Rattle.yasna_writer.specs.Identifier.{base128_digits}
use Rattle.yasna_writer.proofs.Puts.{put_then}
use Rattle.yasna_writer.proofs.identifier.put_identifier.Goals as goal

pub returns-clause-put : goal.returns-clause-put
unfolding base128_digits
returns-clause-put c =
    put_then _ _ _ _ _ _ _ _ _ c.put_base128-digits.ensures.put c.put_bytes-2.ensures.put c.requires.within
    (ap (λ b. b ∷ base128 c.args.tag.tag_number) (omega arith) ∙ sym (identifier_long c.args.tag c.args.bit (omega arith)))
