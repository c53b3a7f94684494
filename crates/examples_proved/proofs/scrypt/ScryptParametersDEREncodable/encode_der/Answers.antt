use Rattle.std.proofs.Common.{rules}
use Rattle.yasna.specs.Words.{sequence_tag}
use Rattle.examples_proved.proofs.Writing.{enclosed_by}
use Rattle.examples_proved.proofs.scrypt.ScryptParametersDEREncodable.encode_der.Goals as goal

pub returns-in-Some : goal.returns-in-Some
returns-in-Some c =
    enclosed_by _ _ sequence_tag c.args.writer.now c.write_sequence.new.self c.write_sequence.result _ c.requires.untagged c.write_sequence.ensures
    (λ p q x h. search rules)

pub returns-in-None : goal.returns-in-None
returns-in-None c =
    enclosed_by _ _ sequence_tag c.args.writer.now c.write_sequence-in-None.new.self c.write_sequence-in-None.result _ c.requires.untagged
    c.write_sequence-in-None.ensures (λ p q x h. search rules)
