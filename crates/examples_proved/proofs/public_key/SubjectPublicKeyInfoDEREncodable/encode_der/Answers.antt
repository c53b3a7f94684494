use Rattle.std.proofs.Common.{◌≡◌, ◌++◌, ℕ, List, [], arith, rules, append_assoc, append-nil}
use Rattle.yasna.specs.Words.{sequence_tag}
use Rattle.examples_proved.proofs.Writing.{enclosed_by}
use Rattle.examples_proved.proofs.public_key.SubjectPublicKeyInfoDEREncodable.encode_der.Goals as goal

two_parts : (s a b : List ℕ) → (s ++ a) ++ b ≡ s ++ (a ++ (b ++ []))
two_parts s a b = grind (arith, append_assoc, append-nil)

pub returns : goal.returns
returns c =
    enclosed_by _ _ sequence_tag c.args.writer.now c.write_sequence.new.self c.write_sequence.result _ c.requires.untagged c.write_sequence.ensures
    (λ p q x h. search (rules, two_parts))
