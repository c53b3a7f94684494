use Rattle.std.proofs.Common.{Ok, rules}
use Rattle.yasna.specs.Words.{IsRaw, ReadsRaw, part_of, raw_of}
use Rattle.examples_proved.proofs.Reading.{reads_optional_by}
use Rattle.examples_proved.proofs.public_key.fn.AlgorithmIdentifierBERDecodable.decode_ber.read_sequence.Goals as goal

pub returns-in_err-parameters : goal.returns-in_err-parameters
returns-in_err-parameters c = (
  Ok c.in_ok-algorithm.algorithm,
  c.decode_ber.new.reader,
  search rules,
  (
    c.read_optional.result,
    part_of c.read_optional.new.self,
    reads_optional_by _ _ (ReadsRaw IsRaw raw_of) c.decode_ber.new.reader c.read_optional.result (part_of c.read_optional.new.self) c.read_optional.ensures
        (λ p q x e h. search rules),
    search rules,
  ),
)

pub returns : goal.returns
returns c = (
  Ok c.in_ok-algorithm.algorithm,
  c.decode_ber.new.reader,
  search rules,
  (
    c.read_optional.result,
    part_of c.read_optional.new.self,
    reads_optional_by _ _ (ReadsRaw IsRaw raw_of) c.decode_ber.new.reader c.read_optional.result (part_of c.read_optional.new.self) c.read_optional.ensures
        (λ p q x e h. search rules),
    search rules,
  ),
)
