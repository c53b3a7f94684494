use Rattle.std.proofs.Common.{rules}
use Rattle.yasna.proofs.Closures.{reads_at}
use Rattle.examples_proved.proofs.third_party.fn.VersionBERDecodable.decode_ber.read_sequence.Goals as goal

pub returns-in_err-major : goal.returns-in_err-major
returns-in_err-major c = (c.read_u16.result, c.read_u16.new.self, reads_at c.read_u16.ensures c.next.ensures.value, search rules)
