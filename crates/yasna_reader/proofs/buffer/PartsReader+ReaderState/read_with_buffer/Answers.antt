use Rattle.yasna_reader.proofs.Callbacks.{taken_from}
use Rattle.yasna_reader.proofs.buffer.PartsReader+ReaderState.read_with_buffer.Goals as goal

pub with_taken-requires : goal.with_taken-requires
with_taken-requires g c = taken_from _ _ _ c.f-returned.result _ c.take_back-outcome.result c.take_back-outcome.new.self c.take_back-outcome.ensures
