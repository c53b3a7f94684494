use Rattle.yasna.proofs.Laws.{ascii_text}
use Rattle.yasna_vectors.proofs.strings.Class.write.Goals as goal

pub write_ia5_string-requires : goal.write_ia5_string-requires
write_ia5_string-requires c = ascii_text c.args.text.now (c.if-is_ascii.ensures {u = tt}).cases
