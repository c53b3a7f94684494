use Rattle.std.proofs.Common.{rules}
use Rattle.yasna_writer.proofs.bmp.push_character.Goals as goal

pub returns-then-number-lt65536-clause-items : goal.returns-then-number-lt65536-clause-items
returns-then-number-lt65536-clause-items c = search rules
