use Rattle.std.proofs.Common.{rules}
use Rattle.examples_proved.proofs.strings.write_directory_string.Goals as goal

pub write_printable_string-requires : goal.write_printable_string-requires
write_printable_string-requires c = search rules
