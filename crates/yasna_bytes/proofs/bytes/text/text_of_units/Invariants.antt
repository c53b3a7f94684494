use Rattle.std.proofs.Common.{◌≡◌, ◌++◌, length, string_bytes}
use Rattle.std.specs.Char.Utf16.{utf16_lossy_chars}
use Rattle.std.specs.Str.{encode_utf8_all}
use Rattle.yasna_base.specs.Text.{units}
use Rattle.yasna_bytes.proofs.bytes.text.text_of_units.Given as goal

abbrev pub invariant-loop-rest : goal.invariant-loop-rest
invariant-loop-rest l = string_bytes l.text ++ encode_utf8_all (utf16_lossy_chars (units l.rest)) ≡ encode_utf8_all (utf16_lossy_chars (units l.octets))

abbrev pub decreases-loop-rest : goal.decreases-loop-rest
decreases-loop-rest l = length l.rest
