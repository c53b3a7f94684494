use Rattle.std.proofs.Common.{arith}
use Rattle.yasna_base.specs.Text.{IsStringOf, IsUtf8In, InUtf8, characters}
use Rattle.yasna.proofs.Closures.{string_by}
use Rattle.yasna_reader.proofs.Sticky.{seen_repeats_error}
use Rattle.yasna.proofs.strings.StringBERDecodable.decode_ber.Goals as goal

pub returns-clause-decodes : goal.returns-clause-decodes
returns-clause-decodes c failed =
    (string_by (IsStringOf (IsUtf8In InUtf8)) characters 12 (λ e. omega arith)).decodes c.args.reader.now c.read_utf8string.result
    c.read_utf8string.new.self (failed, c.requires) c.read_utf8string.ensures

pub returns-clause-failed : goal.returns-clause-failed
returns-clause-failed c = seen_repeats_error c.read_utf8string.ensures
