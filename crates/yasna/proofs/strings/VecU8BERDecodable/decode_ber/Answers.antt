use Rattle.std.proofs.Common.{Vec, ℕ, arith}
use Rattle.std.specs.Global.{Global}
use Rattle.yasna_base.specs.Octets.{IsOctets}
use Rattle.yasna.proofs.Closures.{string_by}
use Rattle.yasna_reader.proofs.Sticky.{seen_repeats_error}
use Rattle.yasna.proofs.strings.VecU8BERDecodable.decode_ber.Goals as goal

pub returns-clause-decodes : goal.returns-clause-decodes
returns-clause-decodes c failed =
    (string_by IsOctets (λ (v : Vec ℕ Global). v.items) 4 (λ e. omega arith)).decodes c.args.reader.now c.read_bytes.result c.read_bytes.new.self
    (failed, c.requires) c.read_bytes.ensures

pub returns-clause-failed : goal.returns-clause-failed
returns-clause-failed c = seen_repeats_error c.read_bytes.ensures
