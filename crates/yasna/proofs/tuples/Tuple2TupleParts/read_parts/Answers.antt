use Rattle.std.proofs.Common.{◌≡◌, Err, rules}
use Rattle.yasna_reader.specs.Decodes.{ParsedValue, NotParsed}
use Rattle.yasna_reader.proofs.Tuples.{others_ok, others_err}
use Rattle.yasna.proofs.tuples.Tuple2TupleParts.read_parts.Goals as goal

pub returns : goal.returns
returns g c =
    search (rules, others_ok g.met.A.BERDecodable.coding g.A.BERDecodable.may_allocate g.W.TupleParts.parts_may_allocate g.W.TupleParts.parts g.W.TupleParts.any_parts)

pub returns-in_err-others : goal.returns-in_err-others
returns-in_err-others g c =
    let s = c.args.seq.now.reader in
    let m = c.decode_ber.new.reader in
    let left = c.read_parts.new.seq.reader in
    let h : ParsedValue (g.A.BERDecodable.encodes s.mode s.levels) s c.in_ok-first.first m = search rules in
    let k : NotParsed g.W.TupleParts.parts_may_allocate (g.W.TupleParts.any_parts m.mode m.levels) m c.in_err-others.field-0.0 left = search rules in
    let failed : c.from_residual-in_err-others.result ≡ Err c.in_err-others.field-0.0 = search rules in
    rw failed (others_err g.met.A.BERDecodable.coding g.A.BERDecodable.may_allocate g.W.TupleParts.parts_may_allocate g.W.TupleParts.parts g.W.TupleParts.any_parts
    s c.in_ok-first.first m h c.in_err-others.field-0.0 left k)
