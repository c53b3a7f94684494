use Rattle.std.proofs.Common.{rules}
use Rattle.yasna_reader.specs.State.{starts}
use Rattle.yasna_reader.specs.Decodes.{Decodes}
use Rattle.yasna_reader.proofs.WholeInputs.{whole, exactly}
use Rattle.yasna.proofs.whole.decode_ber_general.Goals as goal

pub returns : goal.returns
returns g c =
    let p = c.parse_ber_general.ensures in
    let h : Decodes g.T.BERDecodable.may_allocate g.T.BERDecodable.encodes g.T.BERDecodable.elements (starts c.args.src.now c.args.mode)
    p.own p.left = search rules in
    let w = whole g.T.BERDecodable.may_allocate g.met.T.BERDecodable.coding c.args.mode c.args.src.now p.own p.left h c.parse_ber_general.result p.returns in
    let does : g.T.BERDecodable.reads (starts c.args.src.now c.args.mode) p.own p.left = search rules in
    record {
      decoded = w;
      parses = record { own = p.own; left = p.left; obeys = does; returns = p.returns };
      exact = exactly g.T.BERDecodable.may_allocate g.met.T.BERDecodable.coding c.args.mode c.args.src.now c.parse_ber_general.result w;
    }
