use Rattle.std.proofs.Common.{◌≡◌, Ok, rules}
use Rattle.yasna_writer.proofs.PartByPart.{after_one}
use Rattle.yasna.proofs.tuples.Tuple2EncodableParts.write_parts.Goals as goal

pub returns : goal.returns
returns g c =
    let v = c.args.self.now.0 in
    let wrote : c.encode_der.result ≡ Ok tt = search rules in
    after_one (λ u m. g.A.DEREncodable.encoding m v) c.args.seq.now c.next.result.now c.encode_der.new.writer c.encode_der.result
    c.next.ensures.value c.encode_der.ensures c.write_parts.result (λ m. g.W.EncodableParts.parts_encoding m c.args.self.now.1)
    c.write_parts.new.seq tt wrote c.write_parts.ensures (search rules) (search rules) (search rules)
