use Rattle.asn1show_printer.proofs.Headers.{says_length}
use Rattle.asn1show_printer.proofs.lengths.is_long.Goals as goal

pub returns-clause-said : goal.returns-clause-said
returns-clause-said c = λ m o b x.
    let i = c.args.item.now in
    says_length m i.tag i.bit o b i.header _ _ _ i.size c.in-Some.is (c.identifier_length.ensures.octets i.bit) c.shortest_length.ensures.octets x
