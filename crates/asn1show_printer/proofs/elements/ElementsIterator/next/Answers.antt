use Rattle.std.proofs.Common.{rules}
use Rattle.asn1show_printer.proofs.Pieces.{piece_shorter}
use Rattle.asn1show_printer.proofs.elements.ElementsIterator.next.Goals as goal

pub returns-in-Some-clause-goes : goal.returns-in-Some-clause-goes
returns-in-Some-clause-goes c = let h = piece_shorter _ _ _ (c.in-Some.ensures {u = tt}) in search rules
