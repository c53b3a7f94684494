use Rattle.yasna_base.proofs.Coding.{unambiguous}
use Rattle.yasna.proofs.exact.one_der_encoding.Goals as goal

pub returns-clause-unique : goal.returns-clause-unique
returns-clause-unique g c = λ m v w s r h k. unambiguous g.met.T.BERDecodable.coding m 101 101 v w s r h k
