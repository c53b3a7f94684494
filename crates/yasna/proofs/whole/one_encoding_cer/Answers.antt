use Rattle.yasna_base.proofs.Canonical.{one_in_cer, cer_in_ber}
use Rattle.yasna.proofs.whole.one_encoding_cer.Goals as goal

pub returns-clause-cer : goal.returns-clause-cer
returns-clause-cer g c = λ v s short. one_in_cer g.met.T.DERCanonical.written 101 v s short

pub returns-clause-ber : goal.returns-clause-ber
returns-clause-ber g c = λ v can level short. cer_in_ber g.met.T.DERCanonical.written 101 v can level short
