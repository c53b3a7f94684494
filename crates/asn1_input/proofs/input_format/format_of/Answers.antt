use Rattle.std.proofs.Common.{subst}
use Rattle.asn1_input.specs.Input.{IsDetectedIn}
use Rattle.asn1_input.proofs.input_format.format_of.Goals as goal

pub returns : goal.returns
returns c = subst (λ z. IsDetectedIn z c.text_format.result) c.text_of.ensures c.text_format.ensures
