use Rattle.std.proofs.Common.{sym, subst}
use Rattle.asn1_input.specs.Blocks.{BeginsBlock, Begins}
use Rattle.asn1_input.proofs.Opening.{if_none}
use Rattle.asn1_input.proofs.pem.OpenBlock.begin.Goals as goal

pub returns-in_err-label-clause-none : goal.returns-in_err-label-clause-none
returns-in_err-label-clause-none c =
    if_none c.from_residual.result (BeginsBlock c.args.line.now → ⊥)
    (λ x. (c.in_err-label.ensures {u = tt}).none x.0 (subst (λ z. Begins z x.0) (sym c.unindented.ensures) x.1))
