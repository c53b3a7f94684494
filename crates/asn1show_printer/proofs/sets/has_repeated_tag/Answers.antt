use Rattle.std.proofs.Common.{subst}
use Rattle.std.specs.Prelude.{◌≢◌, ◌↔◌, IsTrue}
use Rattle.std.specs.List.{AllPairs}
use Rattle.std.proofs.lemmas.Result.{IfOk-weaker}
use Rattle.asn1show_printer.proofs.sets.has_repeated_tag.Goals as goal

pub returns-in-Ok : goal.returns-in-Ok
returns-in-Ok c =
    IfOk-weaker c.has_equal.result _ _
    (λ said x ps are. subst (λ ts. IsTrue said ↔ (AllPairs (λ t u. t ≢ u) ts → ⊥)) (c.in-Ok.ensures {u = tt} ps are) x) c.has_equal.ensures
