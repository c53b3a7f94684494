-- The steps of a search for a name.
use Rattle.std.proofs.Common.{ℕ, List, Result, Ok, Err}
use Rattle.std.specs.Result.{IfOk}
use Rattle.asn1_types.specs.declared.model.KnownType.{KnownType}
use Rattle.asn1_types.specs.declared.problem.Problem.{Problem}
use Rattle.asn1_types.specs.declared.scope.Meaning.{Meaning}
use Rattle.asn1_types.specs.declared.scope.Meaning.TheVariants as meanings
use Rattle.asn1_types.specs.declared.scope.Step.{Step}
use Rattle.asn1_types.specs.declared.scope.Step.TheVariants as steps
use Rattle.asn1_types.specs.Names.{IsStep, IsStepFrom, Means, MeansFrom}
use Rattle.asn1_syntax.specs.declared.tree.Module.{Module}

-- a step of a search for a name that is imported
pub step_from : (modules : List Module) (known : List KnownType) (text : List ℕ) (m : ℕ) (from : List ℕ) (r : Result Step Problem) →
    ((x : Meaning) → MeansFrom modules known text from x → Means modules known text m x) → IfOk r (IsStepFrom modules known text from) →
    IfOk r (IsStep modules known text m)
step_from modules known text m from (Ok (steps.Assigned place)) goes is = goes (meanings.Assigned place) is
step_from modules known text m from (Ok (steps.Known index)) goes is = goes (meanings.Known index) is
step_from modules known text m from (Ok (steps.Module next)) goes is = λ x means. goes x (is x means)
step_from modules known text m from (Err e) goes is = tt
