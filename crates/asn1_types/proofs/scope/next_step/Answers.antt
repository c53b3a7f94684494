use Rattle.std.proofs.Common.{◌∙◌, sym}
use Rattle.asn1_types.specs.Names as names_are
use Rattle.asn1_types.proofs.Searches.{step_from}
use Rattle.asn1_types.proofs.scope.next_step.Goals as goal

pub returns-in-Some-assignment_index : goal.returns-in-Some-assignment_index
returns-in-Some-assignment_index c =
    names_are.assigned c.in-Some.here.now c.in-Some.ensures (sym c.assignment_index.ensures ∙ c.in-Some-assignment_index.is)

pub returns-in-Some-imported_from : goal.returns-in-Some-imported_from
returns-in-Some-imported_from c =
    step_from c.args.scope.modules.now c.args.scope.known.now c.args.name.text.now c.args.«module» c.in-Some-imported_from.from.text.now
    c.imported.result
    (λ x means. names_are.imported c.in-Some.here.now c.in-Some-imported_from.from.text.now c.in-Some.ensures (sym c.assignment_index.ensures ∙ c.in-None.is)
    c.in-Some-imported_from.ensures means) c.imported.ensures
