use Rattle.std.proofs.Common.{subst}
use Rattle.asn1_types.specs.declared.scope.Meaning.{Meaning}
use Rattle.asn1_types.specs.Names.{Refers}
use Rattle.asn1_types.proofs.Meaning.{as_name_of}
use Rattle.asn1_types.proofs.cores.referred.Goals as goal

pub returns-in-Assigned : goal.returns-in-Assigned
returns-in-Assigned c =
    as_name_of c.args.scope.modules.now c.args.scope.known.now c.args.at.«module» c.args.at.notation.now c.in-Plain.plain c.in-Assigned.place c.assigned_type.result c.in-Plain.is
    (subst (λ (x : Meaning). Refers c.args.scope.modules.now c.args.scope.known.now c.args.at.«module» c.in-Plain.plain.words.items x) c.in-Assigned.is
    c.in_ok-place.ensures) c.assigned_type.ensures.assigned c.assigned_type.ensures.«module»
