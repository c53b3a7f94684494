use Rattle.asn1_input.proofs.Boundaries.{stripped, label_found, label_missed}
use Rattle.asn1_input.proofs.pem.label_of.Goals as goal

pub returns-clause-label : goal.returns-clause-label
returns-clause-label c =
    label_found c.args.line.now c.in_ok-rest.rest.now c.trim_ascii_end.result.now c.strip_suffix.result
    (stripped c.args.line.now c.in_ok-rest.rest c.strip_prefix.result c.strip_prefix.ensures.cases c.in_ok-rest.was) c.trim_ascii_end.ensures.value
    c.strip_suffix.ensures.cases

pub returns-clause-none : goal.returns-clause-none
returns-clause-none c =
    label_missed c.args.line.now c.in_ok-rest.rest.now c.trim_ascii_end.result.now c.strip_suffix.result
    (stripped c.args.line.now c.in_ok-rest.rest c.strip_prefix.result c.strip_prefix.ensures.cases c.in_ok-rest.was) c.trim_ascii_end.ensures.value
    c.strip_suffix.ensures.cases
