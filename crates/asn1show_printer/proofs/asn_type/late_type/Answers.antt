use Rattle.std.proofs.Common.{rules, tests}
use Rattle.asn1show_printer.proofs.Types.{no_type, whole_utf8, whole_visible}
use Rattle.asn1show_printer.proofs.asn_type.late_type.Goals as goal

pub returns-in-31-to-34 : goal.returns-in-31-to-34
returns-in-31-to-34 c = search (rules, tests, whole_visible)

pub returns-in-35 : goal.returns-in-35
returns-in-35 c = search (rules, tests, whole_utf8)

pub returns-in_default-2 : goal.returns-in_default-2
returns-in_default-2 c = search (rules, tests, no_type)
