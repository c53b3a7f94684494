use Rattle.std.proofs.Common.{rules, ◌+◌, ◌≤◌, length}
use Rattle.asn1show_printer.proofs.WholeElement.{whole_of_take}
use Rattle.asn1show_printer.proofs.extraction.definite_at.Goals as goal

pub returns : goal.returns
returns c =
    let within : c.args.header + c.args.size ≤ length c.args.bytes.now = search rules in
    whole_of_take c.args.mode c.args.bytes.now c.args.header c.args.size within
