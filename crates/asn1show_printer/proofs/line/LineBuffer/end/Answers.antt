use Rattle.std.proofs.Common.{sym, subst}
use Rattle.asn1show_walk.specs.Errors.{IsExternal}
use Rattle.asn1show_printer.proofs.Outputs.{output_is_external}
use Rattle.asn1show_printer.proofs.line.LineBuffer.end.Goals as goal

pub returns-in-Err : goal.returns-in-Err
returns-in-Err g c = subst IsExternal (sym c.from.ensures) (output_is_external _)
