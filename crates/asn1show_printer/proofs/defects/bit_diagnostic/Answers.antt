use Rattle.asn1show_printer.proofs.Modes.{bit_primitive, bit_constructed}
use Rattle.asn1show_printer.proofs.defects.bit_diagnostic.Goals as goal

pub returns-in-Primitive : goal.returns-in-Primitive
returns-in-Primitive c = bit_primitive c.args.bit c.args.kind c.in-Primitive.is

pub returns-in-Constructed : goal.returns-in-Constructed
returns-in-Constructed c = bit_constructed c.args.bit c.args.kind _ c.in-Constructed.is c.constructed_diagnostic.ensures
