use Rattle.std.proofs.Common.{sym}
use Rattle.asn1_types.specs.Untagged.{of_crate, of_definition}
use Rattle.asn1_types.proofs.tags_of_types.is_untagged.Goals as goal

pub returns-in-Some : goal.returns-in-Some
returns-in-Some c = of_definition c.in-Defined.is (sym c.in-Some.ensures)

pub returns-in-Some-is_untagged_known : goal.returns-in-Some-is_untagged_known
returns-in-Some-is_untagged_known c = of_crate c.in-Imported.is (sym c.in-Some-is_untagged_known.ensures)
