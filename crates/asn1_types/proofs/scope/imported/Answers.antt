use Rattle.std.proofs.Common.{◌∙◌, sym}
use Rattle.asn1_types.specs.Names.{of_crate, of_module}
use Rattle.asn1_types.proofs.scope.imported.Goals as goal

pub returns-in-Some : goal.returns-in-Some
returns-in-Some c = of_crate (sym c.known_index.ensures ∙ c.in-Some.is)

pub returns-in-Some-module_at : goal.returns-in-Some-module_at
returns-in-Some-module_at c = λ x means.
    of_module c.in-Some-module_at.exporter.now (sym c.known_index.ensures ∙ c.in-None.is) (sym c.module_index.ensures ∙ c.in-Some-module_index.is)
    c.in-Some-module_at.ensures (sym c.exports_name.ensures ∙ c.if-exports_name.true) means
