use Rattle.std.proofs.Common.{◌≡◌, ◌∙◌, List, Some, refl, subst, sym}
use Rattle.std.specs.List.{slice_get}
use Rattle.std.proofs.lemmas.Option.{slice_get_read}
use Rattle.asn1_types.proofs.scope.imported_from.Goals as goal
use Rattle.asn1_syntax.specs.declared.tree.Import.{Import}

pub returns-then-imports_name : goal.returns-then-imports_name
returns-then-imports_name c = record {
  imports = c.in-Some.imports;
  import = c.import-item.result;
  index = c.loop-import.import-index;
  is = c.in-Some.is;
  there = subst (λ (xs : List Import). slice_get xs c.loop-import.import-index ≡ Some c.import-item.result) c.deref-import-items.ensures.value
      (slice_get_read c.deref-import-items.result.now _ _ _ refl c.loop-import-test.true c.import-item.is);
  named = sym c.imports_name.ensures ∙ c.if-imports_name.true;
  from_is = refl;
}
