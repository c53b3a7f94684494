use Rattle.std.proofs.Common.{◌≡◌, ◌++◌, take}
use Rattle.asn1_types.specs.Written.{roots}
use Rattle.asn1_types.proofs.components.push_roots.Given as goal

abbrev pub invariant-loop-part : goal.invariant-loop-part
invariant-loop-part l = record {
  section : l.written.section ≡ l.fn.written.section;
  parts : l.written.parts.items ≡ l.fn.written.parts.items ++ roots (take l.part-index l.parts);
}
