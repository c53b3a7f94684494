use Rattle.std.proofs.Common.{◌≡◌, drop}
use Rattle.std.specs.Prelude.{◌&&◌}
use Rattle.yasna_base.specs.declared.mode.BERMode.{BERMode}
use Rattle.asn1show_printer.specs.Conformance.{conforms}
use Rattle.asn1show_printer.specs.Modes.{spare_each}
use Rattle.asn1show_printer.proofs.notes.Notes.note_each.Given as goal

-- what those leave that are left is what all leave
abbrev pub invariant-loop-one : goal.invariant-loop-one
invariant-loop-one l =
    (m : BERMode) → (conforms l.self.conformance m && spare_each (drop l.one-index l.said) m) ≡ (conforms l.initial.self.conformance m && spare_each l.said m)
