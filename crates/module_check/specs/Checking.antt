-- For which diagnostics an element is rejected.
use Rattle.std.specs.Prelude.{◌≡◌, true, ◌⊎◌}
use Rattle.yasna_base.specs.declared.mode.BERMode.{BERMode}
use Rattle.asn1show_printer.specs.declared.diagnostic.Diagnostic.{Diagnostic}
use Rattle.asn1show_printer.specs.Conformance.{excludes, is_of_module}

-- an element with a diagnostic is rejected: it isn't as the module says, or not in these encoding rules
abbrev pub IsRejected : BERMode → Diagnostic → Type 0
IsRejected m d = (is_of_module d ≡ true) ⊎ (excludes d m ≡ true)
