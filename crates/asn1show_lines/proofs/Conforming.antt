-- The conformance of elements that were visited.
use Rattle.std.proofs.Common.{◌≡◌, ℕ, List, [], false, sym, subst}
use Rattle.std.specs.Prelude.{reverse}
use Rattle.yasna_base.specs.Grammar.{max_depth}
use Rattle.yasna_base.specs.declared.mode.BERMode.{BERMode}
use Rattle.asn1show_walk.specs.Listing.{Line, VisitsLines, ListsBytes}
use Rattle.asn1show_printer.specs.Reports.{ConformsTo, IsConformanceOf, IsReportOf}
use Rattle.asn1show_printer.specs.declared.diagnostic.Conformance.{Conformance}
use Rattle.asn1show_printer.specs.declared.report.Report.{Report}

-- a report of no elements that visited those of bytes has their conformance
pub conforming : (mode : BERMode) (bytes : List ℕ) (old new : Report) (c : Conformance) →
    ((ls : List Line) × VisitsLines (IsReportOf old) (IsReportOf new) ls × ListsBytes max_depth mode false 0 bytes ls) → IsReportOf old [] →
    c ≡ new.conformance → IsConformanceOf mode bytes c
conforming mode bytes old new c x knows e =
    record { lines = x.0; lists = x.2; conformance = subst (λ z. ConformsTo z (reverse x.0)) (sym e) (x.1 [] knows).conformance }
