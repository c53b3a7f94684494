-- What a report knows of the elements that were visited.
use Rattle.std.specs.Prelude.{◌≡◌, ◌↔◌, ℕ, false, List, ◌∷◌, None, IsTrue, reverse}
use Rattle.yasna_base.specs.declared.mode.BERMode.{BERMode}
use Rattle.asn1show_schema.specs.declared.fields.Label.{Label}
use Rattle.asn1show_schema.specs.declared.schema.Contents.TheVariants.{Any}
use Rattle.yasna_base.specs.Grammar.{max_depth}
use Rattle.asn1show_walk.specs.Listing.{Line, ListsBytes}
use Rattle.asn1show_walk.specs.Reading.{line_of}
use Rattle.asn1show_walk.specs.declared.listing.item.Item.{Item}
use Rattle.asn1show_printer.specs.Conformance.{conforms}
use Rattle.asn1show_printer.specs.Modes.{CountsFor, KeepsEach}
use Rattle.asn1show_printer.specs.Segments.{Tracks}
use Rattle.asn1show_printer.specs.declared.diagnostic.Conformance.{Conformance}
use Rattle.asn1show_printer.specs.declared.report.Report.{Report}

-- a conformance is to exactly the modes whose rules elements keep, the last one of them first
abbrev pub ConformsTo : Conformance → List Line → Type 0
ConformsTo c before = (m : BERMode) → IsTrue (conforms c m) ↔ KeepsEach m before

-- no module is given, and a report knows the elements before
pub record Knows (r : Report) (before : List Line) : Type 0 where
  pub plain : r.style.view.schema ≡ None
  pub fields : r.fields ≡ None
  pub tracks : Tracks r.segments before
  pub conformance : ConformsTo r.conformance before

-- a report without a module is of the elements of these lines
abbrev pub IsReportOf : Report → List Line → Type 0
IsReportOf r lines = Knows r (reverse lines)

-- the elements of bytes keep the rules of exactly the modes that a conformance is to
pub record IsConformanceOf (mode : BERMode) (bytes : List ℕ) (c : Conformance) : Type 0 where
  pub lines : List Line
  pub lists : ListsBytes max_depth mode false 0 bytes lines
  pub conformance : ConformsTo c (reverse lines)

-- the report after an element has its label
pub record Labels (old new : Report) (label : Label) : Type 0 where
  pub style : new.style ≡ old.style
  pub segments : new.segments ≡ old.segments
  pub conformance : new.conformance ≡ old.conformance
  pub fields : old.fields ≡ None → new.fields ≡ None
  pub unnamed : old.fields ≡ None → label.contents ≡ Any

-- the report after an element was described: the rules of the element are known
pub record Describes (old new : Report) (i : Item) (label : Label) : Type 0 where
  pub style : new.style ≡ old.style
  pub conformance : new.conformance ≡ old.conformance
  pub fields : new.fields ≡ old.fields
  pub tracks : old.style.view.schema ≡ None → label.contents ≡ Any → (before : List Line) → Tracks old.segments before → Tracks new.segments (line_of i ∷ before)
  pub modes : old.style.view.schema ≡ None → label.contents ≡ Any → (before : List Line) → Tracks old.segments before →
      (m : BERMode) → IsTrue (conforms new.notes.conformance m) ↔ CountsFor m before (line_of i)
