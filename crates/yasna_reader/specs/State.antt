-- A reading as contracts see it, and what the parts of a constructed element lend.
use Rattle.std.specs.Borrow.{Fml, Lends, MutBor, RattleType}
use Rattle.std.specs.Prelude.{Bool, Err, List, None, Option, Result, Some, false, true, ℕ, ◌-◌, ◌≡◌}
use Rattle.yasna_base.specs.Grammar.{max_depth}
use Rattle.yasna_base.specs.declared.error.ASN1Error.{ASN1Error}
use Rattle.yasna_base.specs.declared.mode.BERMode.{BERMode}
use Rattle.yasna_base.specs.declared.tag.Tag.{Tag}
use Rattle.yasna_base.specs.Identifier.{tag_or}
use Rattle.yasna_reader.specs.contracts.state.PartsReader.{the_row}
use Rattle.yasna_reader.specs.declared.state.PartsReader.{PartsReader}

-- the bytes left in the innermost element of definite length or the input, the mode, the levels left, the implicit tag
-- of the next element, and the sticky error
pub record Reading : Type 0 where
  pub left : List ℕ
  pub mode : BERMode
  pub levels : ℕ
  pub tag : Option Tag
  pub failed : Option ASN1Error

-- a read: the reading before it, its result, and the reading after it
abbrev pub Does : Type 0 → Type 1
Does A = Reading → Result A ASN1Error → Reading → Type 0

-- a sticky error is returned before what Otherwise says is done, and leaves the reading as it was
abbrev pub UnlessFailed : {A : Type 0} → Option ASN1Error → Reading → Result A ASN1Error → Reading → Type 0 → Type 0
UnlessFailed (Some e) s r s' Otherwise = (r ≡ Err e) × (s' ≡ s)
UnlessFailed None s r s' Otherwise = Otherwise

-- no error was sticky, and no implicit tag waits
abbrev pub IsFresh : Reading → Type 0
IsFresh s = (s.failed ≡ None) × (s.tag ≡ None)

-- the reading that a parse starts with
abbrev pub starts : List ℕ → BERMode → Reading
starts s m = record { left = s; mode = m; levels = max_depth; tag = None; failed = None }

-- the reading of an element's contents c
abbrev pub inside : Reading → List ℕ → Reading
inside s c = record s { left = c; levels = s.levels - 1; tag = None; failed = None }

-- the reading once its implicit tag is used up
abbrev pub untagged : Reading → Reading
untagged s = record s { tag = None }

-- the reading with this sticky error
abbrev pub failing : Reading → ASN1Error → Reading
failing s e = record s { failed = Some e }

-- the tag of the next element: the implicit one, or the type's own
abbrev pub tag_of : Reading → Tag → Tag
tag_of s t = tag_or s.tag t

-- an error that consumed input is sticky, and uses the implicit tag up; any other leaves the reading as it was
abbrev pub rejecting : Bool → Reading → ASN1Error → Reading
rejecting true s e = failing (untagged s) e
rejecting false s e = s

-- an error is sticky where something was consumed
abbrev pub failing_if : Bool → Reading → ASN1Error → Reading
failing_if true s e = failing s e
failing_if false s e = s

-- what the next part is read from
abbrev pub part_of : {S : Type 0} → PartsReader S → S
part_of p = p.reader

-- r lends the reading: what it is in the end is what is left of the parts
abbrev pub LendsReader : (S : RattleType) → MutBor (PartsReader S.Denot) → MutBor S.Denot → Fml
LendsReader S s r = Lends (the_row S) S s r (λ w. record s.now { reader = w })
