-- Which elements of a listing are selected, and the bytes that are extracted of one.
use Rattle.std.specs.Prelude.{◌≡◌, ◌+◌, ◌==◌, ℕ, Bool, true, false, cond, not, List, ◌++◌, length, Option, Some, None, nat_le, nat_lt}
use Rattle.yasna_base.specs.Grammar.{max_depth}
use Rattle.yasna_base.specs.Raw.{RawValue, IsRaw}
use Rattle.yasna_base.specs.declared.mode.BERMode.{BERMode}
use Rattle.asn1show_printer.specs.Conformance.{conforms}
use Rattle.asn1show_printer.specs.declared.diagnostic.Conformance.{Conformance}
use Rattle.asn1show_printer.specs.declared.selection.Extent.{Extent}
use Rattle.asn1show_printer.specs.declared.selection.Part.{Part}
use Rattle.asn1show_printer.specs.declared.selection.Part.TheVariants.{Whole, Contents}
use Rattle.asn1show_printer.specs.declared.selection.Position.{Position}
use Rattle.asn1show_printer.specs.declared.selection.Position.TheVariants.{Before, Within, After}
use Rattle.asn1show_printer.specs.declared.selection.Selection.{Selection}
use Rattle.asn1show_printer.specs.declared.selection.Selection.TheVariants.{Elements, Defects, Bytes}

-- the offset of the element that is asked for, if only one is
abbrev pub start_of : Selection → Option ℕ
start_of (Elements extent) = extent.at
start_of (Defects m) = None
start_of (Bytes at part) = Some at

-- the next element of a listing, with its offset and depth, relative to the one that begins at an offset: it is that one, or still in it if it is deeper
abbrev pub position_at : ℕ → Position → ℕ → ℕ → Position
position_at at Before offset depth = cond (offset == at) (Within depth) Before
position_at at (Within base) offset depth = cond (nat_lt base depth) (Within base) After
position_at at After offset depth = After

-- as `position_at`; where no element is asked for, each is within the whole
abbrev pub position_after : Option ℕ → Position → ℕ → ℕ → Position
position_after None old offset depth = Within 0
position_after (Some at) old offset depth = position_at at old offset depth

-- whether the element that is asked for wasn't found
abbrev pub is_before : Position → Bool
is_before Before = true
is_before (Within base) = false
is_before After = false

-- whether an element is listed: it is within the element that is asked for, or the whole, and at most `extent.depth` levels deeper
abbrev pub lists : Extent → Position → ℕ → Bool
lists extent Before depth = false
lists extent (Within base) depth = nat_le depth (base + extent.depth)
lists extent After depth = false

-- whether the line of an element is written: in a check only if the element isn't in its rules
abbrev pub keeps : Selection → Position → ℕ → Conformance → Bool
keeps (Elements extent) position depth element = lists extent position depth
keeps (Defects m) position depth element = not (conforms element m)
keeps (Bytes at part) position depth element = false

-- bytes are a whole element with a header of this many octets: as many as its length says, or one raw element
abbrev pub IsWholeElement : BERMode → ℕ → Option ℕ → List ℕ → Type 0
IsWholeElement m header (Some n) whole = length whole ≡ header + n
IsWholeElement m header None whole = (v : RawValue) × IsRaw m max_depth v whole

-- s begins with such an element
pub record IsWholeAt (m : BERMode) (s : List ℕ) (header : ℕ) (size : Option ℕ) (whole : List ℕ) : Type 0 where
  pub rest : List ℕ
  pub joined : s ≡ whole ++ rest
  pub is_whole : IsWholeElement m header size whole

-- the octets after the contents of an element: the two zeros that end them, if the length is indefinite
abbrev pub end_size : Option ℕ → ℕ
end_size (Some n) = 0
end_size None = 2

-- the contents of an element, without its header and the zeros that end them
pub record IsContentsOf (whole : List ℕ) (header : ℕ) (size : Option ℕ) (contents : List ℕ) : Type 0 where
  pub head : List ℕ
  pub tail : List ℕ
  pub joined : whole ≡ head ++ (contents ++ tail)
  pub header_size : length head ≡ header
  pub tail_size : length tail ≡ end_size size

abbrev pub IsPartOfElement : Part → List ℕ → ℕ → Option ℕ → List ℕ → Type 0
IsPartOfElement Whole whole header size part = part ≡ whole
IsPartOfElement Contents whole header size part = IsContentsOf whole header size part

-- this part of the element that s begins with
pub record IsExtracted (m : BERMode) (part : Part) (s : List ℕ) (header : ℕ) (size : Option ℕ) (bytes : List ℕ) : Type 0 where
  pub whole : List ℕ
  pub is_whole : IsWholeAt m s header size whole
  pub is_part : IsPartOfElement part whole header size bytes
