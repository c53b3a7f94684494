-- The parts of a set as contracts see them.
use Rattle.std.specs.Prelude.{ℕ, List, [], ◌∷◌, Bool, true, false, map, Vec, Option, None}
use Rattle.std.specs.Global.{Global}
use Rattle.yasna_base.specs.declared.error.ASN1Error.{ASN1Error}
use Rattle.yasna_base.specs.declared.mode.BERMode.{BERMode}
use Rattle.yasna_base.specs.Set.{SetPart}
use Rattle.yasna_writer.specs.declared.ordered_part.OrderedPart.{OrderedPart}
use Rattle.yasna_writer.specs.declared.tagged_part.TaggedPart.{TaggedPart}
use Rattle.yasna_writer.specs.View.{Written}

-- the parts of a set, as they are written
pub record WrittenParts : Type 0 where
  -- the bytes of each part
  pub parts : List (List ℕ)
  -- the canonical mode of what is written
  pub mode : BERMode
  -- the sticky error
  pub failed : Option ASN1Error

-- a set that begins
abbrev pub begun_set : BERMode → WrittenParts
begun_set m = record { parts = []; mode = m; failed = None }

-- a set whose only part is this writing
abbrev pub only_part : Written → WrittenParts
only_part w = record { parts = w.bytes ∷ []; mode = w.mode; failed = w.failed }

-- the bytes of each part
abbrev pub bytes_each : List (Vec ℕ Global) → List (List ℕ)
bytes_each vs = map (λ (v : Vec ℕ Global). v.items) vs

-- the last part, where one was begun
abbrev pub last_part : Bool → List ℕ → List (List ℕ)
last_part false b = []
last_part true b = b ∷ []

-- a part with its tag, as the contents of a SET are defined by it
abbrev pub set_part_of : TaggedPart → SetPart
set_part_of p = record { tag = p.tag; bytes = p.bytes.items }

-- `set_part_of` of each part
abbrev pub parts_of : List TaggedPart → List SetPart
parts_of ps = map set_part_of ps

-- the bytes of each part after the number of its first ones
abbrev pub ordered_bytes : List OrderedPart → List (List ℕ)
ordered_bytes ps = map (λ (p : OrderedPart). p.bytes.now) ps
