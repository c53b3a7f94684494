-- The header of an element: identifier and length (X.690, 8.1.2 and 8.1.3).
use Rattle.std.specs.Prelude.{ℕ, List, [], ◌∷◌, ◌++◌, Option, Some, None}
use Rattle.yasna_base.specs.declared.mode.BERMode.{BERMode}
use Rattle.yasna_base.specs.declared.mode.BERMode.TheVariants.{Cer}
use Rattle.yasna_base.specs.declared.tag.PCBit.{PCBit}
use Rattle.yasna_base.specs.declared.tag.PCBit.TheVariants.{Constructed}
use Rattle.yasna_base.specs.declared.tag.Tag.{Tag}
use Rattle.yasna_base.specs.Identifier.{identifier}
use Rattle.yasna_base.specs.Length.{shortest_length}
use Rattle.yasna_writer.specs.declared.header.Header.{Header}
use Rattle.yasna_writer.specs.declared.header.PartsHeader.{PartsHeader}
use Rattle.yasna_writer.specs.declared.header.PartsHeader.TheVariants.{Counted, Endless}

-- the bytes of a header: identifier octets, and length octets in the definite form
abbrev pub header_bytes : PCBit → Header → List ℕ
header_bytes bit h = identifier h.tag bit ++ shortest_length h.length

-- the bytes of one whose length octet is in the indefinite form (X.690, 8.1.3.6)
abbrev pub indefinite_header : Tag → List ℕ
indefinite_header t = identifier t Constructed ++ (128 ∷ [])

-- the bytes of the header of an element with parts
abbrev pub parts_header : PartsHeader → List ℕ
parts_header (Counted h) = header_bytes Constructed h
parts_header (Endless t) = indefinite_header t

-- the header of an element with parts: of a length, or of indefinite length
abbrev pub header_of : Tag → Option ℕ → PartsHeader
header_of t (Some n) = Counted (record { tag = t; length = n })
header_of t None = Endless t

-- what is before a payload that is written as it is
abbrev pub raw_header : BERMode → PCBit → Header → List ℕ
raw_header Cer Constructed h = indefinite_header h.tag
raw_header m bit h = header_bytes bit h
