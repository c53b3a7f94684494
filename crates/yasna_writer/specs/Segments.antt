-- Long strings in segments, as CER requires (X.690, 9.2).
use Rattle.std.specs.Prelude.{ℕ, ◌-◌, ◌*◌, List, length, flat_map, Bool, false, nat_lt}
use Rattle.yasna_base.specs.declared.mode.BERMode.{BERMode}
use Rattle.yasna_base.specs.declared.mode.BERMode.TheVariants.{Der, Cer}
use Rattle.yasna_base.specs.declared.tag.PCBit.TheVariants.{Primitive}
use Rattle.yasna_base.specs.Bits.{BitString, bits_tag, bits_contents, bit_segments}
use Rattle.yasna_base.specs.Canonical.{canonical_element}
use Rattle.yasna_base.specs.Octets.{octets_full, octets_tag}
use Rattle.yasna_base.specs.Segments.{segments}

-- whether a mode cuts n bytes, where k of them fill a segment
abbrev pub is_cut : BERMode → ℕ → ℕ → Bool
is_cut Cer k n = nat_lt k n
is_cut m k n = false

-- one segment of octets
abbrev pub octet_segment : List ℕ → List ℕ
octet_segment b = canonical_element Der octets_tag Primitive b

-- all segments of octets, one after the other
abbrev pub in_octet_segments : List ℕ → List ℕ
in_octet_segments b = flat_map octet_segment (segments octets_full b)

-- one segment of bits
abbrev pub bit_segment : BitString → List ℕ
bit_segment v = canonical_element Der bits_tag Primitive (bits_contents v)

-- all segments of bits, one after the other
abbrev pub in_bit_segments : BitString → List ℕ
in_bit_segments v = flat_map bit_segment (bit_segments v)

-- bytes with u bits left over at their end
abbrev pub bits_with : ℕ → List ℕ → BitString
bits_with u b = record { bytes = b; count = 8 * length b - u }
