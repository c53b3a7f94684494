-- Worked examples of CER: what the definitions say of single values and bytes.
use Rattle.std.proofs.Common.{◌≡◌, ℕ, ◌*◌, List, [], ◌∷◌, length, take, drop, replicate, refl, arith}
use Rattle.yasna_base.specs.declared.mode.BERMode.TheVariants.{Cer}
use Rattle.yasna_base.specs.declared.tag.PCBit.TheVariants.{Constructed}
use Rattle.yasna_base.specs.declared.tag.TagClass.TheVariants.{ContextSpecific}
use Rattle.yasna_base.specs.Bits.{bits_tag, bits_encoding}
use Rattle.yasna_base.specs.Canonical.{definite_element, indefinite_element, canonical_element, enclosed_encoding}
use Rattle.yasna_base.specs.Segmented.{FallsInto}
use Rattle.yasna_base.specs.Digits.{digits}
use Rattle.yasna_base.specs.Identifier.{identifier}
use Rattle.yasna_base.specs.Length.{shortest_length}
use Rattle.yasna_base.specs.Octets.{octets_tag, octets_encoding, octets_depth}
use Rattle.yasna_base.specs.Raw.{raw_encoding}
use Rattle.yasna_base.specs.Segments.{cut_up}
use Rattle.yasna_base.specs.Sequence.{sequence_tag}

-- the pair of 10 and true
cer_pair : enclosed_encoding {A = Unit {0}} (λ m u. 2 ∷ 1 ∷ 10 ∷ 1 ∷ 1 ∷ 255 ∷ []) sequence_tag Cer tt ≡ 48 ∷ 128 ∷ 2 ∷ 1 ∷ 10 ∷ 1 ∷ 1 ∷ 255 ∷ 0 ∷ 0 ∷ []
unfolding canonical_element indefinite_element identifier
cer_pair = refl

-- no octets
cer_no_octets : octets_encoding octets_tag Cer [] ≡ 4 ∷ 0 ∷ []
unfolding canonical_element definite_element identifier shortest_length digits
cer_no_octets = refl

-- how many bytes 1000, 1001 and 2000 octets take, how those of the first and the second begin, and how deep they nest
cer_octets : ℕ → List ℕ
cer_octets n = octets_encoding octets_tag Cer (replicate n 65)

cer_1000 : (length (cer_octets 1000) ≡ 1004) × (take 4 (cer_octets 1000) ≡ 4 ∷ 130 ∷ 3 ∷ 232 ∷ []) × (octets_depth Cer (replicate 1000 65) ≡ 1)
unfolding cer_octets canonical_element definite_element identifier shortest_length digits
cer_1000 = (refl, refl, refl)

cer_1001 : (length (cer_octets 1001) ≡ 1011) × (take 6 (cer_octets 1001) ≡ 36 ∷ 128 ∷ 4 ∷ 130 ∷ 3 ∷ 232 ∷ [])
    × (drop 1006 (cer_octets 1001) ≡ 4 ∷ 1 ∷ 65 ∷ 0 ∷ 0 ∷ []) × (octets_depth Cer (replicate 1001 65) ≡ 2)
unfolding cer_octets canonical_element definite_element indefinite_element identifier shortest_length digits cut_up
cer_1001 = (refl, refl, refl, refl)

cer_2000 : length (cer_octets 2000) ≡ 2012
unfolding cer_octets canonical_element definite_element indefinite_element identifier shortest_length digits cut_up
cer_2000 = refl

-- 7992 bits, and 8000
cer_bits : ℕ → List ℕ
cer_bits n = bits_encoding bits_tag Cer (record { bytes = replicate n 1; count = 8 * n })

cer_7992 : (length (cer_bits 999) ≡ 1004) × (take 5 (cer_bits 999) ≡ 3 ∷ 130 ∷ 3 ∷ 232 ∷ 0 ∷ [])
unfolding cer_bits canonical_element definite_element identifier shortest_length digits
cer_7992 = (refl, refl)

cer_8000 : (length (cer_bits 1000) ≡ 1012) × (take 7 (cer_bits 1000) ≡ 35 ∷ 128 ∷ 3 ∷ 130 ∷ 3 ∷ 232 ∷ 0 ∷ [])
    × (drop 1006 (cer_bits 1000) ≡ 3 ∷ 2 ∷ 0 ∷ 1 ∷ 0 ∷ 0 ∷ [])
unfolding cer_bits canonical_element definite_element indefinite_element identifier shortest_length digits cut_up
cer_8000 = (refl, refl, refl)

-- 1000 octets aren't cut, nor may the last segment be empty, or one before it be short
not_cut : FallsInto Cer 1000 (replicate 1000 65 ∷ []) → ⊥
not_cut x = omega (arith, x.1)

not_empty_at_end : FallsInto Cer 1000 (replicate 1000 65 ∷ [] ∷ []) → ⊥
not_empty_at_end x = omega (arith, x.0.1.0)

not_short_before : FallsInto Cer 1000 ((65 ∷ []) ∷ replicate 1000 65 ∷ []) → ⊥
not_short_before x = omega (arith, x.0.0)

-- a raw element whose payload ends by the two zeros
cer_raw : raw_encoding (record { tag_class = ContextSpecific; tag_number = 0 }) Cer
    (record { tag = record { tag_class = ContextSpecific; tag_number = 0 }; bit = Constructed; payload = 2 ∷ 1 ∷ 10 ∷ 0 ∷ 0 ∷ [] })
    ≡ 160 ∷ 128 ∷ 2 ∷ 1 ∷ 10 ∷ 0 ∷ 0 ∷ []
unfolding identifier
cer_raw = refl
