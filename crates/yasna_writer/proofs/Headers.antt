-- How long a header is at most.
use Rattle.std.proofs.Common.{ℕ, inl, inr, ◌^◌, ◌<◌, ◌≤◌, [], ◌∷◌, ◌++◌, length, ap, arith, length-append}
use Rattle.std.proofs.lemmas.Bool.{cases_lt}
use Rattle.yasna_base.specs.declared.tag.PCBit.{PCBit}
use Rattle.yasna_base.specs.declared.tag.Tag.{Tag}
use Rattle.yasna_base.specs.declared.tag.PCBit.TheVariants.{Constructed}
use Rattle.yasna_base.specs.Identifier.{identifier}
use Rattle.yasna_base.specs.Length.{shortest_length}
use Rattle.yasna_base.proofs.Identifier.{identifier_short, identifier_long}
use Rattle.yasna_base.proofs.Length.{short_length}
use Rattle.yasna_writer.proofs.BigEndian.{length_trimmed, trimmed_at_most}
use Rattle.yasna_writer.proofs.Identifiers.{base128_length_at_most}

identifier_at_most : (t : Tag) (p : PCBit) → t.tag_number < 2 ^ 64 → length (identifier t p) ≤ 11
identifier_at_most t p h = elim (cases_lt t.tag_number 31) [
  | inl l ↦ omega (arith, ap length (identifier_short t p l))
  | inr l ↦ omega (arith, ap length (identifier_long t p l), base128_length_at_most t.tag_number h)
]

length_at_most : (n : ℕ) → n < 2 ^ 64 → length (shortest_length n) ≤ 9
length_at_most n h = elim (cases_lt n 128) [
  | inl l ↦ omega (arith, ap length (short_length n l))
  | inr l ↦ omega (arith, ap length (length_trimmed n l h), trimmed_at_most n)
]

-- of definite length
pub header_at_most : (t : Tag) (p : PCBit) (n : ℕ) → t.tag_number < 2 ^ 64 → n < 2 ^ 64 → length (identifier t p ++ shortest_length n) ≤ 20
header_at_most t p n h k = omega (arith, identifier_at_most t p h, length_at_most n k, length-append (identifier t p) (shortest_length n))

-- of indefinite length
pub indefinite_header_at_most : (t : Tag) → t.tag_number < 2 ^ 64 → length (identifier t Constructed ++ (128 ∷ [])) ≤ 20
indefinite_header_at_most t h = omega (arith, identifier_at_most t Constructed h, length-append (identifier t Constructed) (128 ∷ []))
