-- Raw elements, whose payload is written as it is.
use Rattle.std.proofs.Common.{◌≡◌, ◌∷◌, [], ◌++◌, length, append_assoc}
use Rattle.yasna_base.specs.declared.mode.BERMode.{BERMode}
use Rattle.yasna_base.specs.declared.mode.BERMode.TheVariants.{Ber, Der, Cer}
use Rattle.yasna_base.specs.declared.tag.PCBit.{PCBit}
use Rattle.yasna_base.specs.declared.tag.PCBit.TheVariants.{Primitive, Constructed}
use Rattle.yasna_base.specs.declared.tag.Tag.{Tag}
use Rattle.std.proofs.Common.{ℕ, List}
use Rattle.yasna_base.specs.Canonical.{canonical_element, definite_element}
use Rattle.yasna_base.specs.Identifier.{identifier}
use Rattle.yasna_base.specs.Length.{shortest_length}
use Rattle.yasna_base.specs.Raw.{raw_encoding}
use Rattle.yasna_writer.specs.Header.{raw_header}

-- header and payload are the element
pub raw_written : (m : BERMode) (t own : Tag) (p : PCBit) (c : List ℕ) →
    raw_header m p (record { tag = t; length = length c }) ++ c ≡ raw_encoding t m (record { tag = own; bit = p; payload = c })
unfolding canonical_element definite_element
raw_written Ber t own Primitive c = append_assoc (identifier t Primitive) (shortest_length (length c)) c
raw_written Ber t own Constructed c = append_assoc (identifier t Constructed) (shortest_length (length c)) c
raw_written Der t own Primitive c = append_assoc (identifier t Primitive) (shortest_length (length c)) c
raw_written Der t own Constructed c = append_assoc (identifier t Constructed) (shortest_length (length c)) c
raw_written Cer t own Primitive c = append_assoc (identifier t Primitive) (shortest_length (length c)) c
raw_written Cer t own Constructed c = append_assoc (identifier t Constructed) (128 ∷ []) c
