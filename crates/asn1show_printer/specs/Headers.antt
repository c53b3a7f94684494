-- Headers in the fewest octets (X.690, 8.1.3 and 10.1).
use Rattle.std.specs.Prelude.{◌≡◌, ◌↔◌, ℕ, Bool, List, ◌++◌, length, Option, Some, IsTrue}
use Rattle.yasna_base.specs.declared.mode.BERMode.{BERMode}
use Rattle.yasna_base.specs.declared.tag.PCBit.{PCBit}
use Rattle.yasna_base.specs.declared.tag.Tag.{Tag}
use Rattle.yasna_base.specs.Identifier.{identifier}
use Rattle.yasna_base.specs.Length.{shortest_length}
use Rattle.asn1show_walk.specs.Listing.{IsHeaded}
use Rattle.asn1show_walk.specs.declared.listing.item.Item.{Item}

-- b is an element with the contents c, whose length is definite and not in the fewest octets
pub record HasLongLength (t : Tag) (bit : PCBit) (c b : List ℕ) (size : Option ℕ) : Type 0 where
  pub definite : size ≡ Some (length c)
  pub longer : b ≡ identifier t bit ++ (shortest_length (length c) ++ c) → ⊥

-- it is said exactly of an element with such a length, whatever its octets are
abbrev pub SaysOfLength : Item → Bool → Type 0
SaysOfLength i said = (m : BERMode) (c b : List ℕ) → IsHeaded m i.tag i.bit c b i.header i.size → IsTrue said ↔ HasLongLength i.tag i.bit c b i.size
