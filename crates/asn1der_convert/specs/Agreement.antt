-- Where the orders of elements by tags and by octets agree (X.690, 10.3 and 11.6).
use Rattle.std.specs.Prelude.{◌≡◌, ◌↔◌, ℕ, ◌^◌, ◌<◌, ◌≤◌, true, List, ◌++◌, length, Option, Some, None, slice_index_or}
use Rattle.std.specs.List.{AllByRecursion}
use Rattle.std.specs.Ordering.{is_lt}
use Rattle.yasna_base.specs.Identifier.{identifier}
use Rattle.yasna_base.specs.Set.{SetPart}
use Rattle.yasna_base.specs.declared.tag.PCBit.{PCBit}
use Rattle.yasna_base.specs.declared.tag.Tag.{Tag}
use Rattle.yasna_bytes.specs.declared.bytes.walk.RawElement.{RawElement}
use Rattle.asn1der_convert.specs.Rows.{IsElementPart, part_of}
use Rattle.asn1der_convert.specs.SetOrder.{set_order}
use Rattle.asn1der_convert.specs.declared.agreement.Bounds.{Bounds}
use Rattle.asn1der_convert.specs.declared.agreement.Shape.{Shape}
use Rattle.asn1der_convert.specs.declared.set_order.SetOrder.TheVariants.{Tags, Octets}

-- neither of two elements is before the other by tags and after it by octets
pub record Agree (p q : SetPart) : Type 0 where
  pub up : is_lt (set_order Tags p q) ≡ true → is_lt (set_order Octets q p) ≡ true → ⊥
  pub down : is_lt (set_order Tags q p) ≡ true → is_lt (set_order Octets p q) ≡ true → ⊥

-- an element agrees with both bounds
abbrev pub AgreesWithin : SetPart → Bounds → Type 0
AgreesWithin p b = Agree p (part_of b.least) × Agree p (part_of b.greatest)

-- an element agrees with the bounds of all shapes
abbrev pub AgreesWithAll : SetPart → List Bounds → Type 0
AgreesWithAll p bs = AllByRecursion (AgreesWithin p) bs

-- s begins with an identifier of this shape
pub record HasShape (s : List ℕ) (f : Shape) : Type 0 where
  pub tag : Tag
  pub rest : List ℕ
  pub joined : s ≡ identifier tag f.bit ++ rest
  pub class : f.class ≡ tag.tag_class
  pub size : f.size ≡ length (identifier tag f.bit)

-- the shape of the identifier at the start of s, or there is none
abbrev pub ShapeAt : List ℕ → Option Shape → Type 0
ShapeAt s (Some f) = HasShape s f
ShapeAt s None = (t : Tag) (bit : PCBit) (r : List ℕ) → t.tag_number < 2 ^ 64 → s ≡ identifier t bit ++ r → ⊥

-- the bounds of a shape are at this place, or at none
abbrev pub PlaceAt : List Bounds → Shape → Option ℕ → Type 0
PlaceAt bs f (Some k) = (k < length bs) × ((d : Bounds) → (slice_index_or bs k d).shape ≡ f)
PlaceAt bs f None = AllByRecursion (λ (b : Bounds). b.shape ≡ f → ⊥) bs

-- an element with an identifier of this shape
pub record IsShaped (f : Shape) (p : SetPart) : Type 0 where
  pub own : IsElementPart p
  pub shape : HasShape p.bytes f

-- two elements with identifiers of the shape, in the order of their numbers
pub record AreBounds (b : Bounds) : Type 0 where
  pub least : IsShaped b.shape (part_of b.least)
  pub greatest : IsShaped b.shape (part_of b.greatest)
  pub order : b.least.tag.tag_number ≤ b.greatest.tag.tag_number

-- the bounds c are those of b widened by x: an element agrees with them exactly if it agrees with those of b and with x
pub record AreWider (b : Bounds) (x : RawElement) (c : Bounds) : Type 0 where
  pub bounds : AreBounds c
  pub shape : c.shape ≡ b.shape
  pub same : (p : SetPart) → IsElementPart p → AgreesWithin p c ↔ (AgreesWithin p b × Agree p (part_of x))

-- as `AreWider`, where x has their shape
abbrev pub Widens : Bounds → RawElement → Bounds → Type 0
Widens b x c = AreBounds b → IsShaped b.shape (part_of x) → AreWider b x c

-- an element agrees with the bounds cs exactly if it agrees with bs and with x
pub record AddsToBounds (bs : List Bounds) (x : RawElement) (cs : List Bounds) : Type 0 where
  pub bounds : AllByRecursion AreBounds cs
  pub same : (p : SetPart) → IsElementPart p → AgreesWithAll p cs ↔ (AgreesWithAll p bs × Agree p (part_of x))

-- as `AddsToBounds`, where x is an element
abbrev pub Remembers : List Bounds → RawElement → List Bounds → Type 0
Remembers bs x cs = AllByRecursion AreBounds bs → IsElementPart (part_of x) → AddsToBounds bs x cs
