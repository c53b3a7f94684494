-- What is before an element's contents, and where they end (X.690, 8.1).
use Rattle.std.specs.Prelude.{◌≡◌, ℕ, ◌^◌, ◌<◌, List, [], ◌∷◌, ◌++◌, length}
use Rattle.yasna_base.specs.Digits.{IsBytes}
use Rattle.yasna_base.specs.Element.{TakesDefinite, TakesIndefinite}
use Rattle.yasna_base.specs.Identifier.{identifier}
use Rattle.yasna_base.specs.Length.{SpellsLength}
use Rattle.yasna_base.specs.declared.mode.BERMode.{BERMode}
use Rattle.yasna_base.specs.declared.tag.PCBit.{PCBit}
use Rattle.yasna_base.specs.declared.tag.Tag.{Tag}

-- how contents end: their length is definite and this follows them, or it is indefinite
pub data ContentsEnd : Type 0 where
  definite_end : List ℕ → ContentsEnd
  indefinite_end : ContentsEnd

-- the identifier of t with this bit, a length, the contents c that it counts, and r
pub record Counts (m : BERMode) (t : Tag) (bit : PCBit) (s c r : List ℕ) : Type 0 where
  pub in_range : t.tag_number < 2 ^ 64
  pub in_bytes : IsBytes c
  pub taken : TakesDefinite m bit
  pub l : List ℕ
  pub spelled : SpellsLength m (length c) l
  pub joined : s ≡ identifier t bit ++ (l ++ (c ++ r))

-- the identifier, 128, and c
pub record Leaves (m : BERMode) (t : Tag) (bit : PCBit) (s c : List ℕ) : Type 0 where
  pub in_range : t.tag_number < 2 ^ 64
  pub in_bytes : IsBytes c
  pub taken : TakesIndefinite m bit
  pub joined : s ≡ identifier t bit ++ (128 ∷ c)

-- a header is at the start, and after it c: the contents, or where their length is indefinite all that is left
abbrev pub OpensAt : BERMode → Tag → PCBit → List ℕ → List ℕ → ContentsEnd → Type 0
OpensAt m t bit s c (definite_end r) = Counts m t bit s c r
OpensAt m t bit s c indefinite_end = Leaves m t bit s c

-- y is where contents end, and r follows the element
abbrev pub EndsBefore : ContentsEnd → List ℕ → List ℕ → Type 0
EndsBefore (definite_end a) y r = (y ≡ []) × (r ≡ a)
EndsBefore indefinite_end y r = y ≡ 0 ∷ 0 ∷ r
