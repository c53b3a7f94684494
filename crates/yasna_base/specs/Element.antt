-- An element: identifier, length, contents (X.690, 8.1.1).
use Rattle.std.specs.Prelude.{◌≡◌, ℕ, zero, suc, ◌^◌, ◌<◌, ◌≤◌, List, [], ◌∷◌, ◌++◌, length}
use Rattle.yasna_base.specs.declared.mode.BERMode.{BERMode}
use Rattle.yasna_base.specs.declared.mode.BERMode.TheVariants.{Ber, Der, Cer}
use Rattle.yasna_base.specs.declared.tag.Tag.{Tag}
use Rattle.yasna_base.specs.declared.tag.PCBit.{PCBit}
use Rattle.yasna_base.specs.declared.tag.PCBit.TheVariants.{Primitive, Constructed}
use Rattle.yasna_base.specs.Digits.{IsBytes}
use Rattle.yasna_base.specs.Grammar.{Grammar, Members, TaggedGrammar}
use Rattle.yasna_base.specs.Identifier.{identifier}
use Rattle.yasna_base.specs.Length.{SpellsLength}

-- whether a mode accepts a definite length (X.690, 9.1 and 10.1)
abbrev pub TakesDefinite : BERMode → PCBit → Type 0
TakesDefinite Ber bit = Unit {0}
TakesDefinite Der bit = Unit {0}
TakesDefinite Cer Primitive = Unit {0}
TakesDefinite Cer Constructed = ⊥

-- whether a mode accepts an indefinite length, with two zeros after the contents (X.690, 8.1.3.6)
abbrev pub TakesIndefinite : BERMode → PCBit → Type 0
TakesIndefinite Ber Constructed = Unit {0}
TakesIndefinite Ber Primitive = ⊥
TakesIndefinite Der bit = ⊥
TakesIndefinite Cer Constructed = Unit {0}
TakesIndefinite Cer Primitive = ⊥

-- the two zeros
abbrev pub end_of_contents : List ℕ
end_of_contents = 0 ∷ 0 ∷ []

-- b is identifier, length, and the contents c
pub record Definite (m : BERMode) (t : Tag) (bit : PCBit) (c b : List ℕ) : Type 0 where
  pub taken : TakesDefinite m bit
  pub l : List ℕ
  pub spelled : SpellsLength m (length c) l
  pub joined : b ≡ identifier t bit ++ (l ++ c)

-- b is identifier, 128, the contents c, and two zeros
pub record Indefinite (m : BERMode) (t : Tag) (bit : PCBit) (c b : List ℕ) : Type 0 where
  pub taken : TakesIndefinite m bit
  pub joined : b ≡ identifier t bit ++ (128 ∷ (c ++ end_of_contents))

-- b is one or the other
pub data Framed (m : BERMode) (t : Tag) (bit : PCBit) (c b : List ℕ) : Type 0 where
  definite : Definite m t bit c b → Framed m t bit c b
  indefinite : Indefinite m t bit c b → Framed m t bit c b

-- b is an element with this tag, this bit and the contents c: a tag number of 64 bits, and contents that are bytes
pub record Element (m : BERMode) (t : Tag) (bit : PCBit) (c b : List ℕ) : Type 0 where
  pub in_range : t.tag_number < 2 ^ 64
  pub in_bytes : IsBytes c
  pub framed : Framed m t bit c b

-- within n levels, b is a primitive element whose contents say v by W
pub record IsPrimitive {A : Type 0} (W : A → List ℕ → Type 0) (t : Tag) (m : BERMode) (n : ℕ) (v : A) (b : List ℕ) : Type 0 where
  pub level : 1 ≤ n
  pub contents : List ℕ
  pub element : Element m t Primitive contents b
  pub meaning : W v contents

-- as `IsPrimitive`, where the meaning depends on the mode
abbrev pub Primitively : {A : Type 0} → (BERMode → A → List ℕ → Type 0) → TaggedGrammar A
Primitively W t m n v b = IsPrimitive (W m) t m n v b

-- b is a constructed element around contents that say v by C
pub record Around {A : Type 0} (m : BERMode) (t : Tag) (C : A → List ℕ → Type 0) (v : A) (b : List ℕ) : Type 0 where
  pub contents : List ℕ
  pub element : Element m t Constructed contents b
  pub meaning : C v contents

-- an element around contents that say v by C with one level less
abbrev pub Enclosed : {A : Type 0} → Grammar A → Tag → Grammar A
Enclosed C t m zero v b = ⊥
Enclosed C t m (suc n) v b = Around m t (C m n) v b

-- an element around contents of some value
abbrev pub AnyEnclosed : Members → Tag → Members
AnyEnclosed S t m n b = Enclosed {A = Unit {0}} (λ m n u c. S m n c) t m n tt b
