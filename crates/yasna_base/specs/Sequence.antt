-- SEQUENCE of parts, each of a type of its own (X.690, 8.9).
use Rattle.std.specs.Prelude.{◌≡◌, ℕ, max, List, [], ◌++◌}
use Rattle.yasna_base.specs.declared.tag.Tag.{Tag}
use Rattle.yasna_base.specs.Grammar.{Grammar, Members, Encoding, Depth}
use Rattle.yasna_base.specs.Identifier.{universal}

-- the type's own tag
abbrev pub sequence_tag : Tag
sequence_tag = universal 16

-- c is what R says, and after it what C says
pub record Then (R C : List ℕ → Type 0) (c : List ℕ) : Type 0 where
  pub prefix : List ℕ
  pub rest : List ℕ
  pub joined : c ≡ prefix ++ rest
  pub here : R prefix
  pub more : C rest

-- the parts of a tuple, as pairs that end in nothing
abbrev pub PartOf : {A V : Type 0} → Grammar A → Grammar V → Grammar (A × V)
PartOf B C m n v c = Then (B m n v.0) (C m n v.1) c

-- after the last part there are no bytes
abbrev pub NoParts : Grammar (Unit {0})
NoParts m n v c = c ≡ []

-- a part of some value, and contents after it
abbrev pub AnyPart : Members → Members → Members
AnyPart S Q m n c = Then (S m n) (Q m n) c

-- no bytes, where there is no part
abbrev pub AnyNothing : Members
AnyNothing m n c = c ≡ []

-- parts are equal one by one
abbrev pub SamePart : {A V : Type 0} → (A → A → Type 0) → (V → V → Type 0) → A × V → A × V → Type 0
SamePart E F v w = E v.0 w.0 × F v.1 w.1

-- no parts are equal to no parts
abbrev pub SameNothing : Unit {0} → Unit {0} → Type 0
SameNothing v w = Unit {0}

-- the encodings of the parts, one after the other
abbrev pub part_encoding : {A V : Type 0} → Encoding A → Encoding V → Encoding (A × V)
part_encoding f g m v = f m v.0 ++ g m v.1

-- the depth of parts is that of the deepest
abbrev pub part_depth : {A V : Type 0} → Depth A → Depth V → Depth (A × V)
part_depth f g m v = max (f m v.0) (g m v.1)

-- parts can be written where each can
abbrev pub part_can : {A V : Type 0} → (A → Type 0) → (V → Type 0) → A × V → Type 0
part_can c d v = c v.0 × d v.1

-- no bytes are the encoding of no parts
abbrev pub nothing_encoding : Encoding (Unit {0})
nothing_encoding m v = []

-- no parts have depth 0
abbrev pub nothing_depth : Depth (Unit {0})
nothing_depth m v = 0
