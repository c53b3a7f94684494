-- The types of what is said of the encodings of a type A.
use Rattle.std.specs.Prelude.{ℕ, List}
use Rattle.yasna_base.specs.declared.mode.BERMode.{BERMode}
use Rattle.yasna_base.specs.declared.tag.Tag.{Tag}

-- how deep elements may nest in an input
abbrev pub max_depth : ℕ
max_depth = 101

-- which bytes encode a value, in a mode within a number of levels
abbrev pub Grammar : Type 0 → Type 1
Grammar A = BERMode → ℕ → A → List ℕ → Type 0

-- which bytes encode some value
abbrev pub Members : Type 1
Members = BERMode → ℕ → List ℕ → Type 0

-- a grammar to which the tag is given, as under an IMPLICIT tag (X.690, 8.14.3)
abbrev pub TaggedGrammar : Type 0 → Type 1
TaggedGrammar A = Tag → Grammar A

abbrev pub TaggedMembers : Type 1
TaggedMembers = Tag → Members

-- the encoding of a value in each canonical mode
abbrev pub Encoding : Type 0 → Type 0
Encoding A = BERMode → A → List ℕ

-- the depth of that encoding
abbrev pub Depth : Type 0 → Type 0
Depth A = BERMode → A → ℕ
