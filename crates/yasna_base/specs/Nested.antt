-- A type that is a SEQUENCE OF itself: parts says which values are within a value.
use Rattle.std.specs.Prelude.{ℕ, zero, suc, List}
use Rattle.yasna_base.specs.Element.{Around}
use Rattle.yasna_base.specs.Grammar.{Grammar, Members}
use Rattle.yasna_base.specs.Pieces.{Each, Pieces}
use Rattle.yasna_base.specs.Sequence.{sequence_tag}

-- within n levels, b is a SEQUENCE of the values within v
abbrev pub IsNested : {U : Type 0} → (U → List U) → Grammar U
IsNested parts m zero v b = ⊥
IsNested parts m (suc n) v b = Around m sequence_tag (λ vs c. Pieces (IsNested parts m n) vs c) (parts v) b

-- within n levels, b is a SEQUENCE of the values within some value
abbrev pub AnyNested : Members
AnyNested m zero b = ⊥
AnyNested m (suc n) b = Around {A = Unit {0}} m sequence_tag (λ u c. (us : List (Unit {0})) × Pieces (λ w. AnyNested m n) us c) tt b

-- down to k levels, as many values are in the one as in the other
abbrev pub SameTo : {U : Type 0} → (U → List U) → ℕ → U → U → Type 0
SameTo parts zero v w = Unit {0}
SameTo parts (suc k) v w = Each (SameTo parts k) (parts v) (parts w)

-- values are equal where they are at any depth
abbrev pub SameNested : {U : Type 0} → (U → List U) → U → U → Type 0
SameNested parts v w = (k : ℕ) → SameTo parts k v w
