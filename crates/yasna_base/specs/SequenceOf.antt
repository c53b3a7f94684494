-- SEQUENCE OF: any number of elements of one type (X.690, 8.10).
use Rattle.std.specs.Prelude.{max, List, [], ◌∷◌, flat_map}
use Rattle.yasna_base.specs.declared.tag.Tag.{Tag}
use Rattle.yasna_base.specs.Element.{Enclosed, AnyEnclosed}
use Rattle.yasna_base.specs.Grammar.{Grammar, Members, Encoding, Depth}
use Rattle.yasna_base.specs.Pieces.{Pieces}

-- contents that encode these values by B, one after the other
abbrev pub ElementsOf : {A : Type 0} → Grammar A → Grammar (List A)
ElementsOf B m n vs c = Pieces (B m n) vs c

-- contents that encode some values, one after the other
abbrev pub AnyElements : Members → Members
AnyElements S m n c = (us : List (Unit {0})) × Pieces (λ u. S m n) us c

-- an element around them, with one level less inside
abbrev pub IsListOf : {A : Type 0} → Grammar A → Tag → Grammar (List A)
IsListOf B t = Enclosed (ElementsOf B) t

-- an element around contents that encode some values
abbrev pub AnyListOf : Members → Tag → Members
AnyListOf S t = AnyEnclosed (AnyElements S) t

-- the encodings of elements, one after the other
abbrev pub elements_encoding : {A : Type 0} → Encoding A → Encoding (List A)
elements_encoding encoding m vs = flat_map (encoding m) vs

-- the depth of elements is that of the deepest
abbrev pub elements_depth : {A : Type 0} → Depth A → Depth (List A)
elements_depth depth m [] = 0
elements_depth depth m (v ∷ vs) = max (depth m v) (elements_depth depth m vs)
