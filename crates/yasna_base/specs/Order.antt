-- The orders of tags and of encodings, and lists put in order.
use Rattle.std.specs.Prelude.{ℕ, List, [], ◌∷◌, if◌then◌else◌}
use Rattle.std.specs.Cmp.Lexicographic.{slice_cmp}
use Rattle.std.specs.declared.cmp.Ordering.{Ordering}
use Rattle.std.specs.Ordering.{nat_cmp, is_lt, ordering_then}
use Rattle.yasna_base.specs.declared.tag.Tag.{Tag}
use Rattle.yasna_base.specs.Identifier.{class_number}

-- tags go by class, then by number (X.680, 8.6)
abbrev pub tag_cmp : Tag → Tag → Ordering
tag_cmp t u = ordering_then (nat_cmp (class_number t.tag_class) (class_number u.tag_class)) (nat_cmp t.tag_number u.tag_number)

-- encodings are ordered by the first byte that differs; as they are prefix-free, zeros after the shorter one make no difference
-- (X.690, 11.6)
abbrev pub octets_cmp : List ℕ → List ℕ → Ordering
octets_cmp = slice_cmp nat_cmp

-- x before the first item that isn't below it
abbrev pub put_in : {X : Type 0} → (X → X → Ordering) → X → List X → List X
put_in R x [] = x ∷ []
put_in R x (y ∷ ys) = if is_lt (R y x) then (y ∷ put_in R x ys) else (x ∷ (y ∷ ys))

-- the items in ascending order, those that tie as they were
abbrev pub in_order : {X : Type 0} → (X → X → Ordering) → List X → List X
in_order R [] = []
in_order R (x ∷ xs) = put_in R x (in_order R xs)
