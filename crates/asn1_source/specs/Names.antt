-- Names that differ from those before them.
use Rattle.std.specs.Prelude.{ℕ, Bool, List, map}
use Rattle.std.specs.Global.{Vec}
use Rattle.std.specs.List.{list_any}
use Rattle.std.specs.Str.{bytes_eq}

-- whether a name is among these
abbrev pub is_used : List (Vec ℕ) → List ℕ → Bool
is_used names name = list_any (λ (known : Vec ℕ). bytes_eq known.items name) names

-- the octets of names
abbrev pub octets_of : List (Vec ℕ) → List (List ℕ)
octets_of names = map (λ (known : Vec ℕ). known.items) names
