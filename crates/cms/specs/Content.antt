-- Contents that were kept as they came, with the two zeros where their length was indefinite.
use Rattle.std.specs.Prelude.{List, ℕ, ◌⊎◌}
use Rattle.yasna.specs.Words.{RawValue, own_encoding, Der, Cer}

-- S has the raw element, with the shortest length or with an indefinite one: its payload ends by the two zeros in that case
abbrev pub WithPayload : (List ℕ → Type 0) → RawValue → Type 0
WithPayload S x = S (own_encoding Der x) ⊎ S (own_encoding Cer x)
