-- OPTIONAL: a part of a SEQUENCE that may be omitted (X.690, 8.9.3).
use Rattle.std.specs.Prelude.{◌≡◌, [], Option, Some, None, ◌⊎◌}
use Rattle.yasna_base.specs.Grammar.{Grammar, Members, Encoding, Depth}

-- the part encodes a value, or it is omitted and there is none
abbrev pub OptionOf : {A : Type 0} → Grammar A → Grammar (Option A)
OptionOf B m n (Some v) b = B m n v b
OptionOf B m n None b = b ≡ []

-- the part encodes some value, or it is omitted
abbrev pub AnyOption : Members → Members
AnyOption S m n b = S m n b ⊎ (b ≡ [])

-- values are equal where both are there and equal, or neither is
abbrev pub SameOption : {A : Type 0} → (A → A → Type 0) → Option A → Option A → Type 0
SameOption E (Some v) (Some w) = E v w
SameOption E (Some v) None = ⊥
SameOption E None (Some w) = ⊥
SameOption E None None = Unit {0}

-- the encoding of the value, or nothing
abbrev pub option_encoding : {A : Type 0} → Encoding A → Encoding (Option A)
option_encoding f m (Some v) = f m v
option_encoding f m None = []

-- its depth; an omitted part has none
abbrev pub option_depth : {A : Type 0} → Depth A → Depth (Option A)
option_depth f m (Some v) = f m v
option_depth f m None = 0

-- what is omitted can always be written
abbrev pub option_can : {A : Type 0} → (A → Type 0) → Option A → Type 0
option_can c (Some v) = c v
option_can c None = Unit {0}
