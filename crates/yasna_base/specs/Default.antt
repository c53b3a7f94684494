-- DEFAULT: a part of a SEQUENCE that is omitted where it is the default (X.690, 8.9.3 and 11.5).
use Rattle.std.specs.Prelude.{◌≡◌, ◌↔◌, [], Bool, true, false, ◌⊎◌, if◌then◌else◌}
use Rattle.yasna_base.specs.declared.mode.BERMode.{BERMode}
use Rattle.yasna_base.specs.declared.mode.BERMode.TheVariants.{Ber, Der, Cer}
use Rattle.yasna_base.specs.Exact.{Fitting}
use Rattle.yasna_base.specs.Grammar.{Grammar, Encoding, Depth}

-- whether a mode accepts a value that is its default
abbrev pub TakesDefault : BERMode → Type 0
TakesDefault Ber = Unit {0}
TakesDefault Der = ⊥
TakesDefault Cer = ⊥

-- is determines the values that equal the default d
abbrev pub DetectsDefault : {A : Type 0} → (A → A → Type 0) → (A → Bool) → A → Type 0
DetectsDefault {A} E is d = (v : A) → (is v ≡ true) ↔ E v d

-- the part encodes a value, which in a canonical mode isn't the default; or it is omitted, and the value is
abbrev pub DefaultOf : {A : Type 0} → (A → Bool) → Grammar A → Grammar A
DefaultOf is B m n v b = (B m n v b × (TakesDefault m ⊎ (is v ≡ false))) ⊎ ((b ≡ []) × (is v ≡ true))

-- the encoding of the value, or nothing where it is the default
abbrev pub default_encoding : {A : Type 0} → (A → Bool) → Encoding A → Encoding A
default_encoding is f m v = if is v then [] else (f m v)

-- its depth; an omitted part has none
abbrev pub default_depth : {A : Type 0} → (A → Bool) → Depth A → Depth A
default_depth is f m v = if is v then 0 else (f m v)

-- the default can always be written
abbrev pub default_can : {A : Type 0} → (A → Bool) → (A → Type 0) → A → Type 0
default_can is c v = is v ≡ false → c v

-- the default always has an encoding
abbrev pub default_fits : {A : Type 0} → (A → Bool) → Fitting A → Fitting A
default_fits is F m n v = is v ≡ false → F m n v
