-- CHOICE of two types (X.690, 8.13): an encoding is one of either.
use Rattle.std.proofs.Common.{inl, inr}
use Rattle.std.specs.Prelude.{◌⊎◌}
use Rattle.yasna_base.specs.Exact.{Fitting}
use Rattle.yasna_base.specs.Grammar.{Grammar, Members, Encoding, Depth}

-- b encodes a value of the first type by B, or one of the second by C
abbrev pub EitherOf : {A V : Type 0} → Grammar A → Grammar V → Grammar (A ⊎ V)
EitherOf B C m n (inl v) b = B m n v b
EitherOf B C m n (inr w) b = C m n w b

-- b encodes some value of either type
abbrev pub AnyEither : Members → Members → Members
AnyEither S Q m n b = S m n b ⊎ Q m n b

-- only values of one of the types can be equal
abbrev pub SameEither : {A V : Type 0} → (A → A → Type 0) → (V → V → Type 0) → A ⊎ V → A ⊎ V → Type 0
SameEither E F (inl v) (inl w) = E v w
SameEither E F (inl v) (inr w) = ⊥
SameEither E F (inr v) (inl w) = ⊥
SameEither E F (inr v) (inr w) = F v w

-- the encoding of the value, as its own type writes it
abbrev pub either_encoding : {A V : Type 0} → Encoding A → Encoding V → Encoding (A ⊎ V)
either_encoding f g m (inl v) = f m v
either_encoding f g m (inr w) = g m w

abbrev pub either_depth : {A V : Type 0} → Depth A → Depth V → Depth (A ⊎ V)
either_depth f g m (inl v) = f m v
either_depth f g m (inr w) = g m w

-- a value of a CHOICE can be written where its own type says so
abbrev pub either_can : {A V : Type 0} → (A → Type 0) → (V → Type 0) → A ⊎ V → Type 0
either_can c d (inl v) = c v
either_can c d (inr w) = d w

abbrev pub either_fits : {A V : Type 0} → Fitting A → Fitting V → Fitting (A ⊎ V)
either_fits F G m n (inl v) = F m n v
either_fits F G m n (inr w) = G m n w
