-- A SEQUENCE OF a CHOICE of INTEGER and NULL.
use Rattle.std.proofs.Common.{inl, inr}
use Rattle.std.specs.Prelude.{List, ℤ, Option, Some, None, ◌⊎◌}
use Rattle.std.specs.Int.{w64}
use Rattle.yasna.specs.Words.{EitherOf, AnyEither, Any, EncodesSigned, EncodesNull, sequence_tag, IsListOf, AnyListOf}
use Rattle.yasna.specs.Words.{Grammar, Members}

-- a number is an INTEGER, and `None` a NULL
abbrev pub as_either : Option ℤ → ℤ ⊎ Unit {0}
as_either (Some v) = inl v
as_either None = inr tt

-- the bytes encode the item
abbrev pub EncodesItem : Grammar (Option ℤ)
EncodesItem m n v b = EitherOf (EncodesSigned w64) EncodesNull m n (as_either v) b

-- the bytes encode some item
abbrev pub AnyItem : Members
AnyItem = AnyEither (Any (EncodesSigned w64)) (Any EncodesNull)

-- the bytes encode these items, in order
abbrev pub EncodesItems : Grammar (List (Option ℤ))
EncodesItems m n vs b = IsListOf EncodesItem sequence_tag m n vs b

-- the bytes encode some list of items
abbrev pub AnyItems : Members
AnyItems = AnyListOf AnyItem sequence_tag
