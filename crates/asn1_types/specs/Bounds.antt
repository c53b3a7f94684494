-- Notations that differ in bounds and sizes alone.
use Rattle.std.specs.Prelude.{◌≡◌, ℕ, Option}
use Rattle.std.specs.Global.{Box}
use Rattle.asn1_types.specs.declared.model.IntegerBounds.{IntegerBounds}
use Rattle.asn1_types.specs.declared.model.Notation.{Notation}
use Rattle.asn1_types.specs.declared.model.Notation.TheVariants as notations
use Rattle.asn1_types.specs.declared.model.Size.{Size}
use Rattle.asn1_types.specs.declared.model.TextKind.{TextKind}

-- the second notation is the first one, but for its bounds and sizes
pub data DiffersInBounds (n m : Notation) : Type 0 where
  same : m ≡ n → DiffersInBounds n m
  integer : {a b : IntegerBounds} {names : Option ℕ} → n ≡ notations.Integer a names → m ≡ notations.Integer b names → DiffersInBounds n m
  octet_string : {a b : Size} → n ≡ notations.OctetString a → m ≡ notations.OctetString b → DiffersInBounds n m
  bit_string : {a b : Size} → n ≡ notations.BitString a → m ≡ notations.BitString b → DiffersInBounds n m
  named_bits : {a b : Size} {names : Option ℕ} → n ≡ notations.NamedBits a names → m ≡ notations.NamedBits b names → DiffersInBounds n m
  text : {a b : Size} {kind : TextKind} → n ≡ notations.Text kind a → m ≡ notations.Text kind b → DiffersInBounds n m
  sequence_of : {a b : Size} {element : Box Notation} → n ≡ notations.SequenceOf element a → m ≡ notations.SequenceOf element b → DiffersInBounds n m
  set_of : {a b : Size} {element : Box Notation} → n ≡ notations.SetOf element a → m ≡ notations.SetOf element b → DiffersInBounds n m

-- the same after any number of constraints
pub data IsConstrained (n : Notation) : Notation → Type 0 where
  unconstrained : IsConstrained n n
  once_more : {m k : Notation} → IsConstrained n m → DiffersInBounds m k → IsConstrained n k
