-- What a test of an optional value says.
use Rattle.std.proofs.Common.{◌≡◌, ap, Bool, true, false, Option, Some, None}
use Rattle.std.specs.Prelude.{IfNone, IfSome, is_some, option_map}

pub if_none : {X : Type 0} (o : Option X) (A : Type 0) → A → IfNone o A
if_none None A a = a
if_none (Some x) A a = tt

pub by_some : {X A : Type 0} (o : Option X) (r : Bool) → r ≡ is_some o → r ≡ true → IfSome o (λ x. A) → A
by_some None r e t h = absurd (cc)
by_some (Some x) r e t h = h

pub by_none : {X A : Type 0} (o : Option X) (r : Bool) → r ≡ is_some o → r ≡ false → IfNone o A → A
by_none None r e f h = h
by_none (Some x) r e f h = absurd (cc)

pub map_some : {X Y : Type 0} (f : X → Y) (y : Y) (o : Option X) (r : Bool) → r ≡ is_some o → r ≡ true → IfSome o (λ x. f x ≡ y) → option_map f o ≡ Some y
map_some f y None r e t h = absurd (cc)
map_some f y (Some x) r e t h = ap Some h
