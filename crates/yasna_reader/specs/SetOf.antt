-- What a read of a SET OF does, whose elements ascend in DER and CER as byte strings (X.690, 8.12 and 11.6).
use Rattle.std.specs.Borrow.{Bor, MutBor}
use Rattle.std.specs.Fn.{Mut, CalledAtMut}
use Rattle.std.specs.Global.{Global}
use Rattle.std.specs.Ordering.{is_lt}
use Rattle.std.specs.Prelude.{Bool, List, None, Option, Result, Some, Vec, [], false, true, ℕ, ◌++◌, ◌≡◌, ◌⊎◌}
use Rattle.yasna_base.specs.Error.{error_of}
use Rattle.yasna_base.specs.Order.{octets_cmp}
use Rattle.yasna_base.specs.declared.error.ASN1Error.{ASN1Error}
use Rattle.yasna_base.specs.declared.error.ASN1ErrorKind.TheVariants.{Invalid}
use Rattle.yasna_base.specs.declared.mode.BERMode.{BERMode}
use Rattle.yasna_base.specs.declared.mode.BERMode.TheVariants.{Ber, Der, Cer}
use Rattle.yasna_reader.specs.Callback.{WithSome}
use Rattle.yasna_reader.specs.SequenceOf.{CollectsBy, ListTurn, TakesTurn, Turns, TurnsOut, VisitsBy}
use Rattle.yasna_reader.specs.State.{Reading, failing, Does}
use Rattle.yasna_reader.specs.declared.callback.Outcome.{Outcome}
use Rattle.yasna_reader.specs.declared.callback.Outcome.TheVariants.{Matched, NoMatch, Failed}
use Rattle.yasna_reader.specs.declared.set_of.Order.{Order}
use Rattle.yasna_reader.specs.declared.set_of.Order.TheVariants.{Any, Ascending}

-- whether the encoding b goes before a
abbrev pub goes_before : List ℕ → List ℕ → Bool
goes_before b a = is_lt (octets_cmp b a)

-- a list's callback, and where its elements are to ascend the bytes before which the next one may not go
pub record Bounded (F : Type 0) : Type 0 where
  pub callback : F
  pub bound : Option (List ℕ)

-- what is seen of a bound
abbrev pub bound_bytes : Option (Bor (List ℕ)) → Option (List ℕ)
bound_bytes None = None
bound_bytes (Some b) = Some b.now

-- where elements are to ascend, the first one is after no bytes
abbrev pub bound_in : Order → BERMode → Option (List ℕ)
bound_in Any m = None
bound_in Ascending Ber = None
bound_in Ascending Der = Some []
bound_in Ascending Cer = Some []

-- the element b goes before the bound
abbrev pub FallsBelow : Option (List ℕ) → List ℕ → Type 0
FallsBelow None b = ⊥
FallsBelow (Some a) b = goes_before b a ≡ true

-- it doesn't, and is the bound of the next one
abbrev pub Follows : Option (List ℕ) → List ℕ → Option (List ℕ) → Type 0
Follows None b n = n ≡ None
Follows (Some a) b n = (goes_before b a ≡ false) × (n ≡ Some b)

-- a turn returned a value, and consumed an element that isn't below the bound
pub record GivesInOrder {F A : Type 0} (Callback : F → Reading → Result A ASN1Error → F → Reading → Type 0) (g : Bounded F) (s : Reading) (v : A)
    (g' : Bounded F) (s' : Reading) : Type 0 where
  pub turn : ListTurn Callback g.callback s (Matched v) g'.callback s'
  pub element : List ℕ
  pub joined : s.left ≡ element ++ s'.left
  pub follows : Follows g.bound element g'.bound

-- one that may not is Invalid, and that is sticky
pub record Falls {F A : Type 0} (Callback : F → Reading → Result A ASN1Error → F → Reading → Type 0) (g : Bounded F) (s : Reading) (e : ASN1Error)
    (g' : Bounded F) (s' : Reading) : Type 0 where
  pub value : A
  pub between : Reading
  pub turn : ListTurn Callback g.callback s (Matched value) g'.callback between
  pub element : List ℕ
  pub joined : s.left ≡ element ++ between.left
  pub falls : FallsBelow g.bound element
  pub invalid : e ≡ error_of Invalid
  pub state : s' ≡ failing between e

-- why a turn of such a list fails: the callback's own turn does, or its element falls
pub data FailsInOrder {F A : Type 0} (Callback : F → Reading → Result A ASN1Error → F → Reading → Type 0) (g : Bounded F) (s : Reading) (e : ASN1Error)
    (g' : Bounded F) (s' : Reading) : Type 0 where
  failed : ListTurn Callback g.callback s (Failed e) g'.callback s' → FailsInOrder Callback g s e g' s'
  fell : Falls Callback g s e g' s' → FailsInOrder Callback g s e g' s'

-- a turn of a list whose elements ascend where there is a bound (X.690, 11.6), by what it comes to
abbrev pub TurnInOrder : {F A : Type 0} → (F → Reading → Result A ASN1Error → F → Reading → Type 0) → Bounded F → Reading → Outcome A → Bounded F →
    Reading → Type 0
TurnInOrder Callback g s (Matched v) g' s' = GivesInOrder Callback g s v g' s'
TurnInOrder Callback g s (NoMatch e) g' s' = ListTurn Callback g.callback s (NoMatch e) g'.callback s'
TurnInOrder Callback g s (Failed e) g' s' = FailsInOrder Callback g s e g' s'

-- as `TakesTurns`, of a list whose elements are in that order: no turn comes after an element that is out of order
abbrev pub TakesTurnsInOrder : {F A : Type 0} → Order → Mut F (MutBor Reading × Unit {0}) (Result A ASN1Error × (MutBor Reading × Unit {0})) → F →
    Reading → Type 0
TakesTurnsInOrder {F} {A} o g f s =
    (h : Bounded F) (vs : List A) (prefix rest : List ℕ) → s.left ≡ prefix ++ rest →
    Turns (TurnInOrder (CalledAtMut g)) (record { callback = f; bound = bound_in o s.mode }) s vs h (record s { left = rest }) →
    TakesTurn g h.callback (record s { left = rest })

-- what is made of a turn that came to o, began with the bytes c and left s, where the bound is a
abbrev pub Ordered : {A : Type 0} → Option (List ℕ) → List ℕ → Outcome A → Reading → Outcome A → Option (List ℕ) → Reading → Type 0
Ordered a c (Matched v) s o n s' = (b : List ℕ) × (c ≡ b ++ s.left) ×
    ((Follows a b n × (o ≡ Matched v) × (s' ≡ s)) ⊎ (FallsBelow a b × (o ≡ Failed (error_of Invalid)) × (s' ≡ failing s (error_of Invalid))))
Ordered a c (NoMatch e) s o n s' = (o ≡ NoMatch e) × (s' ≡ s)
Ordered a c (Failed e) s o n s' = (o ≡ Failed e) × (s' ≡ s)

-- what a turn came to whose callback was handed s, returned x and left m, where the bound is a: what its callback did, and what is
-- made of that
pub record TurnsOutInOrder {A : Type 0} (a : Option (List ℕ)) (s : Reading) (x : Result A ASN1Error) (m : Reading) (o : Outcome (Unit {0}))
    (n : Option (List ℕ)) (s' : Reading) :
    Type 0 where
  pub outcome : Outcome (Unit {0})
  pub between : Reading
  pub turn : WithSome (λ q. TurnsOut s x m q between) outcome
  pub ordered : Ordered a s.left outcome between o n s'

-- the elements are the callback's, and ascend if the order requires it in the mode
abbrev pub CollectsInOrder : {F A : Type 0} → Order → (F → Reading → Result A ASN1Error → F → Reading → Type 0) → F → Does (Vec A Global)
CollectsInOrder o Callback f s = CollectsBy (TurnInOrder Callback) (record { callback = f; bound = bound_in o s.mode }) s

-- what read_set_of does: such turns, for no vector
abbrev pub VisitsInOrder : {F A : Type 0} → Order → (F → Reading → Result A ASN1Error → F → Reading → Type 0) → F → Does (Unit {0})
VisitsInOrder o Callback f s = VisitsBy (TurnInOrder Callback) (record { callback = f; bound = bound_in o s.mode }) s
