-- What a read of a SEQUENCE OF does, whose elements a callback reads one by one (X.690, 8.10). Callback f s x f' m says that the
-- callback f, called on the reading s, returns x, becomes f' and leaves m.
use Rattle.std.specs.Borrow.{MutBor}
use Rattle.std.specs.Fn.{Mut, CalledAtMut}
use Rattle.std.specs.Global.{Global}
use Rattle.std.specs.Prelude.{Err, List, Ok, Result, Vec, [], length, ℕ, ◌++◌, ◌<◌, ◌∷◌, ◌≡◌, ◌⊎◌}
use Rattle.yasna_base.specs.Error.{error_of, kind_of}
use Rattle.yasna_base.specs.declared.error.ASN1Error.{ASN1Error}
use Rattle.yasna_base.specs.declared.error.ASN1ErrorKind.TheVariants.{Invalid, OutOfMemory}
use Rattle.yasna_reader.specs.Callback.{ComesTo, ConsumedNothing}
use Rattle.yasna_reader.specs.State.{Reading, failing, Does}
use Rattle.yasna_reader.specs.declared.callback.Outcome.{Outcome}
use Rattle.yasna_reader.specs.declared.callback.Outcome.TheVariants.{Matched, NoMatch, Failed}

-- f may be called on the reading s
abbrev pub TakesTurn : {F R : Type 0} → Mut F (MutBor Reading × Unit {0}) R → F → Reading → Type 0
TakesTurn g f s = (p : MutBor Reading) → p.now ≡ s → g.pre f (p, tt)

-- a value for which nothing was taken is Invalid, and that is sticky
pub record Idles {A : Type 0} (s : Reading) (x : Result A ASN1Error) (m : Reading) (e : ASN1Error) (s' : Reading) : Type 0 where
  pub value : A
  pub between : Reading
  pub comes : ComesTo s x m (Matched value) between
  pub consumed_nothing : ConsumedNothing s.left between
  pub invalid : e ≡ error_of Invalid
  pub state : s' ≡ failing between e

-- what a turn comes to whose callback returned x and left m: a value for which something was taken, a no-match Err, or a
-- sticky error
abbrev pub TurnsOut : {A : Type 0} → Reading → Result A ASN1Error → Reading → Outcome A → Reading → Type 0
TurnsOut s x m (Matched v) s' = ComesTo s x m (Matched v) s' × (length s'.left < length s.left)
TurnsOut s x m (NoMatch e) s' = ComesTo s x m (NoMatch e) s'
TurnsOut s x m (Failed e) s' = ComesTo s x m (Failed e) s' ⊎ Idles s x m e s'

-- a turn of f on the reading s
pub record ListTurn {F A : Type 0} (Callback : F → Reading → Result A ASN1Error → F → Reading → Type 0) (f : F) (s : Reading) (o : Outcome A) (f' : F)
    (s' : Reading) : Type 0 where
  pub own : Result A ASN1Error
  pub left : Reading
  pub called : Callback f s own f' left
  pub comes : TurnsOut s own left o s'

-- turns one after the other, each from where the one before left off, gave these values. Turn g s o g' s' says that a turn in
-- the state g, on the reading s, comes to o and leaves g' and s'
abbrev pub Turns : {G A : Type 0} → (G → Reading → Outcome A → G → Reading → Type 0) → G → Reading → List A → G → Reading → Type 0
Turns Turn g s [] g' s' = (g' ≡ g) × (s' ≡ s)
Turns {G} Turn g s (v ∷ vs) g' s' = (h : G) × (m : Reading) × Turn g s (Matched v) h m × Turns Turn h m vs g' s'

-- the callback f may be called wherever its turns reach: first on the reading s, then in the state and on the reading that the
-- turn before left
abbrev pub TakesTurns : {F A : Type 0} → Mut F (MutBor Reading × Unit {0}) (Result A ASN1Error × (MutBor Reading × Unit {0})) → F → Reading → Type 0
TakesTurns {F} {A} g f s =
    (h : F) (vs : List A) (prefix rest : List ℕ) → s.left ≡ prefix ++ rest → Turns (ListTurn (CalledAtMut g)) f s vs h (record s { left = rest }) →
    TakesTurn g h (record s { left = rest })

-- what is returned where the turn after these values came to that
abbrev pub EndsList : {A : Type 0} → List A → Outcome A → Result (List A) ASN1Error → Type 0
EndsList vs (Matched v) r = ⊥
EndsList vs (NoMatch e) r = r ≡ Ok vs
EndsList vs (Failed e) r = r ≡ Err e

-- turns from s on, up to one that has no match, which ends the list, or to an error, which is returned
pub record Lists {G A : Type 0} (Turn : G → Reading → Outcome A → G → Reading → Type 0) (g : G) (s : Reading) (r : Result (List A) ASN1Error)
    (s' : Reading) : Type 0 where
  pub values : List A
  pub reached : G
  pub place : Reading
  pub turns : Turns Turn g s values reached place
  pub last : Outcome A
  pub after : G
  pub turn : Turn reached place last after s'
  pub ends : EndsList values last r

-- there was no memory for the last of these values
pub record OutOfMemoryAtLast {G A : Type 0} (Turn : G → Reading → Outcome A → G → Reading → Type 0) (g : G) (s : Reading) (r : Result (List A) ASN1Error)
    (s' : Reading) : Type 0 where
  pub values : List A
  pub last : A
  pub reached : G
  pub place : Reading
  pub turns : Turns Turn g s (values ++ (last ∷ [])) reached place
  pub error : ASN1Error
  pub memory : kind_of error ≡ OutOfMemory
  pub returned : r ≡ Err error
  pub state : s' ≡ failing place error

-- what is seen of a vector that is returned
abbrev pub items_of : {A : Type 0} → Result (Vec A Global) ASN1Error → Result (List A) ASN1Error
items_of (Ok v) = Ok v.items
items_of (Err e) = Err e

-- contents are read into a vector by such turns
abbrev pub CollectsBy : {G A : Type 0} → (G → Reading → Outcome A → G → Reading → Type 0) → G → Does (Vec A Global)
CollectsBy Turn g s r s' = Lists Turn g s (items_of r) s' ⊎ OutOfMemoryAtLast Turn g s (items_of r) s'

-- the result where nothing is gathered
abbrev pub without_items : {A : Type 0} → Result (List A) ASN1Error → Result (Unit {0}) ASN1Error
without_items (Ok vs) = Ok tt
without_items (Err e) = Err e

-- contents are read by such turns, and nothing is returned of them
pub record VisitsBy {G A : Type 0} (Turn : G → Reading → Outcome A → G → Reading → Type 0) (g : G)
    (s : Reading) (r : Result (Unit {0}) ASN1Error) (s' : Reading) : Type 0 where
  pub items : Result (List A) ASN1Error
  pub lists : Lists Turn g s items s'
  pub returned : r ≡ without_items items

-- the elements are the callback's, in any order
abbrev pub Collects : {F A : Type 0} → (F → Reading → Result A ASN1Error → F → Reading → Type 0) → F → Does (Vec A Global)
Collects Callback f = CollectsBy (ListTurn Callback) f

-- what read_sequence_of does: its turns, for no vector
abbrev pub Visits : {F A : Type 0} → (F → Reading → Result A ASN1Error → F → Reading → Type 0) → F → Does (Unit {0})
Visits Callback f = VisitsBy (ListTurn Callback) f
