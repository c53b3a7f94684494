-- What becomes of a reading that a callback is handed.
use Rattle.std.specs.Prelude.{Err, List, None, Ok, Option, Result, Some, length, ℕ, ◌≡◌, ◌⊎◌}
use Rattle.yasna_base.specs.Error.{error_of, kind_of}
use Rattle.yasna_base.specs.declared.error.ASN1Error.{ASN1Error}
use Rattle.yasna_base.specs.declared.error.ASN1ErrorKind.TheVariants.{Invalid}
use Rattle.yasna_bytes.specs.Rejection.{BlamesBytes}
use Rattle.yasna_reader.specs.Sequence.{IsBefore, place_in}
use Rattle.yasna_reader.specs.State.{Reading, failing, Does}
use Rattle.yasna_bytes.specs.declared.bytes.cursor.Cursor.{Cursor}
use Rattle.yasna_reader.specs.declared.callback.Outcome.{Outcome}
use Rattle.yasna_reader.specs.declared.callback.Outcome.TheVariants.{Matched, NoMatch, Failed}

-- s, as far on as the callback is that left m, with no implicit tag and no failure
abbrev pub advanced_as : Reading → Reading → Reading
advanced_as s m = record s { left = place_in s.left m.left; tag = None; failed = None }

-- the callback left the place where it began, with the bytes c left
abbrev pub ConsumedNothing : List ℕ → Reading → Type 0
ConsumedNothing c m = length m.left ≡ length c

-- Why e is sticky after a callback that was handed the bytes c, returned x and left m: it was sticky in m; or m's place is before
-- the old one; or it is the callback's own Err, which consumed input, or is `StackOverflow` or `OutOfMemory`
pub data ErrorCause {A : Type 0} (c : List ℕ) (x : Result A ASN1Error) (m : Reading) (e : ASN1Error) : Type 0 where
  sticky : m.failed ≡ Some e → ErrorCause c x m e
  before : m.failed ≡ None → IsBefore c m.left → e ≡ error_of Invalid → ErrorCause c x m e
  own : m.failed ≡ None → (IsBefore c m.left → ⊥) → x ≡ Err e → (ConsumedNothing c m → BlamesBytes (kind_of e) → ⊥) → ErrorCause c x m e

-- whether the reading can't go on after a callback that was handed s and left m, whatever it returned: an error was sticky, or the
-- place is before the old one, which is sticky
abbrev pub Barred : Reading → Reading → Option ASN1Error → Reading → Type 0
Barred s m None s' = (m.failed ≡ None) × (IsBefore s.left m.left → ⊥) × (s' ≡ m)
Barred s m (Some e) s' = ((m.failed ≡ Some e) ⊎ ((m.failed ≡ None) × IsBefore s.left m.left × (e ≡ error_of Invalid))) × (s' ≡ failing (advanced_as s m) e)

-- The outcome of a callback that was handed s, returned x and left m, and the reading that is left. It is a value; or no match, if
-- its Err consumed nothing, is neither `StackOverflow` nor `OutOfMemory`, and left no sticky error; or an error, which is sticky
abbrev pub ComesTo : {A : Type 0} → Reading → Result A ASN1Error → Reading → Outcome A → Reading → Type 0
ComesTo s x m (Matched v) s' = (m.failed ≡ None) × (IsBefore s.left m.left → ⊥) × (x ≡ Ok v) × (s' ≡ advanced_as s m)
ComesTo s x m (NoMatch e) s' = (m.failed ≡ None) × ConsumedNothing s.left m × BlamesBytes (kind_of e) × (x ≡ Err e) × (s' ≡ advanced_as s m)
ComesTo s x m (Failed e) s' = ErrorCause s.left x m e × (s' ≡ failing (advanced_as s m) e)

-- the error for which there is no going on after a callback that was lent s and left m, whatever it returned
abbrev pub BarredBy : Reading → Reading → Option ASN1Error → Type 0
BarredBy s m None = (m.failed ≡ None) × (IsBefore s.left m.left → ⊥)
BarredBy s m (Some e) = (m.failed ≡ Some e) ⊎ ((m.failed ≡ None) × IsBefore s.left m.left × (e ≡ error_of Invalid))

-- As `ComesTo`, of a callback that was lent a copy of s: where it has no match, s stays as it was
abbrev pub Regains : {A : Type 0} → Result A ASN1Error → Reading → Reading → Outcome A → Reading → Type 0
Regains x m s (Matched v) s' = ComesTo s x m (Matched v) s'
Regains x m s (NoMatch e) s' = ComesTo s x m (NoMatch e) (advanced_as s m) × (s' ≡ s)
Regains x m s (Failed e) s' = ComesTo s x m (Failed e) s'

-- what is asked of an outcome is so of a callback's, with some value if it returned one
abbrev pub WithSome : {A : Type 0} → (Outcome A → Type 0) → Outcome (Unit {0}) → Type 0
WithSome {A} Holds (Matched u) = (v : A) × Holds (Matched v)
WithSome Holds (NoMatch e) = Holds (NoMatch e)
WithSome Holds (Failed e) = Holds (Failed e)

-- a callback that does what Callback says was handed s and has the outcome o
pub record Hands {A : Type 0} (Callback : Does A) (s : Reading) (o : Outcome A) (s' : Reading) : Type 0 where
  pub own : Result A ASN1Error
  pub left : Reading
  pub obeys : Callback s own left
  pub comes : ComesTo s own left o s'

-- what is left of the reading s, of which a callback that came to o left z: where it has no match, the reading as it was
abbrev pub left_by : {A : Type 0} → Outcome A → Reading → Reading → Reading
left_by (Matched v) s z = z
left_by (NoMatch e) s z = s
left_by (Failed e) s z = z

-- a callback that does what Callback says was handed z in place of the reading s, and came to o
pub record Lent {A : Type 0} (Callback : Does A) (z s : Reading) (o : Outcome A) (s' : Reading) : Type 0 where
  pub between : Reading
  pub hands : Hands Callback z o between
  pub state : s' ≡ left_by o s between

-- a call around a callback hands its result on, a sticky error first
abbrev pub returned_of : {A : Type 0} → Outcome A → Result A ASN1Error
returned_of (Matched v) = Ok v
returned_of (NoMatch e) = Err e
returned_of (Failed e) = Err e

-- the reading that begins at a cursor
abbrev pub at_cursor : Cursor → Reading
at_cursor c = record { left = c.left.now; mode = c.mode; levels = c.levels; tag = None; failed = None }

-- a sticky error
abbrev pub FailsAs : {A : Type 0} → ASN1Error → Reading → Outcome A → Reading → Type 0
FailsAs e s o s' = (o ≡ Failed e) × (s' ≡ failing s e)
