-- What reads of a SET's elements do that may be omitted (X.690, 8.11.3 and 11.5).
use Rattle.std.specs.Fn.{Once, FnOnceTakesAtMut}
use Rattle.std.specs.Borrow.{MutBor}
use Rattle.std.specs.Prelude.{Bool, Err, List, None, Ok, Option, Result, Some, true, ◌≡◌, ◌⊎◌}
use Rattle.yasna_base.specs.declared.error.ASN1Error.{ASN1Error}
use Rattle.yasna_base.specs.declared.tag.Tag.{Tag}
use Rattle.yasna_reader.specs.Callback.{Hands, returned_of}
use Rattle.yasna_reader.specs.Optional.{UnlessDefault}
use Rattle.yasna_reader.specs.Parse.{ended}
use Rattle.yasna_reader.specs.Set.{SetReading}
use Rattle.yasna_reader.specs.SetChoice.{NoneIsAmong, TakesAmong}
use Rattle.yasna_reader.specs.State.{Reading, failing, untagged, Does}
use Rattle.yasna_reader.specs.declared.callback.Outcome.{Outcome}
use Rattle.yasna_reader.specs.declared.set.SetElement.{SetElement}

-- f may be called on the element that is taken, where one has one of the tags and no error is sticky
abbrev pub TakesChosen : {F R : Type 0} → Once F (MutBor Reading × Unit {0}) R → F → List Tag → SetReading → Type 0
TakesChosen g f ts c =
    c.reader.failed ≡ None → (l : List SetElement) (z : Reading) → TakesAmong ts c.list.items c.reader l z → FnOnceTakesAtMut g f z

-- an Err is sticky
abbrev pub failing_on_err : {A : Type 0} → Result A ASN1Error → Reading → Reading
failing_on_err (Ok v) s = s
failing_on_err (Err e) s = failing s e

-- a callback that does what Callback says is handed the reading of one element: it is to leave nothing, and what fails is sticky
pub record ReadsSingle {A : Type 0} (Callback : Does A) (s : Reading) (r : Result A ASN1Error) (s' : Reading) : Type 0 where
  pub outcome : Outcome A
  pub between : Reading
  pub hands : Hands Callback s outcome between
  pub returned : r ≡ ended (returned_of outcome) between.left
  pub state : s' ≡ failing_on_err r between

-- some value
abbrev pub some : {A : Type 0} → Result A ASN1Error → Result (Option A) ASN1Error
some (Ok v) = Ok (Some v)
some (Err e) = Err e

-- the first element that has one of the tags is taken out, and is read
pub record ReadsTaken {A : Type 0} (Callback : Does A) (ts : List Tag) (c : SetReading) (r : Result (Option A) ASN1Error) (c' : SetReading) : Type 0 where
  pub single : Reading
  pub takes : TakesAmong ts c.list.items c.reader c'.list.items single
  pub own : Result A ASN1Error
  pub reads : ReadsSingle Callback single own c'.reader
  pub returned : r ≡ some own

-- there is none
pub record ReadsNone {A : Type 0} (ts : List Tag) (c : SetReading) (r : Result (Option A) ASN1Error) (c' : SetReading) : Type 0 where
  pub none : NoneIsAmong ts c.list.items
  pub returned : r ≡ Ok None
  pub others : c'.list.items ≡ c.list.items
  pub state : c'.reader ≡ untagged c.reader

-- a sticky error comes first, and then nothing is taken
abbrev pub ReadsChosenBy : {A : Type 0} → Option ASN1Error → Does A → List Tag → SetReading → Result (Option A) ASN1Error → SetReading → Type 0
ReadsChosenBy (Some e) Callback ts c r c' = (r ≡ Err e) × (c'.list.items ≡ c.list.items) × (c'.reader ≡ untagged c.reader)
ReadsChosenBy None Callback ts c r c' = ReadsTaken Callback ts c r c' ⊎ ReadsNone ts c r c'

-- a read of an element that has one of the tags and may be omitted
pub record ReadsChosen {A : Type 0} (Callback : Does A) (ts : List Tag) (c : SetReading) (r : Result (Option A) ASN1Error) (c' : SetReading) : Type 0 where
  pub reads : ReadsChosenBy c.reader.failed Callback ts c r c'

-- the default d for None; a value, unless the mode rejects it: then an element was taken, so the error is sticky
abbrev pub DefaultsChosen : {A : Type 0} → (A → A → Bool) → A → Result (Option A) ASN1Error → Does A
DefaultsChosen eq d (Ok (Some v)) z r z' = UnlessDefault eq d v true z r z'
DefaultsChosen eq d (Ok None) z r z' = (r ≡ Ok d) × (z' ≡ z)
DefaultsChosen eq d (Err e) z r z' = (r ≡ Err e) × (z' ≡ z)

-- a read of an element that has one of the tags and may be omitted, with the default d for none
pub record ReadsChosenDefault {A : Type 0} (Callback : Does A) (eq : A → A → Bool) (d : A) (ts : List Tag)
    (c : SetReading) (r : Result A ASN1Error) (c' : SetReading) : Type 0 where
  pub own : Result (Option A) ASN1Error
  pub between : SetReading
  pub chosen : ReadsChosen Callback ts c own between
  pub others : c'.list.items ≡ between.list.items
  pub defaults : DefaultsChosen eq d own between.reader r c'.reader
