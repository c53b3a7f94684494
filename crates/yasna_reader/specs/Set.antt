-- What a read of a SET does, whose elements a callback takes by their tags (X.690, 8.11 and 10.3).
use Rattle.std.specs.Borrow.{MutBor}
use Rattle.std.specs.Fn.{Once, FnOnceTakesAtMut, FnOnceReturnsAtMut}
use Rattle.std.specs.Global.{Global}
use Rattle.std.specs.Prelude.{Err, List, None, Ok, Result, [], ℕ, ◌∷◌, ◌≡◌, ◌⊎◌}
use Rattle.std.specs.declared.collections.VecDeque.{VecDeque}
use Rattle.yasna_base.specs.Error.{error_of}
use Rattle.yasna_base.specs.declared.error.ASN1Error.{ASN1Error}
use Rattle.yasna_base.specs.declared.error.ASN1ErrorKind.{ASN1ErrorKind}
use Rattle.yasna_base.specs.declared.error.ASN1ErrorKind.TheVariants.{Invalid}
use Rattle.yasna_reader.specs.State.{Reading, failing, Does}
use Rattle.yasna_reader.specs.declared.set.Chosen.{Chosen}
use Rattle.yasna_reader.specs.declared.set.SetElement.{SetElement}
use Rattle.yasna_reader.specs.SetList.{IsSetList, NotSetList}

-- the reading of a SET: that of one element after the other, and the elements that are left
abbrev pub SetReading : Type 0
SetReading = Chosen Reading (VecDeque SetElement Global)

-- what is known of a callback that takes the elements of a SET: where it may be called, and what it returns and leaves
abbrev pub SetCallback : Type 0 → Type 0 → Type 1
SetCallback F A = Once F (MutBor SetReading × Unit {0}) (Result A ASN1Error × (MutBor SetReading × Unit {0}))

-- the reading that is handed to a callback with the list, which has none of the elements yet
abbrev pub emptied : Reading → Reading
emptied s = record s { left = []; tag = None; failed = None }

-- f may be called on the elements that are in the contents s
abbrev pub TakesElements : {F R : Type 0} → Once F (MutBor SetReading × Unit {0}) R → F → Reading → Type 0
TakesElements g f s = (l : VecDeque SetElement Global) (y : List ℕ) → IsSetList s.levels s.mode l.items s.left y →
    FnOnceTakesAtMut g f (record { reader = emptied s; list = l })

-- a callback has to take all elements
abbrev pub all_taken : {A : Type 0} → Result A ASN1Error → List SetElement → Result A ASN1Error
all_taken (Err e) l = Err e
all_taken (Ok v) [] = Ok v
all_taken (Ok v) (x ∷ l) = Err (error_of Invalid)

-- the elements that a callback is handed of the contents s: all that are there up to an end, in the order that the mode
-- asks (X.690, 9.3 and 10.3)
pub record FoundSet (s : Reading) : Type 0 where
  pub list : VecDeque SetElement Global
  pub rest : List ℕ
  pub lists : IsSetList s.levels s.mode list.items s.left rest

-- the callback f was called on this, returned its own result, and left that
pub record CalledOnSet {F A : Type 0} (g : SetCallback F A) (f : F) (handed : SetReading) : Type 0 where
  pub own : Result A ASN1Error
  pub left : SetReading
  pub called : FnOnceReturnsAtMut g f handed own left

-- the callback ran on the elements of the contents s (X.690, 8.11)
pub record RanOnSet {F A : Type 0} (g : SetCallback F A) (f : F) (s : Reading) (r : Result A ASN1Error) (s' : Reading) : Type 0 where
  -- the elements are there
  pub found : FoundSet s
  -- it was handed them, none of which is being read
  pub run : CalledOnSet g f (record { reader = emptied s; list = found.list })
  -- it has to take all of them
  pub returned : r ≡ all_taken run.own run.left.list.items
  -- what is after them is left, and its sticky error stays
  pub state : s' ≡ record s { left = found.rest; failed = run.left.reader.failed }

-- it didn't
pub record NotRunOnSet {A : Type 0} (s : Reading) (r : Result A ASN1Error) (s' : Reading) : Type 0 where
  pub kind : ASN1ErrorKind
  pub why : NotSetList s.levels s.mode s.left kind
  pub returned : r ≡ Err (error_of kind)
  pub state : s' ≡ failing s (error_of kind)

-- the contents of a SET are listed, and the callback is run on the list
abbrev pub RunsOnSet : {F A : Type 0} → SetCallback F A → F → Does A
RunsOnSet g f s r s' = RanOnSet g f s r s' ⊎ NotRunOnSet s r s'
