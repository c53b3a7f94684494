-- What a read of a constructed element does, whose contents a callback reads.
use Rattle.std.specs.Borrow.{Bor, MutBor}
use Rattle.std.specs.Fn.{Once, FnOnceTakesAtMut, FnOnceReturnsAtMut}
use Rattle.std.specs.Prelude.{Err, List, None, Ok, Option, Result, Some, drop, length, ℕ, ◌-◌, ◌<◌, ◌≡◌, ◌≤◌, ◌⊎◌}
use Rattle.yasna_base.specs.Error.{error_of, kind_of}
use Rattle.yasna_base.specs.declared.error.ASN1Error.{ASN1Error}
use Rattle.yasna_base.specs.declared.error.ASN1ErrorKind.{ASN1ErrorKind}
use Rattle.yasna_base.specs.declared.tag.PCBit.TheVariants.{Constructed}
use Rattle.yasna_base.specs.declared.tag.Tag.{Tag}
use Rattle.yasna_base.specs.Header.{ContentsEnd, OpensAt}
use Rattle.yasna_bytes.specs.Header.{OnlyConstructed, RejectsHeader, EndsBefore, NoEnd}
use Rattle.yasna_bytes.specs.Opening.{Opening}
use Rattle.yasna_bytes.specs.Rejection.{BlamesBytes}
use Rattle.yasna_reader.specs.State.{Reading, UnlessFailed, failing, inside, rejecting, tag_of, untagged, Does}
use Rattle.yasna_bytes.specs.declared.bytes.header.Rejection.{Rejection}
use Rattle.yasna_reader.specs.declared.state.PartsReader.{PartsReader}

-- Accepts says yes of the reading of the contents of an element with the tag, where one is at the start, no error is sticky and
-- a level is left
abbrev pub TakesContents : (Reading → Type 0) → Tag → Reading → Type 0
TakesContents Accepts tag s =
    (c : List ℕ) (end : ContentsEnd) → s.failed ≡ None → 1 ≤ s.levels → OpensAt s.mode (tag_of s tag) Constructed s.left c end → Accepts (inside s c)

-- f may be called on the parts of such an element
abbrev pub TakesParts : {F R : Type 0} → Once F (MutBor (PartsReader Reading) × Unit {0}) R → F → Tag → Reading → Type 0
TakesParts g f tag s = TakesContents (λ z. FnOnceTakesAtMut g f (record { reader = z })) tag s

-- f runs on the reading s, returns r and leaves s'
abbrev pub Runs : {F A : Type 0} → Once F (MutBor (PartsReader Reading) × Unit {0}) (Result A ASN1Error × (MutBor (PartsReader Reading) × Unit {0})) → F → Does A
Runs g f s r s' = FnOnceReturnsAtMut g f (record { reader = s }) r (record { reader = s' })

-- the place that a callback left, as far from the end of the contents c as what it left is long
abbrev pub place_in : List ℕ → List ℕ → List ℕ
place_in c y = drop (length c - length y) c

-- the callback left a place that isn't the old one or further on
abbrev pub IsBefore : List ℕ → List ℕ → Type 0
IsBefore c y = length c < length y

-- an Err of a reading that consumed input
pub record Fails {A : Type 0} (e : ASN1Error) (s : Reading) (r : Result A ASN1Error) (s' : Reading) : Type 0 where
  pub returned : r ≡ Err e
  pub state : s' ≡ failing s e

-- contents end where a callback left n bytes of them, and r follows the element, or they don't end there
abbrev pub ClosesFrom : ContentsEnd → List ℕ → ℕ → Result (Bor (List ℕ)) ASN1ErrorKind → Type 0
ClosesFrom end c n (Ok r) = (n ≤ length c) × EndsBefore end (drop (length c - n) c) r.now
ClosesFrom end c n (Err k) = BlamesBytes k × ((length c < n) ⊎ NoEnd end (drop (length c - n) c))

-- contents end where the callback left them, and the rest is left
pub record Closes {A : Type 0} (end : ContentsEnd) (c y : List ℕ) (v : A) (s : Reading) (r : Result A ASN1Error) (s' : Reading) : Type 0 where
  pub rest : List ℕ
  pub forward : IsBefore c y → ⊥
  pub ends : EndsBefore end (place_in c y) rest
  pub returned : r ≡ Ok v
  pub state : s' ≡ record s { left = rest }

-- contents don't end where the callback left them
pub record StaysOpen {A : Type 0} (end : ContentsEnd) (c y : List ℕ) (s : Reading) (r : Result A ASN1Error) (s' : Reading) : Type 0 where
  pub error : ASN1Error
  pub blames_bytes : BlamesBytes (kind_of error)
  pub no_end : IsBefore c y ⊎ NoEnd end (place_in c y)
  pub fails : Fails error s r s'

-- the result after a callback: first the sticky error of its reading, then its own Err, then whether the contents end
abbrev pub Left : {A : Type 0} → ContentsEnd → List ℕ → Option ASN1Error → List ℕ → Result A ASN1Error → Does A
Left end c (Some e) y x s r s' = Fails e s r s'
Left end c None y (Err e) s r s' = Fails e s r s'
Left end c None y (Ok v) s r s' = Closes end c y v s r s' ⊎ StaysOpen end c y s r s'

-- what is returned where a callback returned x and its element was left so
abbrev pub after_leaving : {A : Type 0} → Result A ASN1Error → Result (Unit {0}) ASN1Error → Result A ASN1Error
after_leaving x (Ok u) = x
after_leaving x (Err e) = Err e

-- the header of a constructed element is there, and its contents were read as Callback says
pub record Entered {A : Type 0} (Callback : Does A) (t : Tag) (s : Reading) (r : Result A ASN1Error) (s' : Reading) : Type 0 where
  pub level : 1 ≤ s.levels
  pub contents : List ℕ
  pub end : ContentsEnd
  pub opens : OpensAt s.mode t Constructed s.left contents end
  pub own : Result A ASN1Error
  pub left : Reading
  pub obeys : Callback (inside s contents) own left
  pub closed : Left end contents left.failed left.left own (untagged s) r s'

-- no such header is there, and nothing was read of contents
pub record NotEntered {A : Type 0} (t : Tag) (s : Reading) (r : Result A ASN1Error) (s' : Reading) : Type 0 where
  pub rejection : Rejection
  pub rejects : RejectsHeader OnlyConstructed s.mode s.levels t s.left rejection
  pub returned : r ≡ Err (error_of rejection.kind)
  pub state : s' ≡ rejecting rejection.consumed s (error_of rejection.kind)

-- no error was sticky, the header of a constructed element with the tag is there, and z is the reading of its contents
pub record StepsIn (t : Tag) (s : Reading) (o : Opening) : Type 0 where
  pub unfailed : s.failed ≡ None
  pub level : 1 ≤ s.levels
  pub opens : OpensAt s.mode t Constructed s.left o.contents o.end

-- why there is no stepping in: an error was sticky, and nothing is consumed; or no such header is there
pub data StaysOut (t : Tag) (s : Reading) (e : ASN1Error) (s' : Reading) : Type 0 where
  sticky : s.failed ≡ Some e → s' ≡ s → StaysOut t s e s'
  rejected : s.failed ≡ None → NotEntered {A = Unit {0}} t s (Err e) s' → StaysOut t s e s'

-- what stepping into such an element returns, by its case
abbrev pub StepsAt : Tag → Reading → Result Opening ASN1Error → Reading → Type 0
StepsAt t s (Ok o) s' = StepsIn t s o × (s' ≡ s)
StepsAt t s (Err e) s' = StaysOut t s e s'

-- what such a read does where no error is sticky
abbrev pub EntersAt : {A : Type 0} → Does A → Tag → Does A
EntersAt Callback t s r s' = Entered Callback t s r s' ⊎ NotEntered t s r s'

-- a read of a constructed element whose contents are read as Callback says
pub record ReadsParts {A : Type 0} (Callback : Does A) (tag : Tag) (s : Reading) (r : Result A ASN1Error) (s' : Reading) : Type 0 where
  pub enters : UnlessFailed s.failed s r s' (EntersAt Callback (tag_of s tag) s r s')
