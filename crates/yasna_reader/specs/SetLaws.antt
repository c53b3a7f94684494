-- What holds of the elements that a SET's callback is handed, as the laws of this crate say it.
use Rattle.std.specs.Fn.{FnOnceReturnsAtMut}
use Rattle.std.specs.Global.{Global}
use Rattle.std.specs.List.{concat}
use Rattle.std.specs.Prelude.{Err, List, None, Ok, Result, [], map, ℕ, ◌++◌, ◌-◌, ◌≡◌, ◌↔◌}
use Rattle.std.specs.declared.collections.VecDeque.{VecDeque}
use Rattle.yasna_base.specs.Error.{kind_of}
use Rattle.yasna_base.specs.Element.{Element}
use Rattle.yasna_base.specs.Identifier.{AtEnd}
use Rattle.yasna_base.specs.Pieces.{Each}
use Rattle.yasna_base.specs.Raw.{RawValue, IsRaw}
use Rattle.yasna_base.specs.Set.{IsSet, SetElements}
use Rattle.yasna_base.specs.declared.error.ASN1Error.{ASN1Error}
use Rattle.yasna_base.specs.declared.error.ASN1ErrorKind.TheVariants.{OutOfMemory}
use Rattle.yasna_base.specs.declared.mode.BERMode.{BERMode}
use Rattle.yasna_base.specs.declared.tag.PCBit.TheVariants.{Constructed}
use Rattle.yasna_base.specs.declared.tag.Tag.{Tag}
use Rattle.yasna_reader.specs.Set.{SetCallback, SetReading}
use Rattle.yasna_reader.specs.SetList.{IsSetList}
use Rattle.yasna_reader.specs.State.{Reading, inside, Does}
use Rattle.yasna_reader.specs.declared.set.SetElement.{SetElement}

-- within n levels, x is an element of the raw value v: its tag, and bytes that encode it
pub record IsElementOf (n : ℕ) (m : BERMode) (x : SetElement) (v : RawValue) : Type 0 where
  pub tag : x.tag ≡ v.tag
  pub raw : IsRaw m n v x.bytes.now

-- two elements have one tag and the same bytes
pub record IsSameElement (x y : SetElement) : Type 0 where
  pub tag : x.tag ≡ y.tag
  pub bytes : x.bytes.now ≡ y.bytes.now

-- the bytes of elements, one after the other
abbrev pub elements_bytes : List SetElement → List ℕ
elements_bytes l = concat (map (λ (x : SetElement). x.bytes.now) l)

-- the elements l are the contents of a SET of the raw values vs, which are at the start of c, and y is the end after them
pub record ListsSet (n : ℕ) (m : BERMode) (l : List SetElement) (vs : List RawValue) (c y : List ℕ) : Type 0 where
  pub each : Each (IsElementOf n m) l vs
  pub contents : SetElements m n vs (elements_bytes l)
  pub joined : c ≡ elements_bytes l ++ y
  pub ends : AtEnd y

-- a callback is handed the contents of a SET, up to their end
abbrev pub ListsAreSets : Type 0
ListsAreSets = (n : ℕ) (m : BERMode) (l : List SetElement) (c y : List ℕ) → IsSetList n m l c y ↔ ((vs : List RawValue) × ListsSet n m l vs c y)

-- a callback is given the contents of every SET
abbrev pub SetsAreListed : Type 0
SetsAreListed = (n : ℕ) (m : BERMode) (vs : List RawValue) (b c y : List ℕ) → SetElements m n vs b → c ≡ b ++ y → AtEnd y →
    (l : List SetElement) × (elements_bytes l ≡ b) × ListsSet n m l vs c y

-- two lists of the elements of a SET are equal, with the same end
abbrev pub ListsAreOne : Type 0
ListsAreOne = (n : ℕ) (m : BERMode) (l k : List SetElement) (c y z : List ℕ) → IsSetList n m l c y → IsSetList n m k c z → Each IsSameElement l k × (y ≡ z)

-- f was run on the elements of the raw values vs, at the level inside a SET that s reads, and came to this
pub record RunOnValues {F A : Type 0} (g : SetCallback F A) (f : F)
    (s : Reading) (vs : List RawValue) : Type 0 where
  pub list : VecDeque SetElement Global
  pub each : Each (IsElementOf (s.levels - 1) s.mode) list.items vs
  pub own : Result A ASN1Error
  pub left : SetReading
  pub called : FnOnceReturnsAtMut g f (record { reader = inside s []; list = list }) own left

-- a callback that returned r and left this gave v: it took all elements, and no error was sticky
pub record MatchedOfAll {A : Type 0} (r : Result A ASN1Error) (left : SetReading) (v : A) : Type 0 where
  pub returned : r ≡ Ok v
  pub all : left.list.items ≡ []
  pub unfailed : left.reader.failed ≡ None

-- a SET of these values is at the start of s, f gave v from its elements, whose bytes are the contents of that SET, and
-- the rest is left
pub record TakesSet {F A : Type 0} (g : SetCallback F A) (f : F)
    (t : Tag) (s : Reading) (v : A) (s' : Reading) : Type 0 where
  pub values : List RawValue
  pub prefix : List ℕ
  pub rest : List ℕ
  pub joined : s.left ≡ prefix ++ rest
  pub set : IsSet t s.mode s.levels values prefix
  pub run : RunOnValues g f s values
  pub contents : Element s.mode t Constructed (elements_bytes run.list.items) prefix
  pub matched : MatchedOfAll run.own run.left v
  pub state : s' ≡ record s { left = rest; tag = None }

-- where a SET is at the start of s, f was run on its elements, whose bytes are its contents, and gave no value from them,
-- or e is of memory
abbrev pub RejectsSet : {F A : Type 0} → SetCallback F A → F →
    Tag → Reading → ASN1Error → Type 0
RejectsSet {F} {A} g f t s e = (vs : List RawValue) (prefix rest : List ℕ) → (kind_of e ≡ OutOfMemory → ⊥) → s.left ≡ prefix ++ rest →
    IsSet t s.mode s.levels vs prefix → (x : RunOnValues g f s vs) × Element s.mode t Constructed (elements_bytes x.list.items) prefix
    × ((v : A) → MatchedOfAll x.own x.left v → ⊥)

-- a read of a SET whose elements f takes
abbrev pub ReadsSet : {F A : Type 0} → SetCallback F A → F → Tag → Does A
ReadsSet g f t s (Ok v) s' = TakesSet g f t s v s'
ReadsSet g f t s (Err e) s' = RejectsSet g f t s e
