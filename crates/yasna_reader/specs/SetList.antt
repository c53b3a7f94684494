-- What is listed of a SET before its callback is called (X.690, 8.11): its elements, in the order that the mode requires (9.3 and 10.3).
use Rattle.std.specs.Borrow.{Bor}
use Rattle.std.specs.Global.{Global}
use Rattle.std.specs.List.Sorted.{IsSortedByKey}
use Rattle.std.specs.Prelude.{Err, List, Ok, Result, Vec, ℕ, ◌++◌, ◌≡◌, ◌⊎◌}
use Rattle.std.specs.declared.collections.VecDeque.{VecDeque}
use Rattle.yasna_base.specs.Identifier.{AtEnd}
use Rattle.yasna_base.specs.Order.{tag_cmp}
use Rattle.yasna_base.specs.Pieces.{Pieces}
use Rattle.yasna_base.specs.Raw.{RawValue, IsRaw}
use Rattle.yasna_base.specs.declared.error.ASN1ErrorKind.{ASN1ErrorKind}
use Rattle.yasna_base.specs.declared.error.ASN1ErrorKind.TheVariants.{Invalid, OutOfMemory, StackOverflow}
use Rattle.yasna_base.specs.declared.mode.BERMode.{BERMode}
use Rattle.yasna_base.specs.declared.mode.BERMode.TheVariants.{Ber, Der, Cer}
use Rattle.yasna_bytes.specs.Prefix.{HasPrefix}
use Rattle.yasna_bytes.specs.Walk.{MeetsDeep}
use Rattle.yasna_reader.specs.declared.set.SetElement.{SetElement}
use Rattle.yasna_reader.specs.declared.set.Unlisted.{Unlisted}

-- within n levels, b is a raw element, and x what was listed of it: its tag and these very bytes
pub record IsListed (n : ℕ) (m : BERMode) (x : SetElement) (b : List ℕ) : Type 0 where
  pub value : RawValue
  pub raw : IsRaw m n value b
  pub tag : x.tag ≡ value.tag
  pub bytes : x.bytes.now ≡ b

-- these elements are at the start of c, one after the other, and y after them
pub record Listed (n : ℕ) (m : BERMode) (l : List SetElement) (c y : List ℕ) : Type 0 where
  pub prefix : List ℕ
  pub elements : Pieces (IsListed n m) l prefix
  pub joined : c ≡ prefix ++ y

-- the order that a mode requires of the tags in a SET, of which some may be equal
abbrev pub ElementsAreInSetOrder : BERMode → List SetElement → Type 0
ElementsAreInSetOrder Ber l = Unit {0}
ElementsAreInSetOrder Der l = IsSortedByKey (λ (x : SetElement). x.tag) tag_cmp l
ElementsAreInSetOrder Cer l = IsSortedByKey (λ (x : SetElement). x.tag) tag_cmp l

-- raw elements are from c on up to an end, and y is there
pub record ListsAll (n : ℕ) (m : BERMode) (l : List SetElement) (c y : List ℕ) : Type 0 where
  pub listed : Listed n m l c y
  pub ends : AtEnd y

-- Why elements weren't listed: some bytes before an end are none, or lie too deep, or there was no memory for the list, which
-- is asked for only where an element is there
pub record NotListed (n : ℕ) (m : BERMode) (c : List ℕ) (k : ASN1ErrorKind) : Type 0 where
  pub none : (k ≡ OutOfMemory → ⊥) → (l : List SetElement) (y : List ℕ) → ListsAll n m l c y → ⊥
  pub too_deep : k ≡ StackOverflow → MeetsDeep n m c
  pub deep : (k ≡ OutOfMemory → ⊥) → MeetsDeep n m c → k ≡ StackOverflow
  pub memory : k ≡ OutOfMemory → HasPrefix (IsRaw m n) c

-- what listing elements returns, by its case
abbrev pub ElementsAt : ℕ → BERMode → List ℕ → Result (Vec SetElement Global × Bor (List ℕ)) Unlisted → Type 0
ElementsAt n m c (Ok x) = ListsAll n m x.0.items c x.1.now
ElementsAt n m c (Err u) = NotListed n m c u.kind

-- the elements that a SET's callback is handed: all of them, in the order that the mode requires
pub record IsSetList (n : ℕ) (m : BERMode) (l : List SetElement) (c y : List ℕ) : Type 0 where
  pub all : ListsAll n m l c y
  pub order : ElementsAreInSetOrder m l

-- the elements are there, and their tags aren't in that order
pub record IsDisordered (n : ℕ) (m : BERMode) (c : List ℕ) : Type 0 where
  pub list : List SetElement
  pub rest : List ℕ
  pub all : ListsAll n m list c rest
  pub disorder : ElementsAreInSetOrder m list → ⊥

-- why a callback isn't run
abbrev pub NotSetList : ℕ → BERMode → List ℕ → ASN1ErrorKind → Type 0
NotSetList n m c k = NotListed n m c k ⊎ (IsDisordered n m c × (k ≡ Invalid))

-- what listing those of a SET returns, by its case
abbrev pub SetListAt : ℕ → BERMode → List ℕ → Result (VecDeque SetElement Global × Bor (List ℕ)) Unlisted → Type 0
SetListAt n m c (Ok x) = IsSetList n m x.0.items c x.1.now
SetListAt n m c (Err u) = NotSetList n m c u.kind
