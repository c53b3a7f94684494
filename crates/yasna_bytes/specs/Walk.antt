-- The walk over raw elements.
use Rattle.std.specs.Borrow.{Bor}
use Rattle.std.specs.Prelude.{◌≡◌, ◌↔◌, ◌⊎◌, ℕ, ◌^◌, ◌<◌, ◌≤◌, List, [], ◌∷◌, ◌++◌, Result, Ok, Err, false}
use Rattle.yasna_base.specs.Element.{TakesIndefinite}
use Rattle.yasna_base.specs.Header.{ContentsEnd, definite_end, indefinite_end, OpensAt}
use Rattle.yasna_base.specs.Identifier.{end_tag, StartsElement, AtEnd}
use Rattle.yasna_base.specs.Raw.{RawValue, DescendsInto, DescendsUpTo, IsRaw, JoiningBefore, IsDeepRaw, ContentsTo}
use Rattle.yasna_base.specs.declared.error.ASN1ErrorKind.{ASN1ErrorKind}
use Rattle.yasna_base.specs.declared.error.ASN1ErrorKind.TheVariants.{OutOfMemory, StackOverflow}
use Rattle.yasna_base.specs.declared.mode.BERMode.{BERMode}
use Rattle.yasna_base.specs.declared.tag.PCBit.{PCBit}
use Rattle.yasna_base.specs.declared.tag.Tag.{Tag}
use Rattle.yasna_bytes.specs.Prefix.{HasPrefix}
use Rattle.yasna_bytes.specs.Header.{AnyBit, HasHeader, NoEnd, EndsBefore}
use Rattle.yasna_bytes.specs.declared.bytes.header.Opened.{Opened}
use Rattle.yasna_bytes.specs.declared.bytes.header.Rejection.{Rejection}
use Rattle.yasna_bytes.specs.declared.bytes.walk.RawElement.{RawElement}
use Rattle.yasna_bytes.specs.declared.bytes.walk.Turn.{Turn}
use Rattle.yasna_bytes.specs.declared.bytes.walk.Turn.TheVariants.{Left, Passed, Entered}

-- the identifier of the end of contents begins so, primitive or constructed
abbrev pub IsEndByte : ℕ → Type 0
IsEndByte b = b ≡ 0 ⊎ b ≡ 32

-- no header of an element is at the start, but for a tag of the end of contents
abbrev pub NoHeader : BERMode → ℕ → List ℕ → Type 0
NoHeader m n s = (t : Tag) → t.tag_number < 2 ^ 64 → (t ≡ end_tag → ⊥) → HasHeader AnyBit m n t s → ⊥

-- an element is there that no level is left for
abbrev pub HasNoLevel : ℕ → List ℕ → Type 0
HasNoLevel n s = (n ≡ 0) × StartsElement s

-- why no header was read
pub record NotOpened (m : BERMode) (n : ℕ) (s : List ℕ) (e : Rejection) : Type 0 where
  pub none : NoHeader m n s
  pub consumed : e.consumed ≡ false ↔ AtEnd s
  pub deep : e.kind ≡ StackOverflow ↔ HasNoLevel n s
  pub no_memory : e.kind ≡ OutOfMemory → ⊥

-- the header of an element is at the start, and a level is left for it
pub record IsOpened (m : BERMode) (n : ℕ) (s : List ℕ) (t : Tag) (bit : PCBit) (c : List ℕ) (e : ContentsEnd) : Type 0 where
  pub level : 1 ≤ n
  pub not_end : t ≡ end_tag → ⊥
  pub opens : OpensAt m t bit s c e

-- what reading such a header returns, by its case
abbrev pub AnyOpenedAt : BERMode → ℕ → List ℕ → Result (Tag × Opened) Rejection → Type 0
AnyOpenedAt m n s (Ok x) = IsOpened m n s x.0 x.1.bit x.1.contents x.1.end
AnyOpenedAt m n s (Err e) = NotOpened m n s e

-- an element isn't descended into, and r follows it
pub record Passes (m : BERMode) (n : ℕ) (s r : List ℕ) : Type 0 where
  pub tag : Tag
  pub bit : PCBit
  pub contents : List ℕ
  pub opened : IsOpened m n s tag bit contents (definite_end r)
  pub closed : DescendsInto m bit → ⊥

-- an element is descended into, and c are its contents
pub record Enters (m : BERMode) (n : ℕ) (s c : List ℕ) (e : ContentsEnd) : Type 0 where
  pub tag : Tag
  pub bit : PCBit
  pub opened : IsOpened m n s tag bit c e
  pub descends : DescendsUpTo m bit e

-- neither the end of contents that end so is there nor an element
pub record Stops (m : BERMode) (n : ℕ) (e : ContentsEnd) (s : List ℕ) (k : ASN1ErrorKind) : Type 0 where
  pub no_end : NoEnd e s
  pub none : NoHeader m n s
  pub deep : k ≡ StackOverflow ↔ HasNoLevel n s
  pub no_memory : k ≡ OutOfMemory → ⊥

-- y is where contents end, and r are left of y after that, without what follows contents whose length is counted
abbrev pub EndsWithin : ContentsEnd → List ℕ → List ℕ → Type 0
EndsWithin (definite_end a) y r = (y ≡ []) × (r ≡ [])
EndsWithin indefinite_end y r = y ≡ 0 ∷ 0 ∷ r

-- the contents after a header are descended into, or the element is passed
abbrev pub TurnsTo : BERMode → Opened → Turn → Type 0
TurnsTo m o (Left a) = ⊥
TurnsTo m o (Passed a) = (o.end ≡ definite_end a.now) × (DescendsInto m o.bit → ⊥)
TurnsTo m o (Entered x) = (x ≡ o) × DescendsUpTo m x.bit x.end

-- what is at a place in contents that end so
abbrev pub TurnOf : BERMode → ℕ → ContentsEnd → List ℕ → Result Turn ASN1ErrorKind → Type 0
TurnOf m n e s (Ok (Left a)) = EndsWithin e s a.now
TurnOf m n e s (Ok (Passed a)) = Passes m n s a.now
TurnOf m n e s (Ok (Entered o)) = Enters m n s o.contents o.end
TurnOf m n e s (Err k) = Stops m n e s k

-- raw elements within n levels are from s on to the end of contents that end so, and a follows
abbrev pub ClosesBefore : ℕ → BERMode → ContentsEnd → List ℕ → List ℕ → Type 0
ClosesBefore n m e s a = JoiningBefore (IsRaw m n) (λ q. EndsBefore e q a) s

-- raw elements are from s on up to one that no level is left for
abbrev pub MeetsDeep : ℕ → BERMode → List ℕ → Type 0
MeetsDeep n m s = JoiningBefore (IsRaw m n) (IsDeepRaw m n) s

-- why contents weren't walked to their end
pub record NotWalked (m : BERMode) (n : ℕ) (e : ContentsEnd) (s : List ℕ) (k : ASN1ErrorKind) : Type 0 where
  pub none : (a : List ℕ) → ClosesBefore n m e s a → ⊥
  pub deep : k ≡ StackOverflow ↔ MeetsDeep n m s
  pub no_memory : k ≡ OutOfMemory → ⊥

-- contents that end so were walked from s on
abbrev pub WalksTo : BERMode → ℕ → ContentsEnd → List ℕ → Result (Bor (List ℕ)) ASN1ErrorKind → Type 0
WalksTo m n e s (Ok a) = ClosesBefore n m e s a.now
WalksTo m n e s (Err k) = NotWalked m n e s k

-- whether a mode accepts contents that end so
abbrev pub TakesEnd : BERMode → PCBit → ContentsEnd → Type 0
TakesEnd m bit (definite_end a) = Unit {0}
TakesEnd m bit indefinite_end = TakesIndefinite m bit

-- whether a mode accepts and walks them in some elements
abbrev pub IsWalked : BERMode → ContentsEnd → Type 0
IsWalked m e = (bit : PCBit) × TakesEnd m bit e × DescendsUpTo m bit e

-- what follows contents within those around them, where their length is counted
abbrev pub following : ContentsEnd → List ℕ
following (definite_end a) = a
following indefinite_end = []

-- what follows an element whose contents end before r of the bytes that were given
abbrev pub follows : ContentsEnd → List ℕ → List ℕ
follows (definite_end a) r = a
follows indefinite_end r = r

-- an element whose header was read ends, or its contents, which are descended into, don't
abbrev pub FollowsAt : BERMode → ℕ → PCBit → List ℕ → ContentsEnd → Result (Bor (List ℕ)) ASN1ErrorKind → Type 0
FollowsAt m n bit c e (Ok r) = ContentsTo (IsRaw m n) m bit c e r.now
FollowsAt m n bit c e (Err k) = DescendsUpTo m bit e × NotWalked m n e c k

-- r are the last of s
abbrev pub IsRest : List ℕ → List ℕ → Type 0
IsRest s r = (b : List ℕ) × (s ≡ b ++ r)

-- where the length of the contents c isn't counted, r are the last of them
abbrev pub HasRest : ContentsEnd → List ℕ → List ℕ → Type 0
HasRest (definite_end z) c r = Unit {0}
HasRest indefinite_end c r = IsRest c r

-- the raw element that was found
abbrev pub element_of : RawElement → RawValue
element_of x = record { tag = x.tag; bit = x.bit; payload = x.payload.now }

-- How bytes are rejected as a raw element: there is none. The rejection consumed nothing exactly at an end, and is `StackOverflow`
-- exactly if reading meets an element for which no level is left
pub record RejectsRaw (m : BERMode) (n : ℕ) (s : List ℕ) (e : Rejection) : Type 0 where
  pub none : HasPrefix (IsRaw m n) s → ⊥
  pub consumed : e.consumed ≡ false ↔ AtEnd s
  pub deep : e.kind ≡ StackOverflow ↔ IsDeepRaw m n s
  pub no_memory : e.kind ≡ OutOfMemory → ⊥

-- a raw element at the start of s, and the rest
pub record TakesRaw (m : BERMode) (n : ℕ) (s : List ℕ) (x : RawElement) (r : List ℕ) : Type 0 where
  pub raw : IsRaw m n (element_of x) x.bytes.now
  pub joined : s ≡ x.bytes.now ++ r

-- what reading a raw element returns, by its case
abbrev pub RawElementAt : BERMode → ℕ → List ℕ → Result (RawElement × Bor (List ℕ)) Rejection → Type 0
RawElementAt m n s (Ok x) = TakesRaw m n s x.0 x.1.now
RawElementAt m n s (Err e) = RejectsRaw m n s e
