-- What reading a value of a type does: B m n v b says that b encodes v, S m n b that b encodes some value, and may_allocate
-- whether reading may allocate.
use Rattle.std.specs.Prelude.{Bool, Err, List, None, Ok, Option, Result, Some, length, true, ℕ, ◌++◌, ◌≡◌, ◌≤◌}
use Rattle.yasna_base.specs.Grammar.{Grammar, Members, max_depth}
use Rattle.yasna_base.specs.Identifier.{AtEnd}
use Rattle.yasna_base.specs.Error.{kind_of}
use Rattle.yasna_base.specs.declared.error.ASN1Error.{ASN1Error}
use Rattle.yasna_base.specs.declared.error.ASN1ErrorKind.TheVariants.{OutOfMemory}
use Rattle.yasna_base.specs.declared.mode.BERMode.{BERMode}
use Rattle.yasna_bytes.specs.Rejection.{BlamesBytes}
use Rattle.yasna_reader.specs.State.{Reading, Does}

-- the failure f says that no prefix of s is in S, or is of memory
pub record Explains (may_allocate : Bool) (S : List ℕ → Type 0) (s : List ℕ) (f : ASN1Error) : Type 0 where
  pub none : (kind_of f ≡ OutOfMemory → ⊥) → (b r : List ℕ) → s ≡ b ++ r → S b → ⊥
  pub memory : kind_of f ≡ OutOfMemory → may_allocate ≡ true

-- the sticky error, if there is one, says that no prefix of s is in S, or is `OutOfMemory`
abbrev pub StickyExplains : Bool → (List ℕ → Type 0) → List ℕ → Option ASN1Error → Type 0
StickyExplains may_allocate S s None = Unit {0}
StickyExplains may_allocate S s (Some f) = Explains may_allocate S s f

-- a prefix of what was left represents v, and the rest is left
pub record ParsedValue {A : Type 0} (B : A → List ℕ → Type 0) (s : Reading) (v : A) (s' : Reading) : Type 0 where
  pub prefix : List ℕ
  pub rest : List ℕ
  pub joined : s.left ≡ prefix ++ rest
  pub member : B v prefix
  pub left : s' ≡ record s { left = rest }

-- the result e, where S says which prefixes are looked for
pub record NotParsed (may_allocate : Bool) (S : List ℕ → Type 0) (s : Reading) (e : ASN1Error) (s' : Reading) : Type 0 where
  pub explains : Explains may_allocate S s.left e
  pub failed : StickyExplains may_allocate S s.left s'.failed
  pub further : length s'.left ≤ length s.left
  pub same : s' ≡ record s { left = s'.left; failed = s'.failed }

-- at an end it consumes nothing, and no error is sticky, and e isn't of memory or of depth
abbrev pub NoMatchAtEnd : Reading → ASN1Error → Reading → Type 0
NoMatchAtEnd s e s' = AtEnd s.left → (s' ≡ s) × BlamesBytes (kind_of e)

-- what reading a value does
abbrev pub Decodes : {A : Type 0} → Bool → Grammar A → Members → Does A
Decodes may_allocate B S s (Ok v) s' = ParsedValue (B s.mode s.levels) s v s'
Decodes may_allocate B S s (Err e) s' = NotParsed may_allocate (S s.mode s.levels) s e s' × NoMatchAtEnd s e s'

-- what reading the parts of a tuple does, which may be empty
abbrev pub DecodesParts : {A : Type 0} → Bool → Grammar A → Members → Does A
DecodesParts may_allocate C S s (Ok v) s' = ParsedValue (C s.mode s.levels) s v s'
DecodesParts may_allocate C S s (Err e) s' = NotParsed may_allocate (S s.mode s.levels) s e s'

-- contents were read up to their end
pub record ParsedContents {A : Type 0} (C : A → List ℕ → Type 0) (S : List ℕ → Type 0) (s : Reading) (v : A) (s' : Reading) : Type 0 where
  pub parsed : ParsedValue C s v s'
  pub ends : (d x : List ℕ) → s.left ≡ d ++ x → AtEnd x → S d → d ≡ parsed.prefix

-- contents are there for no value, but when out of memory, which comes only where the type allocates
pub record NotContents (may_allocate : Bool) (S : List ℕ → Type 0) (s : Reading) (e : ASN1Error) : Type 0 where
  pub none : (kind_of e ≡ OutOfMemory → ⊥) → (d x : List ℕ) → s.left ≡ d ++ x → AtEnd x → S d → ⊥
  pub memory : kind_of e ≡ OutOfMemory → may_allocate ≡ true

-- what reading contents returns, by its case
abbrev pub DecodesContents : {A : Type 0} → Bool → Grammar A → Members → Does A
DecodesContents may_allocate C S s (Ok v) s' = ParsedContents (C s.mode s.levels) (S s.mode s.levels) s v s'
DecodesContents may_allocate C S s (Err e) s' = NotContents may_allocate (S s.mode s.levels) s e

-- what decoding whole bytes returns
pub record NotWhole (may_allocate : Bool) (S : List ℕ → Type 0) (s : List ℕ) (e : ASN1Error) : Type 0 where
  pub none : (kind_of e ≡ OutOfMemory → ⊥) → S s → ⊥
  pub memory : kind_of e ≡ OutOfMemory → may_allocate ≡ true
  pub no_match : AtEnd s → kind_of e ≡ OutOfMemory → ⊥

-- a value that all bytes encode within 101 levels, or an Err if they encode none
abbrev pub Decoded : {A : Type 0} → Bool → Grammar A → Members → BERMode → List ℕ → Result A ASN1Error → Type 0
Decoded may_allocate B S m s (Ok v) = B m max_depth v s
Decoded may_allocate B S m s (Err e) = NotWhole may_allocate (S m max_depth) s e

-- a sticky error is returned, and nothing else happens
abbrev pub RepeatsError : {A : Type 0} → Does A
RepeatsError s r s' = (e : ASN1Error) → s.failed ≡ Some e → (r ≡ Err e) × (s' ≡ s)

-- what follows a call that returned x and left m
abbrev pub AndIn : {A U : Type 0} → (A → Does U) → Result A ASN1Error → Does U
AndIn Next (Ok a) m r s' = Next a m r s'
AndIn Next (Err e) m r s' = (r ≡ Err e) × (s' ≡ m)

-- a call does what Call says, and where it returned Ok, Next says what is done with its value
abbrev pub Step : {A U : Type 0} → Does A → (A → Does U) → Does U
Step {A} Call Next s r s' = (x : Result A ASN1Error) × (m : Reading) × Call s x m × AndIn Next x m r s'

-- the end of such steps: the value v is returned, and nothing more is read
abbrev pub Done : {U : Type 0} → U → Does U
Done v s r s' = (r ≡ Ok v) × (s' ≡ s)

-- v is made of parts that are there
abbrev pub Made : {U A : Type 0} → Grammar A → (A → U) → Grammar U
Made {U} {A} C make m n v c = (w : A) × C m n w c × (v ≡ make w)
