-- What a typed read does to a reading.
use Rattle.std.specs.Borrow.{Bor}
use Rattle.std.specs.Prelude.{Err, List, Ok, Result, ℕ, ◌≡◌}
use Rattle.yasna_base.specs.Error.{error_of, kind_of}
use Rattle.yasna_base.specs.declared.error.ASN1Error.{ASN1Error}
use Rattle.yasna_base.specs.declared.tag.Tag.{Tag}
use Rattle.yasna_base.specs.Grammar.{TaggedGrammar, TaggedMembers}
use Rattle.yasna_bytes.specs.Prefix.{HasPrefix, SeenAt}
use Rattle.yasna_bytes.specs.Rejection.{IsElsewhere, IsTooDeep, Rejects}
use Rattle.yasna_reader.specs.Decodes.{ParsedValue}
use Rattle.yasna_reader.specs.State.{Reading, UnlessFailed, rejecting, tag_of, untagged, Does}
use Rattle.yasna_bytes.specs.declared.bytes.header.Rejection.{Rejection}

-- the error e of a read: what it says, as `Rejects` does, and that it is sticky where it consumed input
pub record RejectedAs {A : Type 0} (B : A → List ℕ → Type 0) (Deep MayAllocate Elsewhere : Type 0) (s : Reading) (e : ASN1Error) (s' : Reading) :
    Type 0 where
  pub rejection : Rejection
  pub kind : rejection.kind ≡ kind_of e
  pub rejects : Rejects (HasPrefix B s.left) Deep MayAllocate Elsewhere rejection
  pub state : s' ≡ rejecting rejection.consumed s e

-- what a read does where no error is sticky: a value's prefix is consumed, and no implicit tag waits; view says what is seen of a value
abbrev pub ReadsAt : {V A : Type 0} → (A → List ℕ → Type 0) → (V → A) → (Deep MayAllocate Elsewhere : Type 0) → Does V
ReadsAt B view Deep MayAllocate Elsewhere s (Ok v) s' = ParsedValue B (untagged s) (view v) s'
ReadsAt B view Deep MayAllocate Elsewhere s (Err e) s' = RejectedAs B Deep MayAllocate Elsewhere s e s'

-- `ReadsAt` of an element of a tag, within the levels and in the mode of the reading
abbrev pub ReadsTyped : {V A : Type 0} → TaggedGrammar A → (V → A) → TaggedMembers → (ℕ → Tag → List ℕ → Type 0) → Tag → Does V
ReadsTyped B view TooDeep Allocates t s =
    ReadsAt (B t s.mode s.levels) view (TooDeep t s.mode s.levels s.left) (Allocates s.levels t s.left) (IsElsewhere t s.left) s

-- what a prefix that is parsed does to a reading
abbrev pub Commits : {A : Type 0} → Reading → Result (A × Bor (List ℕ)) Rejection → Result A ASN1Error → Reading → Type 0
Commits s (Ok x) r s' = (r ≡ Ok x.0) × (s' ≡ record (untagged s) { left = x.1.now })
Commits s (Err e) r s' = (r ≡ Err (error_of e.kind)) × (s' ≡ rejecting e.consumed s (error_of e.kind))

-- What a typed read parses. B: the prefixes that it accepts; TooDeep: where they are too deep; Allocates: whether it may allocate
abbrev pub ParsesAs : {V A : Type 0} → TaggedGrammar A → (V → A) → TaggedMembers →
    (ℕ → Tag → List ℕ → Type 0) → Tag → Reading → Result (V × Bor (List ℕ)) Rejection → Type 0
ParsesAs B view TooDeep Allocates tag s r = SeenAt (B (tag_of s tag) s.mode s.levels) view (TooDeep (tag_of s tag) s.mode s.levels s.left) (Allocates s.levels (tag_of s tag) s.left)
    (IsElsewhere (tag_of s tag) s.left) s.left r

-- A typed read of values, of which view is seen. With a sticky error it returns that, and consumes nothing. Else Ok consumes a prefix
-- in B that encodes what is seen of the value. An Err that isn't `OutOfMemory` says that no prefix is in B, for any value. It consumed
-- nothing exactly if nothing is left or another tag is next: then the reading is as it was, with the implicit tag. Any other Err is
-- sticky. It is `StackOverflow` exactly where TooDeep holds, and `OutOfMemory` only where Allocates does
pub record ReadsSeen {V A : Type 0} (B : TaggedGrammar A) (view : V → A) (TooDeep : TaggedMembers)
    (Allocates : ℕ → Tag → List ℕ → Type 0) (tag : Tag) (s : Reading) (r : Result V ASN1Error) (s' : Reading) : Type 0 where
  pub reads : UnlessFailed s.failed s r s' (ReadsTyped B view TooDeep Allocates (tag_of s tag) s r s')

-- `ReadsSeen` of values that are seen as they are
abbrev pub Reads : {A : Type 0} → TaggedGrammar A → TaggedMembers → (ℕ → Tag → List ℕ → Type 0) → Tag → Does A
Reads B TooDeep Allocates tag s r s' = ReadsSeen B (λ v. v) TooDeep Allocates tag s r s'

-- depth of a read that goes one level down
abbrev pub NoLevel : TaggedMembers
NoLevel t m n s = IsTooDeep n t s
