-- What a read of a raw element does to a reading.
use Rattle.std.specs.Borrow.{Bor}
use Rattle.std.specs.Prelude.{List, Result, ℕ, ◌≡◌, ◌≤◌}
use Rattle.yasna_base.specs.Grammar.{Grammar}
use Rattle.yasna_base.specs.Identifier.{StartsElement, AtEnd}
use Rattle.yasna_base.specs.Raw.{RawValue, IsRaw, IsDeepRaw}
use Rattle.yasna_base.specs.TaggedDerValue.{raw_value}
use Rattle.yasna_reader.specs.declared.raw.Pieces.{Pieces}
use Rattle.yasna_base.specs.declared.error.ASN1Error.{ASN1Error}
use Rattle.yasna_base.specs.declared.mode.BERMode.{BERMode}
use Rattle.yasna_bytes.specs.Prefix.{SeenAt}
use Rattle.yasna_reader.specs.Primitive.{ReadsAt}
use Rattle.yasna_reader.specs.State.{Reading, UnlessFailed, Does}
use Rattle.yasna_bytes.specs.declared.bytes.header.Rejection.{Rejection}

-- the value that pieces of one say
abbrev pub value_of_pieces : Pieces → RawValue
value_of_pieces p = raw_value (record { tag_class = p.class; tag_number = p.number }) p.bit p.payload.items

-- the whole of a raw element
pub record IsWhole (m : BERMode) (n : ℕ) (v b : List ℕ) : Type 0 where
  pub bytes : v ≡ b
  pub element : RawValue
  pub raw : IsRaw m n element b

-- a level is left for a raw element, and its identifier is next
abbrev pub MayAllocateRaw : ℕ → List ℕ → Type 0
MayAllocateRaw n s = (1 ≤ n) × StartsElement s

-- a value, of which view says what is seen, and the rest, or an error
abbrev pub CopiedAt : {V A : Type 0} → Grammar A → (V → A) → ℕ → BERMode → List ℕ → Result (V × Bor (List ℕ)) Rejection → Type 0
CopiedAt B view n m s r = SeenAt (B m n) view (IsDeepRaw m n s) (MayAllocateRaw n s) (AtEnd s) s r

-- a read of a raw element where no error is sticky
abbrev pub ReadsRawAt : {V A : Type 0} → Grammar A → (V → A) → Does V
ReadsRawAt B view s =
    ReadsAt (B s.mode s.levels) view (IsDeepRaw s.mode s.levels s.left) (MayAllocateRaw s.levels s.left) (AtEnd s.left) s

-- A read of a raw element, whatever implicit tag waits, where view is seen of a value. With a sticky error it returns that, and consumes
-- nothing. Else Ok consumes a prefix in B that encodes what is seen of the value. An Err that isn't `OutOfMemory` says that no prefix
-- is in B. It consumed nothing exactly if nothing is left or the end of contents is next: then the reading is as it was. Any other
-- Err is sticky. It is `StackOverflow` exactly if the elements are too deep, and `OutOfMemory` only if a level is left and another
-- identifier is next
pub record ReadsRaw {V A : Type 0} (B : Grammar A) (view : V → A) (s : Reading) (r : Result V ASN1Error) (s' : Reading) :
    Type 0 where
  pub reads : UnlessFailed s.failed s r s' (ReadsRawAt B view s r s')
