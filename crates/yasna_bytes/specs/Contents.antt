-- What contents say, and where reading them may allocate.
use Rattle.std.specs.Borrow.{Bor}
use Rattle.std.specs.Global.{Global}
use Rattle.std.specs.Prelude.{Bool, Err, List, Ok, Result, Vec, ℕ, ◌++◌, ◌∷◌, ◌≡◌, ◌≤◌, ◌⊎◌}
use Rattle.yasna_base.specs.BigInteger.{BigInteger}
use Rattle.yasna_base.specs.Identifier.{identifier}
use Rattle.yasna_base.specs.Element.{IsPrimitive, Primitively}
use Rattle.yasna_base.specs.declared.error.ASN1ErrorKind.{ASN1ErrorKind}
use Rattle.yasna_base.specs.declared.error.ASN1ErrorKind.TheVariants.{OutOfMemory}
use Rattle.yasna_base.specs.declared.mode.BERMode.{BERMode}
use Rattle.yasna_base.specs.declared.tag.PCBit.{PCBit}
use Rattle.yasna_base.specs.declared.tag.Tag.{Tag}
use Rattle.yasna_bytes.specs.Prefix.{Takes, SeenAt}
use Rattle.yasna_bytes.specs.Header.{AreContents}
use Rattle.yasna_bytes.specs.Rejection.{BlamesBytes, IsTooDeep, IsElsewhere}
use Rattle.yasna_bytes.specs.declared.bytes.header.Rejection.{Rejection}

-- wherever c are the contents of a primitive element, it may allocate by M
abbrev pub MayAllocateFor : (ℕ → Tag → List ℕ → Type 0) → List ℕ → Type 0
MayAllocateFor M c = (n : ℕ) (m : BERMode) (t : Tag) (s r : List ℕ) → Takes (IsPrimitive AreContents t m n) s c r → M n t s

-- contents that are taken exactly where they say by W what the view of a value is, unless out of memory
abbrev pub Decides : {V A : Type 0} → (A → List ℕ → Type 0) → (V → A) → (ℕ → Tag → List ℕ → Type 0) → List ℕ → Result V ASN1ErrorKind → Type 0
Decides {V} {A} W view M c (Ok v) = W (view v) c
Decides {V} {A} W view M c (Err k) = ((k ≡ OutOfMemory) × MayAllocateFor M c) ⊎ (BlamesBytes k × ((v : A) → W v c → ⊥))

-- a read that never allocates
abbrev pub NeverAllocates : ℕ → Tag → List ℕ → Type 0
NeverAllocates n t s = ⊥

-- an identifier of the tag, after which a byte other than 0 is there
pub record MayAllocate (n : ℕ) (t : Tag) (s : List ℕ) : Type 0 where
  pub level : 1 ≤ n
  pub bit : PCBit
  pub size : ℕ
  pub after : List ℕ
  pub not_empty : size ≡ 0 → ⊥
  pub joined : s ≡ identifier t bit ++ (size ∷ after)

-- the contents of an INTEGER as they are, and whether the number isn't negative
abbrev pub big_integer_in : Vec ℕ Global × Bool → BigInteger
big_integer_in v = record { bytes = v.0.items; positive = v.1 }

-- a primitive element whose contents say by W what the view of a value is, and the rest, or an error; it may allocate
-- where M says so
abbrev pub ValueAt : {V A : Type 0} → (BERMode → A → List ℕ → Type 0) → (V → A) → (ℕ → Tag → List ℕ → Type 0) → ℕ → BERMode → Tag → List ℕ →
    Result (V × Bor (List ℕ)) Rejection → Type 0
ValueAt W view M n m t s r = SeenAt (Primitively W t m n) view (IsTooDeep n t s) (M n t s) (IsElsewhere t s) s r
