-- Why no element was taken from the start of bytes.
use Rattle.std.specs.Prelude.{◌≡◌, ◌↔◌, ℕ, ◌^◌, ◌<◌, List, [], false}
use Rattle.yasna_base.specs.Identifier.{BeginsWithTag}
use Rattle.yasna_base.specs.declared.error.ASN1ErrorKind.TheVariants.{OutOfMemory, StackOverflow}
use Rattle.yasna_base.specs.declared.tag.Tag.{Tag}
pub use Rattle.yasna_base.specs.Error.{BlamesBytes}
use Rattle.yasna_bytes.specs.declared.bytes.header.Rejection.{Rejection}

-- s is empty or begins with an identifier of another tag
pub data IsElsewhere (t : Tag) (s : List ℕ) : Type 0 where
  nothing : s ≡ [] → IsElsewhere t s
  another : (u : Tag) → u.tag_number < 2 ^ 64 → (u ≡ t → ⊥) → BeginsWithTag u s → IsElsewhere t s

-- no level is left for the element
abbrev pub IsTooDeep : ℕ → Tag → List ℕ → Type 0
IsTooDeep n t s = (n ≡ 0) × BeginsWithTag t s

-- How bytes are rejected. Found: what isn't there. Deep: where it lies too deep. MayAllocate: whether it may allocate. Elsewhere: where
-- nothing is consumed
pub record Rejects (Found Deep MayAllocate Elsewhere : Type 0) (e : Rejection) : Type 0 where
  pub none : (e.kind ≡ OutOfMemory → ⊥) → Found → ⊥
  pub consumed : e.consumed ≡ false ↔ Elsewhere
  pub too_deep : e.kind ≡ StackOverflow → Deep
  pub deep : (e.kind ≡ OutOfMemory → ⊥) → Deep → e.kind ≡ StackOverflow
  pub memory : e.kind ≡ OutOfMemory → MayAllocate
