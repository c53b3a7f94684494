-- A writing as contracts see it, and what a write does to it.
use Rattle.std.specs.Prelude.{◌≡◌, ℕ, List, [], ◌++◌, Option, Some, None, Result, Ok, Err, MatchOption, MatchResult, Vec}
use Rattle.std.specs.Global.{Global}
use Rattle.yasna_base.specs.declared.error.ASN1Error.{ASN1Error}
use Rattle.yasna_base.specs.declared.error.ASN1ErrorKind.TheVariants.{OutOfMemory}
use Rattle.yasna_base.specs.declared.mode.BERMode.{BERMode}
use Rattle.yasna_base.specs.declared.mode.BERMode.TheVariants.{Der}
use Rattle.yasna_base.specs.declared.tag.Tag.{Tag}
use Rattle.yasna_base.specs.Error.{kind_of}

-- a writing
pub record Written : Type 0 where
  -- the bytes so far
  pub bytes : List ℕ
  -- the canonical mode of what is written
  pub mode : BERMode
  -- the implicit tag of the next element
  pub tag : Option Tag
  -- the sticky error
  pub failed : Option ASN1Error

-- the writing with these bytes, with no implicit tag and no sticky error
abbrev pub holding : Written → List ℕ → Written
holding w bs = record w { bytes = bs; tag = None; failed = None }

-- the writing that a closure is handed, with the bytes so far
abbrev pub handed : Written → Written
handed w = holding w w.bytes

-- an empty writing in this mode
abbrev pub begun : BERMode → Written
begun m = record { bytes = []; mode = m; tag = None; failed = None }

-- one of DER
abbrev pub empty_writing : Written
empty_writing = begun Der

-- a sticky error is returned and stays; else Ok appended bs under the tag, which is used up, and Err is `OutOfMemory`, which is sticky
abbrev pub Wrote : List ℕ → Written → Written → Result (Unit {0}) ASN1Error → Type 0
Wrote bs old new r =
    MatchOption old.failed
    (MatchResult r (λ _. new ≡ holding old (old.bytes ++ bs)) (λ e. (kind_of e ≡ OutOfMemory) × (new.failed ≡ Some e)))
    (λ k. (r ≡ Err k) × (new.failed ≡ Some k))

-- a write returned e, which is `OutOfMemory`: it is sticky, or nothing is sticky and the earlier bytes are intact, with others after
abbrev pub FailsOutOfMemory : Written → Written → ASN1Error → Type 0
FailsOutOfMemory old new e = (kind_of e ≡ OutOfMemory) × MatchOption new.failed ((c : List ℕ) × (new.bytes ≡ old.bytes ++ c)) (λ k. kind_of k ≡ OutOfMemory)

-- what `encode_der` of a type does, which may allocate: a sticky error stays, whatever is returned; else Ok
-- appended bs under the tag, which is used up, and Err is `OutOfMemory`, sticky or not
abbrev pub Writes : List ℕ → Written → Written → Result (Unit {0}) ASN1Error → Type 0
Writes bs old new r =
    MatchOption old.failed
    (MatchResult r (λ _. new ≡ holding old (old.bytes ++ bs)) (λ e. FailsOutOfMemory old new e))
    (λ k. new.failed ≡ Some k)

-- what parts of an element do: the same, but that an implicit tag may still wait, as it does where there is no part
abbrev pub WroteParts : List ℕ → Written → Written → Result (Unit {0}) ASN1Error → Type 0
WroteParts bs old new r =
    MatchOption old.failed
    (MatchResult r (λ _. record new { tag = None } ≡ holding old (old.bytes ++ bs)) (λ e. FailsOutOfMemory old new e))
    (λ k. new.failed ≡ Some k)

-- the bytes of a vector that was made
abbrev pub bytes_of : {E : Type 0} → Result (Vec ℕ Global) E → Result (List ℕ) E
bytes_of (Ok v) = Ok (v.items)
bytes_of (Err e) = Err e
