-- What a call does that writes an element around what a closure writes.
use Rattle.std.specs.Prelude.{◌≡◌, ℕ, List, ◌++◌, length, Option, Some, None, Result, MatchOption, IsErrAnd}
use Rattle.std.specs.Borrow.{MutBor}
use Rattle.std.specs.Fn.{Once, FnOnceReturnsAtMut}
use Rattle.yasna_base.specs.declared.error.ASN1Error.{ASN1Error}
use Rattle.yasna_writer.specs.View.{Written, holding, handed}
use Rattle.yasna_writer.specs.State.{FailedAtEnd}

-- a sticky error wins over a closure's own result
abbrev pub ReturnsSticky : {T E : Type 0} → (ASN1Error → E → Type 0) → Option ASN1Error → Result T E → Result T E → Type 0
ReturnsSticky from None own result = result ≡ own
ReturnsSticky from (Some k) own result = IsErrAnd result (λ e. from k e)

-- the closure f ran after the bytes that were there, and the element around what it wrote ended
pub record WroteAround {F T E : Type 0} (g : Once F (MutBor Written × Unit {0}) (Result T E × (MutBor Written × Unit {0}))) (from : ASN1Error → E → Type 0)
    (f : F) (encoding : List ℕ → List ℕ) (old new : Written) (result : Result T E) : Type 0 where
  -- the closure's result
  pub own : Result T E
  -- the writing as it left it
  pub left : Written
  -- it was handed the bytes that were there, with no tag
  pub ran : FnOnceReturnsAtMut g f (handed old) own left
  -- the sticky error, if there is one
  pub failed : FailedAtEnd (length old.bytes) left new.failed
  -- that error is returned, else the closure's result, an Err too
  pub returns : ReturnsSticky from new.failed own result
  -- where none is sticky, encoding of what the closure appended was written
  pub bytes : new.failed ≡ None → (c : List ℕ) → left.bytes ≡ old.bytes ++ c → new ≡ holding old (old.bytes ++ encoding c)

-- a sticky error is returned and stays, and the closure doesn't run
abbrev pub ReturnsOnly : {T E : Type 0} → (ASN1Error → E → Type 0) → ASN1Error → Written → Result T E → Type 0
ReturnsOnly from k new result = (new.failed ≡ Some k) × IsErrAnd result (λ e. from k e)

-- what such a call does: a sticky error comes first
abbrev pub Encloses :
    {F T E : Type 0} → Once F (MutBor Written × Unit {0}) (Result T E × (MutBor Written × Unit {0})) → (ASN1Error → E → Type 0) → F → (List ℕ → List ℕ)
    → Written → Written → Result T E → Type 0
Encloses g from f encoding old new result = MatchOption old.failed (WroteAround g from f encoding old new result) (λ k. ReturnsOnly from k new result)
