-- What a call returns that begins a writing and ends it.
use Rattle.std.specs.Prelude.{◌≡◌, ℕ, ◌⊎◌, Result, Ok, Err, MatchOption, MatchResult, IsErrAnd, Vec}
use Rattle.std.specs.Global.{Global}
use Rattle.yasna_base.specs.declared.error.ASN1Error.{ASN1Error}
use Rattle.yasna_base.specs.declared.error.ASN1ErrorKind.TheVariants.{OutOfMemory}
use Rattle.yasna_base.specs.Error.{kind_of}
use Rattle.yasna_writer.specs.View.{Written, bytes_of}

-- e is what an error type makes of `OutOfMemory`
abbrev pub FromOutOfMemory : {E : Type 0} → (ASN1Error → E → Type 0) → E → Type 0
FromOutOfMemory from e = (k : ASN1Error) × (kind_of k ≡ OutOfMemory) × from k e

-- the result if a closure returned own and left the writing as w: the sticky error of w, else the closure's Err, else the bytes of w,
-- or `OutOfMemory`; from turns an error of the writing into the closure's type of errors
abbrev pub Constructed : {E : Type 0} → (ASN1Error → E → Type 0) → Written → Result (Unit {0}) E → Result (Vec ℕ Global) E → Type 0
Constructed from w own result =
    MatchOption w.failed
    (MatchResult own (λ _. (bytes_of result ≡ Ok w.bytes) ⊎ IsErrAnd result (FromOutOfMemory from)) (λ e. bytes_of result ≡ Err e))
    (λ k. IsErrAnd result (λ e. from k e))
