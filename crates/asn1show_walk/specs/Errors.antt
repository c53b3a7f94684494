-- Why a listing ends before its input does.
use Rattle.std.specs.Prelude.{◌⊎◌, ℕ}
use Rattle.yasna_base.specs.declared.error.ASN1ErrorKind.{ASN1ErrorKind}
use Rattle.asn1show_walk.specs.declared.error.WalkError.{WalkError}
use Rattle.asn1show_walk.specs.declared.error.WalkError.TheVariants.{Malformed, Memory, Output, ClosedOutput}
use Rattle.std.specs.declared.io.ErrorKind.{ErrorKind}
use Rattle.std.specs.declared.io.ErrorKind.TheVariants.{BrokenPipe, OutOfMemory}

-- the error is a malformed input, and P holds of its offset and its kind
abbrev pub IsMalformed : (ℕ → ASN1ErrorKind → Type 0) → WalkError → Type 0
IsMalformed P (Malformed offset kind expected) = P offset kind
IsMalformed P Memory = ⊥
IsMalformed P Output = ⊥
IsMalformed P ClosedOutput = ⊥

-- the visitor returned the error, or the input is malformed and N holds of the error's offset and kind
abbrev pub WalkFails : (WalkError → Type 0) → (ℕ → ASN1ErrorKind → Type 0) → WalkError → Type 0
WalkFails Rejects N f = Rejects f ⊎ IsMalformed N f

-- the error is out of memory or of a write: it says nothing about the input
abbrev pub IsExternal : WalkError → Type 0
IsExternal (Malformed offset kind expected) = ⊥
IsExternal Memory = Unit {0}
IsExternal Output = Unit {0}
IsExternal ClosedOutput = Unit {0}

-- the error of a write that failed with an error of this kind
abbrev pub output_error : ErrorKind → WalkError
output_error BrokenPipe = ClosedOutput
output_error OutOfMemory = Memory
output_error kind = Output
