-- Errors of writes.
use Rattle.std.specs.declared.io.ErrorKind.{ErrorKind}
use Rattle.std.specs.declared.io.ErrorKind.TheVariants.{BrokenPipe, OutOfMemory}
use Rattle.asn1show_walk.specs.Errors.{IsExternal, output_error}

-- the error of a failed write says nothing about the input
pub output_is_external : (kind : ErrorKind) → IsExternal (output_error kind)
output_is_external BrokenPipe = tt
output_is_external OutOfMemory = tt
output_is_external kind = tt
