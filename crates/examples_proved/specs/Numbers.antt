-- A SEQUENCE OF INTEGER.
use Rattle.std.specs.Prelude.{List, ℤ}
use Rattle.std.specs.Int.{w64}
use Rattle.yasna.specs.Words.{Any, EncodesSigned, sequence_tag, IsListOf, AnyListOf}
use Rattle.yasna.specs.Words.{Grammar, Members}

-- the bytes encode these numbers, in order
abbrev pub EncodesNumbers : Grammar (List ℤ)
EncodesNumbers m n vs b = IsListOf (EncodesSigned w64) sequence_tag m n vs b

-- the bytes encode some list of numbers
abbrev pub AnyNumbers : Members
AnyNumbers = AnyListOf (Any (EncodesSigned w64)) sequence_tag
