-- Numbers in base 128 at the start of bytes (X.690, 8.1.2.4 and 8.19.2).
use Rattle.std.specs.Borrow.{Bor}
use Rattle.std.specs.Prelude.{Err, List, Ok, Result, ℕ, ◌++◌, ◌<◌, ◌^◌, ◌≡◌}
use Rattle.yasna_base.specs.Digits.{base128}
use Rattle.yasna_base.specs.declared.error.ASN1ErrorKind.{ASN1ErrorKind}
use Rattle.yasna_base.specs.Error.{BlamesBytes}

-- a number of 64 bits in base 128 is at the start
abbrev pub Base128At : List ℕ → Result (ℕ × Bor (List ℕ)) ASN1ErrorKind → Type 0
Base128At s (Ok x) = s ≡ base128 x.0 ++ x.1.now
Base128At s (Err k) = BlamesBytes k × ((n : ℕ) (r : List ℕ) → n < 2 ^ 64 → s ≡ base128 n ++ r → ⊥)
