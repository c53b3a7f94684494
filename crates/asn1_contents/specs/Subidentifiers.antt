-- Subidentifiers, of which object identifiers are made (X.690, 8.19 and 8.20).
use Rattle.std.specs.Prelude.{◌≡◌, ◌≤◌, ℕ, List, length}
use Rattle.std.specs.List.{flat_map}
use Rattle.yasna_base.specs.Digits.{base128}

-- one or more numbers in base 128, each in the fewest octets
pub record AreSubidentifiers (c : List ℕ) : Type 0 where
  pub numbers : List ℕ
  pub spelled : c ≡ flat_map base128 numbers
  pub some : 1 ≤ length numbers
