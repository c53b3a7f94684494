-- Numbers as bytes, highest first.
use Rattle.std.specs.Prelude.{ℕ, List, [], ◌∷◌, Bool, true, false, if◌then◌else◌, nat_lt, nat_le}

-- the byte that is endlessly before a number in two's complement
abbrev pub sign_byte : Bool → ℕ
sign_byte true = 0
sign_byte false = 255

-- whether bytes need a leading byte to have that sign
abbrev pub needs_sign : Bool → List ℕ → Bool
needs_sign positive [] = true
needs_sign true (x ∷ xs) = nat_le 128 x
needs_sign false (x ∷ xs) = nat_lt x 128

-- that byte where it is needed
abbrev pub sign_octet : Bool → List ℕ → List ℕ
sign_octet positive b = if needs_sign positive b then sign_byte positive ∷ [] else []
