-- The UNIVERSAL tags of types of values, and the sizes and numbers that they have.
use Rattle.std.specs.Prelude.{◌≡◌, ◌↔◌, ◌<◌, ◌≤◌, ◌-◌, ◌^◌, ℕ, zero, suc, ℤ, pos, negsuc, ⊤, Bool, true, false, List, [], ◌∷◌, length, map, Option, Some, None, MatchOption}
use Rattle.std.specs.Int.Digits.{number_from_digits}
use Rattle.yasna_base.specs.Integer.{twos}
use Rattle.asn1show_schema.specs.declared.schema.Number.{Number}
use Rattle.asn1show_schema.specs.declared.schema.Size.{Size}
use Rattle.asn1show_schema.specs.declared.schema.ValueType.{ValueType}
use Rattle.asn1show_schema.specs.declared.schema.ValueType.TheVariants.{Integer, Enumerated, BitString, NamedBits, OctetString, Text, Other}

-- the number of the UNIVERSAL tag of a type (X.680, 8.4)
abbrev pub universal_number : ValueType → ℕ
universal_number (Integer bounds names) = 2
universal_number (Enumerated items others) = 10
universal_number (BitString size) = 3
universal_number (NamedBits names) = 3
universal_number (OctetString size) = 4
universal_number (Text number size) = number
universal_number (Other number) = number

-- a size has this many: at least its least, and at most its greatest if it has one (X.680, 51.5)
abbrev pub HasSize : Size → ℕ → Type 0
HasSize size n = (size.low ≤ n) × MatchOption size.high ⊤ (λ high. n ≤ high)

-- an octet as a digit in base 256, with all its bits turned for a number below zero
abbrev pub digit_of : Bool → ℕ → ℕ
digit_of false octet = octet
digit_of true octet = 255 - octet

-- the number that octets spell in base 256, as such digits
abbrev pub spelled_number : Bool → List ℕ → ℕ
spelled_number is_negative octets = number_from_digits 256 (map (digit_of is_negative) octets)

-- the first bit of contents is one, so that the number is below zero
abbrev pub HasSignBit : List ℕ → Type 0
HasSignBit [] = ⊥
HasSignBit (octet ∷ octets) = 128 ≤ octet

-- a number with a sign
abbrev pub signed : Bool → ℕ → ℤ
signed false n = pos n
signed true zero = pos 0
signed true (suc n) = negsuc n

-- the integer with this sign, so far from zero
abbrev pub integer_of : Number → ℤ
integer_of number = signed number.is_negative number.magnitude

-- zero isn't negative
abbrev pub IsNormal : Number → Type 0
IsNormal number = number.is_negative ≡ true → 1 ≤ number.magnitude

-- contents are the number in two's complement
pub record IsNumberOf (c : List ℕ) (number : Number) : Type 0 where
  pub normal : IsNormal number
  pub integer : twos c ≡ integer_of number

-- the number of these contents, or no number of 64 bits and a sign is theirs (X.690, 8.3.3)
abbrev pub NumberAt : List ℕ → Option Number → Type 0
NumberAt c (Some number) = IsNumberOf c number
NumberAt c None = (number : Number) → number.magnitude < 2 ^ 64 → twos c ≡ integer_of number → ⊥

-- contents of a value have the number: one octet of a BOOLEAN, whose FALSE has 0, or the number itself (X.690, 8.2 and 8.3)
pub data HasNumber (value : ValueType) (c : List ℕ) (number : Number) : Type 0 where
  truth : (octet : ℕ) → universal_number value ≡ 1 → c ≡ octet ∷ [] → (octet ≡ 0) ↔ (number.magnitude ≡ 0) → HasNumber value c number
  number : (universal_number value ≡ 1 → length c ≡ 1 → ⊥) → IsNumberOf c number → HasNumber value c number
