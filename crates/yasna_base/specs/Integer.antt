-- INTEGER (X.690, 8.3).
use Rattle.std.specs.Prelude.{◌≡◌, ℕ, ◌-◌, ◌^◌, ◌<◌, ◌≤◌, List, [], ◌∷◌, length, map, if◌then◌else◌, nat_lt}
use Rattle.std.specs.Prelude.{ℤ, pos, negsuc, ◌-ℤ◌, FitsSigned}
use Rattle.std.specs.Int.{Width}
use Rattle.std.specs.Int.Digits.{number_from_digits}
use Rattle.yasna_base.specs.declared.mode.BERMode.{BERMode}
use Rattle.yasna_base.specs.declared.tag.Tag.{Tag}
use Rattle.yasna_base.specs.declared.tag.PCBit.TheVariants.{Primitive}
use Rattle.yasna_base.specs.Digits.{IsBytes, digits}
use Rattle.yasna_base.specs.Grammar.{Grammar, Encoding}
use Rattle.yasna_base.specs.Identifier.{universal}
use Rattle.yasna_base.specs.Element.{Primitively}
use Rattle.yasna_base.specs.Canonical.{canonical_element}
use Rattle.yasna_base.specs.Laws.{PrimitiveKeepsLaws}

-- the tag of INTEGER
abbrev pub integer_tag : Tag
integer_tag = universal 2

-- two's complement: the number read unsigned, less 256 ^ length where the first bit is set
unfoldable pub twos : List ℕ → ℤ
twos [] = pos 0
twos (x ∷ xs) =
    if nat_lt x 128
    then pos (number_from_digits 256 (x ∷ xs))
    else pos (number_from_digits 256 (x ∷ xs)) -ℤ pos (256 ^ length (x ∷ xs))

-- how far a number is from 0, or from -1 below it
abbrev pub distance : ℤ → ℕ
distance (pos n) = n
distance (negsuc n) = n

-- one byte at least, and where there are two, the first nine bits aren't all equal
abbrev pub IsMinimal : List ℕ → Type 0
IsMinimal [] = ⊥
IsMinimal (x ∷ []) = Unit {0}
IsMinimal (x ∷ y ∷ ys) = (x ≡ 0 → 128 ≤ y) × (x ≡ 255 → y < 128)

-- the contents c are the number z in the fewest bytes
pub record IsInteger (z : ℤ) (c : List ℕ) : Type 0 where
  pub in_bytes : IsBytes c
  pub minimal : IsMinimal c
  pub number : twos c ≡ z

-- a number v of a type whose values represent integers by f, and lie in InType
pub record IsNumber {A : Type 0} (f : A → ℤ) (InType : A → Type 0) (m : BERMode) (v : A) (c : List ℕ) : Type 0 where
  pub integer : IsInteger (f v) c
  pub in_type : InType v

-- a number of a signed type of the width w
abbrev pub IsSigned : Width → BERMode → ℤ → List ℕ → Type 0
IsSigned w m v c = IsNumber (λ z. z) (FitsSigned w) m v c

-- a number of an unsigned type of k bits
abbrev pub IsUnsigned : ℕ → BERMode → ℕ → List ℕ → Type 0
IsUnsigned k m v c = IsNumber pos (λ n. n < 2 ^ k) m v c

-- the grammar of a signed type under INTEGER's tag
abbrev pub EncodesSigned : Width → Grammar ℤ
EncodesSigned w = Primitively (IsSigned w) integer_tag

-- the grammar of an unsigned type under INTEGER's tag
abbrev pub EncodesUnsigned : ℕ → Grammar ℕ
EncodesUnsigned k = Primitively (IsUnsigned k) integer_tag

-- digits, after a zero where the first bit would be set
abbrev pub unsigned_bytes : List ℕ → List ℕ
unsigned_bytes [] = []
unsigned_bytes (x ∷ xs) = if nat_lt x 128 then (x ∷ xs) else (0 ∷ x ∷ xs)

-- the fewest bytes; those of -(n + 1) are those of n with each bit turned
unfoldable pub minimal_bytes : ℤ → List ℕ
minimal_bytes (pos n) = unsigned_bytes (digits 256 n)
minimal_bytes (negsuc n) = map (λ d. 255 - d) (unsigned_bytes (digits 256 n))

-- the encoding in a canonical mode
abbrev pub integer_encoding : Tag → Encoding ℤ
integer_encoding t m z = canonical_element m t Primitive (minimal_bytes z)

-- a signed type of each width satisfies the laws under any tag
abbrev pub SignedKeepsLaws : Type 0
SignedKeepsLaws = (w : Width) → PrimitiveKeepsLaws (IsSigned w) integer_encoding (FitsSigned w)

-- an unsigned type of each count of bits satisfies the laws under any tag
abbrev pub UnsignedKeepsLaws : Type 0
UnsignedKeepsLaws = (k : ℕ) → PrimitiveKeepsLaws (IsUnsigned k) (λ t m n. integer_encoding t m (pos n)) (λ n. n < 2 ^ k)
