-- The one encoding of a value in each canonical mode (X.690, 9, 10 and 11), its depth, and the laws of writing.
use Rattle.std.specs.Prelude.{◌≡◌, ℕ, ◌+◌, ◌^◌, ◌<◌, ◌≤◌, List, ◌∷◌, ◌++◌, length}
use Rattle.yasna_base.specs.declared.mode.BERMode.{BERMode}
use Rattle.yasna_base.specs.declared.mode.BERMode.TheVariants.{Ber, Der, Cer}
use Rattle.yasna_base.specs.declared.tag.Tag.{Tag}
use Rattle.yasna_base.specs.declared.tag.PCBit.{PCBit}
use Rattle.yasna_base.specs.declared.tag.PCBit.TheVariants.{Primitive, Constructed}
use Rattle.yasna_base.specs.Digits.{IsBytes}
use Rattle.yasna_base.specs.Element.{end_of_contents}
use Rattle.yasna_base.specs.Grammar.{Grammar, Encoding, Depth}
use Rattle.yasna_base.specs.Identifier.{identifier}
use Rattle.yasna_base.specs.Length.{shortest_length}

-- the modes in which a value has one encoding
abbrev pub IsCanonicalMode : BERMode → Type 0
IsCanonicalMode Ber = ⊥
IsCanonicalMode Der = Unit {0}
IsCanonicalMode Cer = Unit {0}

-- the encoding of the first mode is in the grammar of the second
abbrev pub HoldsEncoding : BERMode → BERMode → Type 0
HoldsEncoding Ber o = ⊥
HoldsEncoding Der Ber = Unit {0}
HoldsEncoding Der Der = Unit {0}
HoldsEncoding Der Cer = ⊥
HoldsEncoding Cer Ber = Unit {0}
HoldsEncoding Cer Der = ⊥
HoldsEncoding Cer Cer = Unit {0}

-- identifier, length of the fewest bytes, contents
unfoldable pub definite_element : Tag → PCBit → List ℕ → List ℕ
definite_element t bit c = identifier t bit ++ (shortest_length (length c) ++ c)

-- identifier, 128, contents, two zeros
unfoldable pub indefinite_element : Tag → List ℕ → List ℕ
indefinite_element t c = identifier t Constructed ++ (128 ∷ (c ++ end_of_contents))

-- in CER the length is indefinite where the contents are elements (X.690, 9.1)
unfoldable pub canonical_element : BERMode → Tag → PCBit → List ℕ → List ℕ
canonical_element m t Primitive c = definite_element t Primitive c
canonical_element Cer t Constructed c = indefinite_element t c
canonical_element m t Constructed c = definite_element t Constructed c

-- a value with no parts of its own
abbrev pub leaf_depth : {A : Type 0} → Depth A
leaf_depth m v = 1

-- an element around contents
abbrev pub enclosed_encoding : {A : Type 0} → Encoding A → Tag → Encoding A
enclosed_encoding encoding t m v = canonical_element m t Constructed (encoding m v)

-- it is one level deeper than its contents
abbrev pub enclosed_depth : {A : Type 0} → Depth A → Depth A
enclosed_depth depth m v = 1 + depth m v

-- every value can be written
abbrev pub Always : {A : Type 0} → A → Type 0
Always v = Unit {0}

-- Can m says which values can be written in the mode m, which may differ by mode
pub record HasEncoding {A : Type 0} (B : Grammar A) (encoding : Encoding A) (depth : Depth A) (Can : BERMode → A → Type 0) : Type 0 where
  -- the encoding is bytes
  pub in_bytes : (m : BERMode) (v : A) → Can m v → length (encoding m v) < 2 ^ 64 → IsBytes (encoding m v)
  -- the encoding is read, in its mode and in BER
  pub holds : (m o : BERMode) (n : ℕ) (v : A) → HoldsEncoding m o → Can m v → depth m v ≤ n → length (encoding m v) < 2 ^ 64 → B o n v (encoding m v)
  -- a canonical mode reads nothing but the encoding
  pub only : (m : BERMode) (n : ℕ) (v : A) (b : List ℕ) → IsCanonicalMode m → B m n v b → (b ≡ encoding m v) × Can m v × (depth m v ≤ n)

-- the laws of writing of a type: any mode can write what BER reads
pub record IsWritten {A : Type 0} (E : A → A → Type 0) (B : Grammar A) (encoding : Encoding A) (depth : Depth A) (Can : A → Type 0) : Type 0 where
  pub has : HasEncoding B encoding depth (λ m. Can)
  pub any : (n : ℕ) (v : A) (b : List ℕ) → B Ber n v b → Can v × (depth Der v ≤ n)
  -- equal values are written alike
  pub same : (m : BERMode) (v w : A) → E v w → (encoding m v ≡ encoding m w) × (Can v → Can w) × (depth m v ≡ depth m w)
