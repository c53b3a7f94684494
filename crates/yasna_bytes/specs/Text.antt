-- What reading a string does whose octets say a value, as those of a character string do (X.690, 8.23).
use Rattle.std.specs.Borrow.{Bor}
use Rattle.std.specs.Global.{Global}
use Rattle.std.specs.List.{AllByRecursion}
use Rattle.std.specs.Prelude.{◌≡◌, ◌⊎◌, ℕ, ◌%◌, List, [], length, Result, Ok, Err, String, string_bytes}
use Rattle.std.specs.Str.{IsUtf8}
use Rattle.yasna_base.specs.Octets.{IsDeepOctets}
use Rattle.yasna_base.specs.Text.{InUtf8, InNumeric, InPrintable, InIa5, InVisible, IsUtf8In, IsBmp, IsStringOf}
use Rattle.yasna_base.specs.declared.error.ASN1ErrorKind.{ASN1ErrorKind}
use Rattle.yasna_base.specs.declared.error.ASN1ErrorKind.TheVariants.{OutOfMemory}
use Rattle.yasna_base.specs.declared.mode.BERMode.{BERMode}
use Rattle.yasna_base.specs.declared.tag.Tag.{Tag}
use Rattle.yasna_bytes.specs.Contents.{MayAllocate}
use Rattle.yasna_bytes.specs.Prefix.{SeenAt}
use Rattle.yasna_bytes.specs.Rejection.{BlamesBytes, IsElsewhere}
use Rattle.yasna_bytes.specs.declared.bytes.header.Rejection.{Rejection}
use Rattle.yasna_bytes.specs.declared.bytes.text.Class.{Class}
use Rattle.yasna_bytes.specs.declared.bytes.text.Class.TheVariants.{Utf8, Numeric, Printable, Ia5, Visible, Bmp}

-- octets are taken exactly where they say by W what the view of a value is
abbrev pub Judges : {V A : Type 0} → (A → List ℕ → Type 0) → (V → A) → List ℕ → Result V ASN1ErrorKind → Type 0
Judges W view o (Ok v) = W (view v) o
Judges {V} {A} W view o (Err k) = ((k ≡ OutOfMemory) × (o ≡ [] → ⊥)) ⊎ (BlamesBytes k × ((v : A) → W v o → ⊥))

-- a string whose octets say by K what the view of a value is, and the rest, or an error
abbrev pub JudgedAt : {V A : Type 0} → (BERMode → A → List ℕ → Type 0) → (V → A) → ℕ → BERMode → Tag → List ℕ → Result (V × Bor (List ℕ)) Rejection → Type 0
JudgedAt K view n m t s r = SeenAt (IsStringOf K t m n) view (IsDeepOctets t m n s) (MayAllocate n t s) (IsElsewhere t s) s r

-- what the octets of a text of each class say
abbrev pub SpellsText : Class → BERMode → List ℕ → List ℕ → Type 0
SpellsText Utf8 m text o = IsUtf8In InUtf8 m text o
SpellsText Numeric m text o = IsUtf8In InNumeric m text o
SpellsText Printable m text o = IsUtf8In InPrintable m text o
SpellsText Ia5 m text o = IsUtf8In InIa5 m text o
SpellsText Visible m text o = IsUtf8In InVisible m text o
SpellsText Bmp m text o = IsBmp m text o

-- octets are a string's bytes where they are UTF-8
abbrev pub Utf8At : List ℕ → Result (String Global) ASN1ErrorKind → Type 0
Utf8At o (Ok text) = string_bytes text ≡ o
Utf8At o (Err k) = ((k ≡ OutOfMemory) × (o ≡ [] → ⊥)) ⊎ (BlamesBytes k × (IsUtf8 o → ⊥))

-- what the class requires of each octet, or of their number
abbrev pub MayHold : Class → List ℕ → Type 0
MayHold Utf8 o = Unit {0}
MayHold Numeric o = AllByRecursion InNumeric o
MayHold Printable o = AllByRecursion InPrintable o
MayHold Ia5 o = AllByRecursion InIa5 o
MayHold Visible o = AllByRecursion InVisible o
MayHold Bmp o = length o % 2 ≡ 0
