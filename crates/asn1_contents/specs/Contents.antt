-- The contents of primitive elements, and those in DER of the same value (X.690, 8 and 11).
use Rattle.std.specs.Prelude.{◌≡◌, ℕ, ℤ, List, []}
use Rattle.yasna_base.specs.Integer.{IsInteger}
use Rattle.yasna_base.specs.declared.mode.BERMode.{BERMode}
use Rattle.yasna_base.specs.declared.mode.BERMode.TheVariants.{Der}
use Rattle.yasna_bytes.specs.Text.{SpellsText}
use Rattle.yasna_bytes.specs.declared.bytes.text.Class.{Class}
use Rattle.yasna_times.specs.GeneralizedTime.{SpellsGeneralizedTime}
use Rattle.yasna_times.specs.UtcTime.{SpellsUtcTime}
use Rattle.asn1_contents.specs.Subidentifiers.{AreSubidentifiers}
use Rattle.asn1_contents.specs.declared.contents_type.ContentsType.{ContentsType}
use Rattle.asn1_contents.specs.declared.contents_type.ContentsType.TheVariants.{Number, Nothing, Subidentifiers, Text, UtcTime, GeneralizedTime, Octets}

-- octets spell a text of a class
abbrev pub IsTextOf : Class → List ℕ → Type 0
IsTextOf class c = (text : List ℕ) × SpellsText class Der text c

-- contents of a type of which BER and DER have the same: a number in the fewest octets, none, subidentifiers, a text, any octets
abbrev pub ArePlain : ContentsType → List ℕ → Type 0
ArePlain Number c = (z : ℤ) × IsInteger z c
ArePlain Nothing c = c ≡ []
ArePlain Subidentifiers c = AreSubidentifiers c
ArePlain (Text class) c = IsTextOf class c
ArePlain UtcTime c = ⊥
ArePlain GeneralizedTime c = ⊥
ArePlain Octets c = Unit {0}

-- c spells a value in the mode, and d spells it in DER
pub record SpellsSame {A : Type 0} (S : BERMode → A → List ℕ → Type 0) (m : BERMode) (d c : List ℕ) : Type 0 where
  pub value : A
  pub read : S m value c
  pub written : S Der value d

-- c is a UTCTime in the mode, and d the same date-time in DER
abbrev pub IsUtcTimeOf : BERMode → List ℕ → List ℕ → Type 0
IsUtcTimeOf = SpellsSame SpellsUtcTime

-- c is a GeneralizedTime in the mode, and d the same moment in DER
abbrev pub IsGeneralizedTimeOf : BERMode → List ℕ → List ℕ → Type 0
IsGeneralizedTimeOf = SpellsSame SpellsGeneralizedTime

-- contents are their own in DER, and those of such a type
pub record IsPlainOf (k : ContentsType) (d c : List ℕ) : Type 0 where
  pub same : d ≡ c
  pub plain : ArePlain k c

-- the contents c of a type encode in the mode a value whose contents in DER are d
abbrev pub HasContents : ContentsType → BERMode → List ℕ → List ℕ → Type 0
HasContents UtcTime m d c = IsUtcTimeOf m d c
HasContents GeneralizedTime m d c = IsGeneralizedTimeOf m d c
HasContents k m d c = IsPlainOf k d c
