-- How values are shown, where there is a choice.
use Rattle.std.specs.Prelude.{◌≡◌, ◌⊎◌, ◌≤◌, ℕ, List, length, true, Option, Some, None}
use Rattle.std.specs.Borrow.{Bor}
use Rattle.std.specs.Str.{IsUtf8}
use Rattle.std.specs.List.{AllByRecursion}
use Rattle.yasna_base.specs.Text.{InVisible}
use Rattle.yasna_base.specs.declared.tag.Tag.{Tag}
use Rattle.yasna_base.specs.declared.tag.TagClass.{TagClass}
use Rattle.yasna_base.specs.declared.tag.TagClass.TheVariants.{ContextSpecific}
use Rattle.asn1show_printer.specs.Types.{is_utf8, type_with}
use Rattle.asn1show_printer.specs.declared.value.Numbers.{Numbers}
use Rattle.asn1show_printer.specs.declared.value.Numbers.TheVariants.{Hexadecimal, Decimal}

-- the most octets of a number that is shown in decimal
abbrev pub longest_decimal : Numbers → ℕ
longest_decimal Hexadecimal = 8
longest_decimal Decimal = 2048

-- a number with these contents is shown in decimal, and else in hexadecimal
abbrev pub IsShownInDecimal : Numbers → List ℕ → Type 0
IsShownInDecimal numbers c = length c ≤ longest_decimal numbers

-- the contents of a primitive element with a tag of a class are shown as text: of a context-specific one one or more characters of VisibleString
pub record IsShownAsText (class : TagClass) (c : List ℕ) : Type 0 where
  pub context : class ≡ ContextSpecific
  pub some : 1 ≤ length c
  pub visible : AllByRecursion InVisible c

-- the contents of a primitive element with a tag are shown as characters in UTF-8 or ASCII
abbrev pub HasCharacters : Tag → List ℕ → Type 0
HasCharacters tag c = (is_utf8 (type_with tag) ≡ true) ⊎ IsShownAsText tag.tag_class c

-- the characters of such contents, if they are in UTF-8 as said
abbrev pub IsCharactersOf : Tag → List ℕ → Option (Bor (List ℕ)) → Type 0
IsCharactersOf tag c None = HasCharacters tag c → IsUtf8 c → ⊥
IsCharactersOf tag c (Some text) = HasCharacters tag c × (text.now ≡ c)
