-- The types that have words of their own, by their first words, and the tags of those that are kept as they came (X.680, 8.6 and 18 to 48).
use Rattle.std.specs.Prelude.{◌≡◌, ◌⊎◌, ℕ, List, codes}
use Rattle.asn1_types.specs.declared.builtins.Builtin.{Builtin}
use Rattle.asn1_types.specs.declared.builtins.Builtin.TheVariants.{Boolean, Null, Integer, ObjectIdentifier, OctetString, BitString, Enumerated, Text, UtcTime, GeneralizedTime, Any, Octets, Elements}
use Rattle.asn1_types.specs.declared.model.Loosening.{Loosening}
use Rattle.asn1_types.specs.declared.model.Loosening.TheVariants.{Characters, Contained}
use Rattle.asn1_types.specs.declared.model.TextKind.{TextKind}
use Rattle.asn1_types.specs.declared.model.TextKind.TheVariants.{Utf8, Numeric, Printable, Ia5, Visible, Bmp}

-- a word is that of a string of characters that are read
abbrev pub IsTextWord : TextKind → List ℕ → Type 0
IsTextWord Utf8 word = word ≡ codes "UTF8String"
IsTextWord Numeric word = word ≡ codes "NumericString"
IsTextWord Printable word = word ≡ codes "PrintableString"
IsTextWord Ia5 word = word ≡ codes "IA5String"
IsTextWord Visible word = (word ≡ codes "VisibleString") ⊎ (word ≡ codes "ISO646String")
IsTextWord Bmp word = word ≡ codes "BMPString"

-- a word is that of a string of other characters, with the number of its UNIVERSAL tag
pub data IsUnreadWord (number : ℕ) (word : List ℕ) : Type 0 where
  object_descriptor : number ≡ 7 → word ≡ codes "ObjectDescriptor" → IsUnreadWord number word
  teletex : number ≡ 20 → word ≡ codes "TeletexString" → IsUnreadWord number word
  t61 : number ≡ 20 → word ≡ codes "T61String" → IsUnreadWord number word
  videotex : number ≡ 21 → word ≡ codes "VideotexString" → IsUnreadWord number word
  graphic : number ≡ 25 → word ≡ codes "GraphicString" → IsUnreadWord number word
  general : number ≡ 27 → word ≡ codes "GeneralString" → IsUnreadWord number word
  universal : number ≡ 28 → word ≡ codes "UniversalString" → IsUnreadWord number word

-- a word is that of another type with contents of octets, with the number of its UNIVERSAL tag
pub data IsContainedWord (number : ℕ) (word : List ℕ) : Type 0 where
  real : number ≡ 9 → word ≡ codes "REAL" → IsContainedWord number word
  relative_oid : number ≡ 13 → word ≡ codes "RELATIVE-OID" → IsContainedWord number word

-- a word begins a type of several elements, with the number of its UNIVERSAL tag
pub data IsElementsWord (number : ℕ) (word : List ℕ) : Type 0 where
  external : number ≡ 8 → word ≡ codes "EXTERNAL" → IsElementsWord number word
  instance : number ≡ 8 → word ≡ codes "INSTANCE" → IsElementsWord number word
  embedded : number ≡ 11 → word ≡ codes "EMBEDDED" → IsElementsWord number word
  character : number ≡ 29 → word ≡ codes "CHARACTER" → IsElementsWord number word

-- what of a type of octets is omitted: its characters, or what it contains
abbrev pub IsOctetsWord : ℕ → Loosening → List ℕ → Type 0
IsOctetsWord number what word =
    ((what ≡ Characters) × IsUnreadWord number word) ⊎ ((what ≡ Contained) × IsContainedWord number word)

-- a word begins a type
abbrev pub IsWordOf : Builtin → List ℕ → Type 0
IsWordOf Boolean word = word ≡ codes "BOOLEAN"
IsWordOf Null word = word ≡ codes "NULL"
IsWordOf Integer word = word ≡ codes "INTEGER"
IsWordOf ObjectIdentifier word = word ≡ codes "OBJECT"
IsWordOf OctetString word = word ≡ codes "OCTET"
IsWordOf BitString word = word ≡ codes "BIT"
IsWordOf Enumerated word = word ≡ codes "ENUMERATED"
IsWordOf (Text kind) word = IsTextWord kind word
IsWordOf UtcTime word = word ≡ codes "UTCTime"
IsWordOf GeneralizedTime word = word ≡ codes "GeneralizedTime"
IsWordOf Any word = word ≡ codes "ANY"
IsWordOf (Octets number what) word = IsOctetsWord number what word
IsWordOf (Elements number) word = IsElementsWord number word

-- a word is none of those that have one type each
pub record IsNoPlainWord (word : List ℕ) : Type 0 where
  pub boolean : word ≡ codes "BOOLEAN" → ⊥
  pub null : word ≡ codes "NULL" → ⊥
  pub integer : word ≡ codes "INTEGER" → ⊥
  pub object : word ≡ codes "OBJECT" → ⊥
  pub octet : word ≡ codes "OCTET" → ⊥
  pub bit : word ≡ codes "BIT" → ⊥
  pub enumerated : word ≡ codes "ENUMERATED" → ⊥
  pub utc_time : word ≡ codes "UTCTime" → ⊥
  pub generalized_time : word ≡ codes "GeneralizedTime" → ⊥
  pub any : word ≡ codes "ANY" → ⊥

-- a word is none of a type whose contents are not read
pub record IsNotUnread (word : List ℕ) : Type 0 where
  pub strings : (number : ℕ) → IsUnreadWord number word → ⊥
  pub contained : (number : ℕ) → IsContainedWord number word → ⊥
  pub elements : (number : ℕ) → IsElementsWord number word → ⊥

-- no type begins with a word
abbrev pub IsNoWord : List ℕ → Type 0
IsNoWord word = (b : Builtin) → IsWordOf b word → ⊥
