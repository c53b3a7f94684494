-- Which words the program takes.
use Rattle.std.specs.Prelude.{◌≡◌, List, [], ◌∷◌, ℕ, codes}
use Rattle.yasna.specs.base.declared.mode.BERMode.{BERMode}
use Rattle.yasna.specs.base.declared.mode.BERMode.TheVariants.{Ber, Der, Cer}
use Rattle.yasna_tool_run.specs.declared.value_type.ValueType.{ValueType}
use Rattle.yasna_tool_run.specs.declared.value_type.ValueType.TheVariants.{Pair, Int, Bool, Null, Octets, Text, Oid, Utime, Gtime, Ints}

-- the word for a mode
abbrev pub mode_word : BERMode → List ℕ
mode_word Ber = codes "ber"
mode_word Der = codes "der"
mode_word Cer = codes "cer"

-- the word for a kind of value
abbrev pub kind_word : ValueType → List ℕ
kind_word Pair = codes "pair"
kind_word Int = codes "int"
kind_word Bool = codes "bool"
kind_word Null = codes "null"
kind_word Octets = codes "octets"
kind_word Text = codes "text"
kind_word Oid = codes "oid"
kind_word Utime = codes "utime"
kind_word Gtime = codes "gtime"
kind_word Ints = codes "ints"

-- the words are this mode and this kind, and no more
abbrev pub AreWords : BERMode → ValueType → List (List ℕ) → Type 0
AreWords m k words = words ≡ mode_word m ∷ kind_word k ∷ []

-- the words are some mode and some kind, and no more
abbrev pub AreTaken : List (List ℕ) → Type 0
AreTaken words = (m : BERMode) × (k : ValueType) × AreWords m k words
