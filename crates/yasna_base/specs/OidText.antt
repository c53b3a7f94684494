-- The texts of object identifiers, and why one wasn't read.
use Rattle.std.specs.Fmt.{decimal}
use Rattle.std.specs.List.{AllZip, join_by, slice_split}
use Rattle.std.specs.Prelude.{◌≡◌, ◌==◌, ℕ, ◌^◌, ◌<◌, List, ◌∷◌, codes, Bool, true, false}
use Rattle.std.specs.Str.Parse.{IsNumeral, digits_value, without_leading_plus}
use Rattle.yasna_base.specs.declared.models.oid_text.ParseOidError.{ParseOidError}

-- the components in decimal, joined by dots
abbrev pub oid_text : List ℕ → List ℕ
oid_text cs = join_by decimal (codes ".") cs

-- a part of a text is a number of 64 bits: a plus or none, and one or more digits
pub record IsComponent (part : List ℕ) (n : ℕ) : Type 0 where
  pub digits : IsNumeral 10 (without_leading_plus part)
  pub value : digits_value 10 (without_leading_plus part) ≡ n
  pub in_range : n < 2 ^ 64

-- the character between two components
abbrev pub is_dot : ℕ → Bool
is_dot c = c == 46

-- the parts of a text between its dots are the components
abbrev pub IsOidText : List ℕ → List ℕ → Type 0
IsOidText text cs = AllZip IsComponent (slice_split is_dot text) cs

-- the first part of the text is a component
abbrev pub BeginsWithComponent : List ℕ → Type 0
BeginsWithComponent text =
    (n : ℕ) × (part : List ℕ) × (parts : List (List ℕ)) × (slice_split is_dot text ≡ part ∷ parts) × IsComponent part n

-- whether a text wasn't read when out of memory
abbrev pub ran_out_of_memory : ParseOidError → Bool
ran_out_of_memory e = e.out_of_memory

-- what is printed of that
abbrev pub oid_error_text : Bool → List ℕ
oid_error_text true = codes "Out of memory"
oid_error_text false = codes "Failed to parse OID"
