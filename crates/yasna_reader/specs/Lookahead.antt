-- What a look at the next tag returns.
use Rattle.std.specs.Prelude.{Err, List, None, Ok, Option, Result, Some, ℕ, ◌<◌, ◌^◌, ◌≡◌}
use Rattle.yasna_base.specs.Error.{kind_of}
use Rattle.yasna_base.specs.Identifier.{AtEnd, BeginsWithTag}
use Rattle.yasna_base.specs.declared.error.ASN1Error.{ASN1Error}
use Rattle.yasna_base.specs.declared.tag.Tag.{Tag}
use Rattle.yasna_bytes.specs.Rejection.{BlamesBytes}

-- the tag with whose identifier s begins, or that s begins with none
abbrev pub FindsTag : List ℕ → Result Tag ASN1Error → Type 0
FindsTag s (Ok t) = BeginsWithTag t s
FindsTag s (Err e) = BlamesBytes (kind_of e) × ((t : Tag) → t.tag_number < 2 ^ 64 → BeginsWithTag t s → ⊥)

-- a sticky error comes first
abbrev pub LooksAhead : Option ASN1Error → List ℕ → Result Tag ASN1Error → Type 0
LooksAhead (Some e) s r = r ≡ Err e
LooksAhead None s r = FindsTag s r

-- an error is sticky, or contents end here
abbrev pub NothingFollows : Option ASN1Error → List ℕ → Type 0
NothingFollows (Some e) s = Unit {0}
NothingFollows None s = AtEnd s
