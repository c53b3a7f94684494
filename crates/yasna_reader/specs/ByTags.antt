-- What reads do of types that tags distinguish: if none of their tags is next, they consume nothing, and no error is sticky.
use Rattle.std.specs.List.{AllByRecursion}
use Rattle.std.specs.Prelude.{Bool, Err, List, Ok, Result, ℕ, ◌≡◌}
use Rattle.yasna_base.specs.Grammar.{Grammar, Members}
use Rattle.yasna_base.specs.Error.{kind_of}
use Rattle.yasna_base.specs.declared.error.ASN1Error.{ASN1Error}
use Rattle.yasna_base.specs.declared.tag.Tag.{Tag}
use Rattle.yasna_bytes.specs.Rejection.{BlamesBytes, IsElsewhere}
use Rattle.yasna_reader.specs.Decodes.{Decodes}
use Rattle.yasna_reader.specs.State.{Reading, Does}

-- s begins with none of the tags: nothing is left, or another tag is next
abbrev pub AreElsewhere : List Tag → List ℕ → Type 0
AreElsewhere ts s = AllByRecursion (λ t. IsElsewhere t s) ts

-- there the read consumes nothing, and no error is sticky, and its Err isn't of memory or of depth
abbrev pub NoMatchElsewhere : {A : Type 0} → List Tag → Does A
NoMatchElsewhere ts s (Ok v) s' = Unit {0}
NoMatchElsewhere ts s (Err e) s' = AreElsewhere ts s.left → (s' ≡ s) × BlamesBytes (kind_of e)

-- what reading a value does of a type that begins with one of the tags
pub record DecodesByTags {A : Type 0} (ts : List Tag) (may_allocate : Bool) (B : Grammar A) (S : Members) (s : Reading) (r : Result A ASN1Error)
    (s' : Reading) :
    Type 0 where
  pub decodes : Decodes may_allocate B S s r s'
  pub no_match : NoMatchElsewhere ts s r s'
