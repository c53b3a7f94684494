-- A SET OF whose values are in no order: its laws, and what is written of its elements.
use Rattle.std.proofs.Common.{◌≡◌, [], ℕ, List, Bool, Vec, Option, Some, Result}
use Rattle.std.specs.Global.{Global}
use Rattle.std.specs.List.{AllByRecursion}
use Rattle.std.specs.Prelude.{MatchOption, MatchResult}
use Rattle.yasna_base.specs.declared.error.ASN1Error.{ASN1Error}
use Rattle.yasna_base.specs.declared.error.ASN1ErrorKind.TheVariants.{OutOfMemory}
use Rattle.yasna_base.specs.declared.tag.Tag.{Tag}
use Rattle.yasna_base.specs.AnyOrder.{SameSetOf, InSomeOrder, sorted_set_of_encoding}
use Rattle.yasna_base.specs.Error.{kind_of}
use Rattle.yasna_base.specs.Exact.{Fitting, enclosed_fits, elements_fit}
use Rattle.yasna_base.specs.Grammar.{Grammar, Members, Encoding}
use Rattle.yasna_base.specs.Set.{IsSetOf, AnySetOf}
use Rattle.yasna_base.specs.UnderTags.{IsExactUnderTags}
use Rattle.yasna_base.proofs.AnyOrder.{any_set_of, any_set_of_exact}
use Rattle.yasna_base.proofs.Coding.{along}
use Rattle.yasna_base.proofs.Exact.{exact_along}
use Rattle.yasna_writer.specs.Parts.{WrittenParts}
use Rattle.yasna_writer.specs.View.{Written}
use Rattle.yasna_notation.specs.Notation.{IsNotation}

-- a SET OF satisfies its laws under any tag
pub set_of_laws : {A : Type 0} {tags_known : Bool} {ts : List Tag} {E : A → A → Type 0} {B : Grammar A} {S : Members} {encoding : Encoding A} {Fits : Fitting A}
    {Can : A → Type 0} → IsNotation tags_known ts E B S encoding Fits Can →
    IsExactUnderTags (λ (v w : Vec A Global). SameSetOf E v.items w.items) (λ t m n (v : Vec A Global) b. InSomeOrder (IsSetOf B t) m n v.items b)
    (λ t. AnySetOf S t) (λ t m (v : Vec A Global). sorted_set_of_encoding encoding t m v.items)
    (λ m n (v : Vec A Global). enclosed_fits (elements_fit Fits) m n v.items) (λ (v : Vec A Global). AllByRecursion Can v.items)
set_of_laws {A} x t not_end range =
    let items = λ (v : Vec A Global). v.items in
    (along items (any_set_of t not_end x.coding), exact_along items (any_set_of_exact t range x.exact))

-- what holds bytes
abbrev pub HasOctets : List ℕ → Type 0
HasOctets b = b ≡ [] → ⊥

-- an out-of-memory error
abbrev pub IsOutOfMemory : ASN1Error → Type 0
IsOutOfMemory e = kind_of e ≡ OutOfMemory

-- if an error is sticky, it is when out of memory
abbrev pub FailsOnlyOutOfMemory : Option ASN1Error → Type 0
FailsOnlyOutOfMemory failed = MatchOption failed (Unit {0}) IsOutOfMemory

-- a sticky error stays; else b was written, or there is no memory, and where nothing is sticky then, something was written
abbrev pub WroteElement : List ℕ → Written → Written → Result (Unit {0}) ASN1Error → Type 0
WroteElement b old new result =
    MatchOption old.failed
    (MatchOption new.failed (MatchResult result (λ _. new.bytes ≡ b) (λ e. IsOutOfMemory e × HasOctets new.bytes)) IsOutOfMemory)
    (λ k. new.failed ≡ Some k)

-- the parts are these, or there is no memory, and no part is empty
abbrev pub MadeParts : List (List ℕ) → List (List ℕ) → Result (Unit {0}) ASN1Error → Type 0
MadeParts these parts result = MatchResult result (λ _. parts ≡ these) (λ e. IsOutOfMemory e × AllByRecursion HasOctets parts)

-- a set was left with these parts, unless `OutOfMemory` is sticky
abbrev pub WroteElements : List (List ℕ) → WrittenParts → Result (Unit {0}) ASN1Error → Type 0
WroteElements these left result = MatchOption left.failed (MadeParts these left.parts result) IsOutOfMemory
