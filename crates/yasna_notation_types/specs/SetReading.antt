-- What reading the parts of a SET does, after its elements were found (X.690, 8.11 and 11.5).
use Rattle.std.proofs.Common.{◌≡◌, ◌∷◌, ◌++◌, [], ◌&&◌, ℕ, List, Bool, true, false, Option, Some, None, Result, Ok, Err}
use Rattle.std.specs.List.{AllByRecursion}
use Rattle.std.specs.Prelude.{map, if◌then◌else◌}
use Rattle.yasna_base.specs.declared.error.ASN1Error.{ASN1Error}
use Rattle.yasna_base.specs.declared.error.ASN1ErrorKind.TheVariants.{OutOfMemory}
use Rattle.yasna_base.specs.declared.mode.BERMode.{BERMode}
use Rattle.yasna_base.specs.declared.mode.BERMode.TheVariants.{Ber, Der, Cer}
use Rattle.yasna_base.specs.declared.tag.Tag.{Tag}
use Rattle.yasna_base.specs.Beginnings.{BeginsWithOne}
use Rattle.yasna_base.specs.Error.{kind_of}
use Rattle.yasna_base.specs.Grammar.{Grammar, Members}
use Rattle.yasna_base.specs.Raw.{RawValue}
use Rattle.yasna_notation.specs.declared.choices.Either.{Either}
use Rattle.yasna_notation.specs.declared.choices.Either.TheVariants.{Second}
use Rattle.yasna_reader.specs.declared.set.SetElement.{SetElement}
use Rattle.yasna_reader.specs.Parse.{unless_failed}
use Rattle.yasna_reader.specs.Set.{SetReading, all_taken}
use Rattle.yasna_reader.specs.SetLaws.{IsElementOf}
use Rattle.yasna_reader.specs.State.{IsFresh}
use Rattle.yasna_notation_types.specs.SetParts.{Pieced}

-- the bytes of elements
abbrev pub encodings_of : List SetElement → List (List ℕ)
encodings_of l = map (λ (x : SetElement). x.bytes.now) l

-- each element has the tag and the bytes of a raw value
abbrev pub AreFound : ℕ → BERMode → List SetElement → Type 0
AreFound n m l = AllByRecursion (λ (x : SetElement). (v : RawValue) × IsElementOf n m x v) l

-- what a SET returns where its parts returned r and c is left: a sticky error comes first, and all elements have to be taken
abbrev pub set_result : {A : Type 0} → Result A ASN1Error → SetReading → Result A ASN1Error
set_result r c = unless_failed c.reader.failed (all_taken r c.list.items)

-- a value whose parts the encodings ps are; or an error, and then no value has them, unless memory ran out
abbrev pub ReadsPicks : {V : Type 0} → (V → List (List ℕ) → Type 0) → List (List ℕ) → Result V ASN1Error → Type 0
ReadsPicks P ps (Ok v) = P v ps
ReadsPicks {V} P ps (Err e) = (kind_of e ≡ OutOfMemory → ⊥) → (v : V) → P v ps → ⊥

-- what reading parts from the elements does, as the result of the whole SET
pub record ReadsSetParts {V : Type 0} (P : Pieced V) (c : SetReading) (r : Result V ASN1Error) (c' : SetReading) : Type 0 where
  pub reads : IsFresh c.reader → AreFound c.reader.levels c.reader.mode c.list.items →
      ReadsPicks (P c.reader.mode c.reader.levels) (encodings_of c.list.items) (set_result r c')

-- one of the elements, with one of the tags, was chosen, and read as v
pub record Chose {A : Type 0} (B : A → List ℕ → Type 0) (ts : List Tag) (c : SetReading) (v : A) (c' : SetReading) : Type 0 where
  pub before : List (List ℕ)
  pub one : List ℕ
  pub after : List (List ℕ)
  pub whole : encodings_of c.list.items ≡ before ++ (one ∷ after)
  pub others : encodings_of c'.list.items ≡ before ++ after
  pub has_tag : BeginsWithOne ts one
  pub encodes : B v one
  pub reader : c'.reader ≡ record c.reader { left = [] }
  pub found : AreFound c.reader.levels c.reader.mode c'.list.items

-- no element has one of the tags
pub record ChoseNone (ts : List Tag) (c c' : SetReading) : Type 0 where
  pub none : AllByRecursion (λ b. BeginsWithOne ts b → ⊥) (encodings_of c.list.items)
  pub others : c'.list.items ≡ c.list.items
  pub reader : c'.reader ≡ c.reader

-- one of the elements, with one of the tags, was chosen, and is no encoding unless memory ran out
pub record ChoseWrong (S : List ℕ → Type 0) (ts : List Tag) (c : SetReading) (e : ASN1Error) (c' : SetReading) : Type 0 where
  pub before : List (List ℕ)
  pub one : List ℕ
  pub after : List (List ℕ)
  pub whole : encodings_of c.list.items ≡ before ++ (one ∷ after)
  pub has_tag : BeginsWithOne ts one
  pub none : (kind_of e ≡ OutOfMemory → ⊥) → S one → ⊥
  pub is_sticky : c'.reader.failed ≡ Some e

-- what choosing an element by its tag, and reading it, returns
abbrev pub ChosenIs : {A : Type 0} → Grammar A → Members → List Tag → SetReading → Result (Option A) ASN1Error → SetReading → Type 0
ChosenIs B S ts c (Ok (Some v)) c' = Chose (B c.reader.mode c.reader.levels) ts c v c'
ChosenIs B S ts c (Ok None) c' = ChoseNone ts c c'
ChosenIs B S ts c (Err e) c' = ChoseWrong (S c.reader.mode c.reader.levels) ts c e c'

-- what reading one part of a SET does, whose element has one of the tags
pub record ReadsSetPart {A : Type 0} (ts : List Tag) (B : Grammar A) (S : Members) (c : SetReading) (r : Result (Option A) ASN1Error) (c' : SetReading) : Type 0 where
  pub reads : IsFresh c.reader → AreFound c.reader.levels c.reader.mode c.list.items → ChosenIs B S ts c r c'

-- whether a mode rejects the encoding of a default
abbrev pub rejects_default : BERMode → Bool
rejects_default Ber = false
rejects_default Der = true
rejects_default Cer = true

-- the value of a part with a default, if the mode allows what was found
abbrev pub value_or_default : {A : Type 0} → (A → Bool) → A → BERMode → Option A → Option A
value_or_default is d m None = Some d
value_or_default is d m (Some v) = if rejects_default m && is v then None else Some v

-- a value of the second type, if one was read
abbrev pub as_second : {A V : Type 0} → Result (Option V) ASN1Error → Result (Option (Either A V)) ASN1Error
as_second (Ok (Some w)) = Ok (Some (Second w))
as_second (Ok None) = Ok None
as_second (Err e) = Err e
