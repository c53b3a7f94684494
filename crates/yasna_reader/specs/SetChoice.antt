-- How a callback takes an element of a SET by its tag, and is lent its reading (X.690, 8.11).
use Rattle.std.specs.Borrow.{Fml, LendsSoOk, MutBor, RattleType}
use Rattle.std.specs.List.{AllWithin, Contains, HoldsAt, remove}
use Rattle.std.specs.Prelude.{Err, List, MatchResult, None, Ok, Option, Result, Some, length, ℕ, ◌<◌, ◌≡◌}
use Rattle.yasna_base.specs.Error.{error_of}
use Rattle.yasna_base.specs.declared.error.ASN1Error.{ASN1Error}
use Rattle.yasna_base.specs.declared.error.ASN1ErrorKind.TheVariants.{Invalid}
use Rattle.yasna_base.specs.declared.tag.Tag.{Tag}
use Rattle.yasna_reader.specs.State.{Reading, untagged}
use Rattle.yasna_reader.specs.contracts.set.Chosen.{the_row}
use Rattle.yasna_reader.specs.declared.set.Chosen.{Chosen}
use Rattle.yasna_reader.specs.declared.set.SetElement.{SetElement}

-- the element's tag is one of these
abbrev pub IsAmong : List Tag → SetElement → Type 0
IsAmong ts x = Contains ts x.tag

-- the first such element is that at i
pub record IsFirstAmong (ts : List Tag) (l : List SetElement) (i : ℕ) : Type 0 where
  pub inside : i < length l
  pub before : AllWithin (λ x. IsAmong ts x → ⊥) l 0 i
  pub here : HoldsAt (IsAmong ts) l i

-- there is none
abbrev pub NoneIsAmong : List Tag → List SetElement → Type 0
NoneIsAmong ts l = AllWithin (λ x. IsAmong ts x → ⊥) l 0 (length l)

-- the first such element is taken out of the list, and is all that the reading has left
pub record TakesAmong (ts : List Tag) (l : List SetElement) (s : Reading) (l' : List SetElement) (s' : Reading) : Type 0 where
  pub place : ℕ
  pub element : SetElement
  pub first : IsFirstAmong ts l place
  pub found : HoldsAt (λ x. x ≡ element) l place
  pub others : l' ≡ remove l place
  pub state : s' ≡ record s { left = element.bytes.now; tag = None }

-- an element is chosen by its tag; a sticky error comes first. The error of a missing element isn't sticky
abbrev pub ChoosesBy : Option ASN1Error → List Tag → List SetElement → Reading → Result (Unit {0}) ASN1Error → List SetElement → Reading → Type 0
ChoosesBy (Some e) ts l s r l' s' = (r ≡ Err e) × (l' ≡ l) × (s' ≡ untagged s)
ChoosesBy None ts l s (Ok u) l' s' = TakesAmong ts l s l' s'
ChoosesBy None ts l s (Err e) l' s' = NoneIsAmong ts l × (e ≡ error_of Invalid) × (l' ≡ l) × (s' ≡ untagged s)

-- what choosing by tags does, in a record of its own, which goals name and don't unfold
pub record Chooses (l : List SetElement) (s : Reading) (ts : List Tag) (r : Result (Unit {0}) ASN1Error) (l' : List SetElement) (s' : Reading) :
    Type 0 where
  pub chooses : ChoosesBy s.failed ts l s r l' s'

-- A choice from z as Choice says, whose result r lends the reading; it is n once the loan ended as w
pub record LentChoice {S L : Type 0} (Choice : L → S → Result (Unit {0}) ASN1Error → L → S → Type 0) (z : Chosen S L) (r : Result (MutBor S) ASN1Error)
    (n : Chosen S L) (w : S) : Type 0 where
  -- what is left of the loan is the reading of what is left
  pub reader : n.reader ≡ w
  -- the element was taken out of the list, and its reading was lent
  pub chose : MatchResult r (λ x. Choice z.list z.reader (Ok tt) n.list x.now) (λ e. Unit {0})

-- such a choice, which returned an Err and lent nothing, left n
abbrev pub LentNone : {S L : Type 0} → (L → S → Result (Unit {0}) ASN1Error → L → S → Type 0) → Chosen S L → Result (MutBor S) ASN1Error → Chosen S L →
    Type 0
LentNone Choice z r n = MatchResult r (λ x. Unit {0}) (λ e. Choice z.list z.reader (Err e) n.list n.reader)

-- r lends the reading of an element that was chosen as Choice says (X.690, 8.11), or is the Err of the choice
abbrev pub LendsChosen : (S L : RattleType) → (L.Denot → S.Denot → Result (Unit {0}) ASN1Error → L.Denot → S.Denot → Type 0) →
    MutBor (Chosen S.Denot L.Denot) → Result (MutBor S.Denot) ASN1Error → Fml
LendsChosen S L Choice s r = LendsSoOk (the_row S L) S s r (LentChoice Choice s.now r) (LentNone Choice s.now r)
