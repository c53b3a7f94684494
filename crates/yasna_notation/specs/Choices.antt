-- The laws of the types of a CHOICE made as the notation says, and what reading the one does whose tag was found.
use Rattle.std.proofs.Common.{◌≡◌, ◌++◌, [], List, Bool, true, Result, inl, inr, refl}
use Rattle.std.proofs.lemmas.Bool.{and_parts}
use Rattle.std.specs.Prelude.{◌⊎◌, ◌&&◌}
use Rattle.yasna_base.specs.declared.error.ASN1Error.{ASN1Error}
use Rattle.yasna_base.specs.declared.mode.BERMode.{BERMode}
use Rattle.yasna_base.specs.declared.tag.Tag.{Tag}
use Rattle.yasna_base.specs.Beginnings.{share_none}
use Rattle.yasna_base.specs.Choice.{EitherOf, AnyEither, SameEither, either_encoding, either_can, either_fits}
use Rattle.yasna_base.specs.Exact.{Fitting}
use Rattle.yasna_base.specs.Grammar.{Grammar, Members, Encoding}
use Rattle.yasna_base.specs.Identifier.{BeginsWithTag}
use Rattle.yasna_base.proofs.Beginnings.{choice_with_tags}
use Rattle.yasna_base.proofs.ChoiceWriting.{choice_exact}
use Rattle.yasna_reader.specs.ByTags.{DecodesByTags}
use Rattle.yasna_reader.specs.Decodes.{RepeatsError}
use Rattle.yasna_reader.specs.State.{Reading, IsFresh}
use Rattle.yasna_notation.specs.declared.choices.Either.{Either}
use Rattle.yasna_notation.specs.declared.choices.Either.TheVariants.{First, Second}
use Rattle.yasna_notation.specs.Elements.{either_elements}
use Rattle.yasna_notation.specs.Laws.{defined_type_laws}
use Rattle.yasna_notation.specs.Notation.{IsNotation}

-- what reading a value does where the tag t was found
pub record ReadsFound {A : Type 0} (ts : List Tag) (may_allocate : Bool) (B : Grammar A) (S : Members) (t : Tag) (s : Reading) (r : Result A ASN1Error)
    (s' : Reading) :
    Type 0 where
  pub decodes : IsFresh s → BeginsWithTag t s.left → DecodesByTags ts may_allocate B S s r s'
  pub repeats : RepeatsError s r s'

-- a value of one of two types
abbrev pub sides : {A V : Type 0} → Either A V → A ⊎ V
sides (First v) = inl v
sides (Second w) = inr w

module _ {A : Type 0} {tags_known : Bool} {ts : List Tag} {E : A → A → Type 0} {B : Grammar A} {S : Members} {f : Encoding A} {P : Fitting A} {c : A → Type 0}
    {a : Bool} where
  -- the last type
  pub last_laws : (a ≡ true → IsNotation tags_known ts E B S f P c) → tags_known && a ≡ true → IsNotation true ts E B S f P c
  last_laws laws e =
      let y = and_parts tags_known a e in
      let x = laws y.1 in
      record { coding = x.coding; begins = λ _. x.begins y.0; single = x.single; exact = x.exact }

  -- a type, and others by other tags
  pub either_laws : {V : Type 0} {us : List Tag} {F : V → V → Type 0} {C : Grammar V} {Q : Members} {g : Encoding V} {R : Fitting V} {d : V → Type 0} {b : Bool} →
      (a ≡ true → IsNotation tags_known ts E B S f P c) → (b ≡ true → IsNotation true us F C Q g R d) →
      tags_known && (share_none ts us && (a && b)) ≡ true →
      IsNotation true (ts ++ us) (λ v w. SameEither E F (sides v) (sides w)) (λ m n v b. EitherOf B C m n (sides v) b) (AnyEither S Q)
      (λ m v. either_encoding f g m (sides v)) (λ m n v. either_fits P R m n (sides v)) (λ v. either_can c d (sides v))
  either_laws {us = us} {b = b} first rest e =
      let u = and_parts tags_known (share_none ts us && (a && b)) e in
      let w = and_parts (share_none ts us) (a && b) u.1 in
      let z = and_parts a b w.1 in
      let x = first z.0 in
      let y = rest z.1 in
      let k = choice_with_tags (record { coding = x.coding; begins = x.begins u.0 }) (record { coding = y.coding; begins = y.begins refl }) w.0 in
      defined_type_laws sides
      (record { coding = k.coding; begins = λ _. k.begins; single = either_elements x.single y.single; exact = choice_exact x.exact y.exact })

-- no encoding is empty, where none of either type is
pub either_non_empty : {A V : Type 0} (f : Encoding A) (g : Encoding V) (m : BERMode) → ((v : A) → f m v ≡ [] → ⊥) → ((w : V) → g m w ≡ [] → ⊥) →
    (v : Either A V) → either_encoding f g m (sides v) ≡ [] → ⊥
either_non_empty f g m first second (First v) e = first v e
either_non_empty f g m first second (Second w) e = second w e
