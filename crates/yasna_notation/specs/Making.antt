-- The laws of a type that a module makes of others, from theirs.
use Rattle.std.proofs.Common.{◌≡◌, ◌∷◌, ◌++◌, [], ◌<◌, ◌^◌, ℕ, List, Bool, true, false, not, Option, Some, None, Vec, length, refl, sym, subst, arith}
use Rattle.std.specs.Prelude.{◌&&◌, nat_lt}
use Rattle.std.specs.Global.{Global}
use Rattle.std.specs.List.{AllByRecursion}
use Rattle.yasna_base.specs.declared.tag.Tag.{Tag}
use Rattle.yasna_base.specs.AnyOrder.{SameSetOf, InSomeOrder, sorted_set_of_encoding}
use Rattle.yasna_base.specs.Beginnings.{share_none}
use Rattle.yasna_base.specs.Canonical.{enclosed_encoding}
use Rattle.yasna_base.specs.Choice.{EitherOf, AnyEither, SameEither, either_encoding, either_can, either_fits}
use Rattle.yasna_base.specs.Coding.{Any}
use Rattle.yasna_base.specs.Default.{DetectsDefault, DefaultOf, default_encoding, default_can, default_fits}
use Rattle.yasna_base.specs.Element.{Enclosed, AnyEnclosed}
use Rattle.yasna_base.specs.Exact.{Fitting, enclosed_fits, part_fits, option_fits, elements_fit}
use Rattle.yasna_base.specs.Grammar.{Grammar, Members, Encoding}
use Rattle.yasna_base.specs.Identifier.{end_tag}
pub use Rattle.yasna_base.specs.Identifier.{context, tag_or}
use Rattle.yasna_base.specs.Optional.{OptionOf, AnyOption, SameOption, option_encoding, option_can}
use Rattle.yasna_base.specs.Pieces.{Each}
use Rattle.yasna_base.specs.Sequence.{PartOf, AnyPart, SamePart, part_encoding, part_can, sequence_tag}
use Rattle.yasna_base.specs.SequenceOf.{IsListOf, AnyListOf, AnyElements, elements_encoding}
use Rattle.yasna_base.specs.Set.{IsSetOf, AnySetOf, AnySetOfElements, set_tag}
use Rattle.yasna_base.proofs.ExplicitTags.{context_not_end, enclosed_begins}
use Rattle.yasna_base.proofs.Identifier.{not_end}
pub use Rattle.yasna_notation.specs.Bounded.{exactly, from_to, from_zero, up_to, sized}
use Rattle.yasna_notation.specs.Bounded.{Within, within_lawful, passes_alike, sizes_alike, set_sizes_alike}
use Rattle.yasna_notation.specs.Choices.{sides, either_laws, either_non_empty}
pub use Rattle.yasna_notation.specs.Laws.{application}
use Rattle.yasna_notation.specs.Elements.{enclosed_elements, explicit_elements, elements_joined, set_of_joined}
use Rattle.yasna_notation.specs.Laws.{application_not_end, element_lawful, list_laws, explicit_laws, implicit_lawful, never_retagged}
use Rattle.yasna_notation.specs.Notation.{IsNotation, NotationKeepsLaws, IsNonEmpty}
use Rattle.yasna_notation.specs.Parts.{AreParts, all_known, part_laws, option_laws, default_laws, sequence_laws}
use Rattle.yasna_notation.specs.Sets.{set_of_laws}

module _ {A V : Type 0} {tags_known others : Bool} {ts us : List Tag} {E : A → A → Type 0} {F : V → V → Type 0} {B : Grammar A} {C : Grammar V}
    {S Q : Members} {f : Encoding A} {g : Encoding V} {P : Fitting A} {R : Fitting V} {c : A → Type 0} {d : V → Type 0} where
  -- a part that is there, and others
  pub part : IsNotation tags_known ts E B S f P c → AreParts others us F C Q g R d →
      AreParts tags_known ts (SamePart E F) (PartOf B C) (AnyPart S Q) (part_encoding f g) (part_fits P R) (part_can c d)
  part first rest = part_laws {a = true} {b = true} (λ _. first) (λ _. rest) refl

module _ {A V : Type 0} {ts us : List Tag} {E : A → A → Type 0} {F : V → V → Type 0} {B : Grammar A} {C : Grammar V}
    {S Q : Members} {f : Encoding A} {g : Encoding V} {P : Fitting A} {R : Fitting V} {c : A → Type 0} {d : V → Type 0} where
  -- one that may be omitted, where tags distinguish it from the others
  pub optional_part : share_none ts (end_tag ∷ us) ≡ true → IsNotation true ts E B S f P c → AreParts true us F C Q g R d →
      AreParts true (ts ++ us) (SamePart (SameOption E) F) (PartOf (OptionOf B) C) (AnyPart (AnyOption S) Q) (part_encoding (option_encoding f) g)
      (part_fits (option_fits P) R) (part_can (option_can c) d)
  optional_part unambiguous first rest = option_laws {a = true} {b = true} (λ _. first) (λ _. rest)
      (subst (λ z. all_known true true z (true && true) ≡ true) (sym unambiguous) refl)

  -- one that is a default where it is omitted
  pub default_part : (is : A → Bool) (default : A) → DetectsDefault E is default → share_none ts (end_tag ∷ us) ≡ true →
      IsNotation true ts E B S f P c → AreParts true us F C Q g R d →
      AreParts true (ts ++ us) (SamePart E F) (PartOf (DefaultOf is B) C) (AnyPart (Any (DefaultOf is B)) Q) (part_encoding (default_encoding is f) g)
      (part_fits (default_fits is P) R) (part_can (default_can is c) d)
  default_part is default detects unambiguous first rest = default_laws {a = true} {b = true} is default detects (λ _. first) (λ _. rest)
      (subst (λ z. all_known true true z (true && true) ≡ true) (sym unambiguous) refl)

-- a SEQUENCE of parts
pub in_sequence : {A : Type 0} {tags_known : Bool} {ts : List Tag} {E : A → A → Type 0} {C : Grammar A} {S : Members} {encoding : Encoding A} {Fits : Fitting A}
    {Can : A → Type 0} → AreParts tags_known ts E C S encoding Fits Can →
    NotationKeepsLaws true (sequence_tag ∷ []) true E (λ u. Enclosed C (tag_or u sequence_tag)) (λ u. AnyEnclosed S (tag_or u sequence_tag))
    (λ u. enclosed_encoding encoding (tag_or u sequence_tag)) (enclosed_fits Fits) Can
in_sequence {S = S} x = element_lawful sequence_tag (sequence_laws x) (enclosed_begins S) (enclosed_elements S x.joined) (not_end 16 (λ e. omega arith)) (omega arith)

-- a SEQUENCE OF
pub in_sequence_of : {A : Type 0} {tags_known : Bool} {ts : List Tag} {E : A → A → Type 0} {B : Grammar A} {S : Members} {encoding : Encoding A}
    {Fits : Fitting A} {Can : A → Type 0} → IsNotation tags_known ts E B S encoding Fits Can →
    NotationKeepsLaws true (sequence_tag ∷ []) true (λ (v w : Vec A Global). Each E v.items w.items)
    (λ u m n (v : Vec A Global) b. IsListOf B (tag_or u sequence_tag) m n v.items b) (λ u. AnyListOf S (tag_or u sequence_tag))
    (λ u m (v : Vec A Global). enclosed_encoding (elements_encoding encoding) (tag_or u sequence_tag) m v.items)
    (λ m n (v : Vec A Global). enclosed_fits (elements_fit Fits) m n v.items) (λ (v : Vec A Global). AllByRecursion Can v.items)
in_sequence_of {S = S} x =
    element_lawful sequence_tag (list_laws x) (enclosed_begins (AnyElements S)) (enclosed_elements (AnyElements S) (elements_joined x.single))
    (not_end 16 (λ e. omega arith)) (omega arith)

-- a SET OF
pub in_set_of : {A : Type 0} {tags_known : Bool} {ts : List Tag} {E : A → A → Type 0} {B : Grammar A} {S : Members} {encoding : Encoding A}
    {Fits : Fitting A} {Can : A → Type 0} → IsNotation tags_known ts E B S encoding Fits Can →
    NotationKeepsLaws true (set_tag ∷ []) true (λ (v w : Vec A Global). SameSetOf E v.items w.items)
    (λ u m n (v : Vec A Global) b. InSomeOrder (IsSetOf B (tag_or u set_tag)) m n v.items b) (λ u. AnySetOf S (tag_or u set_tag))
    (λ u m (v : Vec A Global). sorted_set_of_encoding encoding (tag_or u set_tag) m v.items)
    (λ m n (v : Vec A Global). enclosed_fits (elements_fit Fits) m n v.items) (λ (v : Vec A Global). AllByRecursion Can v.items)
in_set_of {S = S} x =
    element_lawful set_tag (set_of_laws x) (enclosed_begins (AnySetOfElements S)) (enclosed_elements (AnySetOfElements S) (set_of_joined x.single))
    (not_end 17 (λ e. omega arith)) (omega arith)

-- under [k] EXPLICIT
pub in_explicit : {A : Type 0} {tags_known : Bool} {ts : List Tag} {E : A → A → Type 0} {B : Grammar A} {S : Members} {encoding : Encoding A} {Fits : Fitting A}
    {Can : A → Type 0} (k : ℕ) → k < 2 ^ 64 → IsNotation tags_known ts E B S encoding Fits Can →
    NotationKeepsLaws true (context k ∷ []) true E (λ u. Enclosed B (tag_or u (context k))) (λ u. AnyEnclosed S (tag_or u (context k)))
    (λ u. enclosed_encoding encoding (tag_or u (context k))) (enclosed_fits Fits) Can
in_explicit {S = S} k range x = element_lawful (context k) (explicit_laws x) (enclosed_begins S) (explicit_elements x.single) (context_not_end k) range

-- under [k] IMPLICIT
pub in_implicit : {A : Type 0} {tags_known : Bool} {ts : List Tag} {E : A → A → Type 0} {B : Option Tag → Grammar A} {S : Option Tag → Members}
    {encoding : Option Tag → Encoding A} {Fits : Fitting A} {Can : A → Type 0} (k : ℕ) → k < 2 ^ 64 → NotationKeepsLaws tags_known ts true E B S encoding Fits Can →
    NotationKeepsLaws true (context k ∷ []) true E (λ u. B (Some (tag_or u (context k)))) (λ u. S (Some (tag_or u (context k))))
    (λ u. encoding (Some (tag_or u (context k)))) Fits Can
in_implicit k range x = implicit_lawful {unambiguous = true} {retagged = true} (context k) (λ _. x) refl (context_not_end k) range

-- under [APPLICATION k] IMPLICIT
pub in_application : {A : Type 0} {tags_known : Bool} {ts : List Tag} {E : A → A → Type 0} {B : Option Tag → Grammar A} {S : Option Tag → Members}
    {encoding : Option Tag → Encoding A} {Fits : Fitting A} {Can : A → Type 0} (k : ℕ) → k < 2 ^ 64 → NotationKeepsLaws tags_known ts true E B S encoding Fits Can →
    NotationKeepsLaws true (application k ∷ []) true E (λ u. B (Some (tag_or u (application k)))) (λ u. S (Some (tag_or u (application k))))
    (λ u. encoding (Some (tag_or u (application k)))) Fits Can
in_application k range x = implicit_lawful {unambiguous = true} {retagged = true} (application k) (λ _. x) refl (application_not_end k) range

-- a CHOICE: the last of its types, and one before others
module _ {A : Type 0} {ts : List Tag} {E : A → A → Type 0} {B : Grammar A} {S : Members} {f : Encoding A} {P : Fitting A} {c : A → Type 0}
    (first : IsNotation true ts E B S f P c) where
  pub alternative : {V : Type 0} {us : List Tag} {F : V → V → Type 0} {C : Grammar V} {Q : Members} {g : Encoding V} {R : Fitting V} {d : V → Type 0} →
      share_none ts us ≡ true → IsNotation true us F C Q g R d →
      IsNotation true (ts ++ us) (λ v w. SameEither E F (sides v) (sides w)) (λ m n v b. EitherOf B C m n (sides v) b) (AnyEither S Q)
      (λ m v. either_encoding f g m (sides v)) (λ m n v. either_fits P R m n (sides v)) (λ v. either_can c d (sides v))
  alternative unambiguous rest =
      either_laws {tags_known = true} {a = true} {b = true} (λ _. first) (λ _. rest)
      (subst (λ z. true && (z && (true && true)) ≡ true) (sym unambiguous) refl)

pub alternative_non_empty : {A V : Type 0} {f : Encoding A} {g : Encoding V} → IsNonEmpty f → IsNonEmpty g → IsNonEmpty (λ m v. either_encoding f g m (sides v))
alternative_non_empty {f = f} {g = g} first rest m v = either_non_empty f g m (first m) (rest m) v

pub in_choice : {A : Type 0} {ts : List Tag} {E : A → A → Type 0} {B : Grammar A} {S : Members} (encoding : Option Tag → Encoding A) {Fits : Fitting A}
    {Can : A → Type 0} → IsNotation true ts E B S (encoding None) Fits Can → NotationKeepsLaws true ts false E (λ u. B) (λ u. S) encoding Fits Can
in_choice encoding x = record { own = x; others = λ e. never_retagged e }

-- values within a bound, which are equal only if they are the same
pub in_bound : {A : Type 0} {tags_known : Bool} {ts : List Tag} {retagged : Bool} {B : Option Tag → Grammar A} {S : Option Tag → Members}
    {encoding : Option Tag → Encoding A} {Fits : Fitting A} {Can : A → Type 0} (passes : A → Bool) → NotationKeepsLaws tags_known ts retagged (λ v w. v ≡ w) B S encoding Fits Can →
    NotationKeepsLaws tags_known ts retagged (λ v w. v ≡ w) (λ u. Within passes (B u)) (λ u. Any (Within passes (B u))) encoding (λ m n v. Fits m n v × (passes v ≡ true))
    (λ v. Can v × (passes v ≡ true))
in_bound passes x = within_lawful passes (λ v w e. passes_alike passes e) x

-- an INTEGER of at most k
pub at_most : {tags_known : Bool} {ts : List Tag} {retagged : Bool} {B : Option Tag → Grammar ℕ} {S : Option Tag → Members} {encoding : Option Tag → Encoding ℕ}
    {Fits : Fitting ℕ} {Can : ℕ → Type 0} (k : ℕ) → NotationKeepsLaws tags_known ts retagged (λ v w. v ≡ w) B S encoding Fits Can →
    NotationKeepsLaws tags_known ts retagged (λ v w. v ≡ w) (λ u. Within (λ v. not (nat_lt k v)) (B u)) (λ u. Any (Within (λ v. not (nat_lt k v)) (B u))) encoding
    (λ m n v. Fits m n v × (not (nat_lt k v) ≡ true)) (λ v. Can v × (not (nat_lt k v) ≡ true))
at_most k x = in_bound (λ v. not (nat_lt k v)) x

-- an OCTET STRING whose size passes a test
pub octets_sized : {tags_known : Bool} {ts : List Tag} {retagged : Bool} {B : Option Tag → Grammar (Vec ℕ Global)} {S : Option Tag → Members}
    {encoding : Option Tag → Encoding (Vec ℕ Global)} {Fits : Fitting (Vec ℕ Global)} {Can : Vec ℕ Global → Type 0} (test : ℕ → Bool) →
    NotationKeepsLaws tags_known ts retagged (λ v w. v.items ≡ w.items) B S encoding Fits Can →
    NotationKeepsLaws tags_known ts retagged (λ v w. v.items ≡ w.items) (λ u. Within (sized test) (B u)) (λ u. Any (Within (sized test) (B u))) encoding
    (λ m n v. Fits m n v × (sized test v ≡ true)) (λ v. Can v × (sized test v ≡ true))
octets_sized test x = within_lawful (sized test) (λ v w e. passes_alike (λ s. test (length s)) e) x

module _ {A : Type 0} {tags_known : Bool} {ts : List Tag} {retagged : Bool} {E : A → A → Type 0} {B : Option Tag → Grammar (Vec A Global)}
    {S : Option Tag → Members} {encoding : Option Tag → Encoding (Vec A Global)} {Fits : Fitting (Vec A Global)} {Can : Vec A Global → Type 0} where
  -- a SEQUENCE OF whose size passes a test
  pub list_sized : (test : ℕ → Bool) → NotationKeepsLaws tags_known ts retagged (λ v w. Each E v.items w.items) B S encoding Fits Can →
      NotationKeepsLaws tags_known ts retagged (λ v w. Each E v.items w.items) (λ u. Within (sized test) (B u)) (λ u. Any (Within (sized test) (B u))) encoding
      (λ m n v. Fits m n v × (sized test v ≡ true)) (λ v. Can v × (sized test v ≡ true))
  list_sized test x = within_lawful (sized test) (λ v w e. sizes_alike E test v.items w.items e) x

  -- a SET OF
  pub set_sized : (test : ℕ → Bool) → NotationKeepsLaws tags_known ts retagged (λ v w. SameSetOf E v.items w.items) B S encoding Fits Can →
      NotationKeepsLaws tags_known ts retagged (λ v w. SameSetOf E v.items w.items) (λ u. Within (sized test) (B u)) (λ u. Any (Within (sized test) (B u))) encoding
      (λ m n v. Fits m n v × (sized test v ≡ true)) (λ v. Can v × (sized test v ≡ true))
  set_sized test x = within_lawful (sized test) (λ v w e. set_sizes_alike E test v.items w.items e) x

  -- of such that aren't empty
  pub not_empty : NotationKeepsLaws tags_known ts retagged (λ v w. Each E v.items w.items) B S encoding Fits Can →
      NotationKeepsLaws tags_known ts retagged (λ v w. Each E v.items w.items) (λ u. Within (sized (nat_lt 0)) (B u)) (λ u. Any (Within (sized (nat_lt 0)) (B u))) encoding
      (λ m n v. Fits m n v × (sized (nat_lt 0) v ≡ true)) (λ v. Can v × (sized (nat_lt 0) v ≡ true))
  not_empty x = list_sized (nat_lt 0) x

  pub set_not_empty : NotationKeepsLaws tags_known ts retagged (λ v w. SameSetOf E v.items w.items) B S encoding Fits Can →
      NotationKeepsLaws tags_known ts retagged (λ v w. SameSetOf E v.items w.items) (λ u. Within (sized (nat_lt 0)) (B u)) (λ u. Any (Within (sized (nat_lt 0)) (B u))) encoding
      (λ m n v. Fits m n v × (sized (nat_lt 0) v ≡ true)) (λ v. Can v × (sized (nat_lt 0) v ≡ true))
  set_not_empty x = set_sized (nat_lt 0) x
