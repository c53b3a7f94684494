-- The laws of writing of a type that a module makes of others, from theirs.
use Rattle.std.proofs.Common.{◌≡◌, ◌<◌, ◌^◌, ℕ, Bool, true, false, not, length, Option, Some, Vec, refl, arith}
use Rattle.std.specs.Prelude.{nat_lt}
use Rattle.std.specs.Global.{Global}
use Rattle.std.specs.List.{AllByRecursion}
use Rattle.yasna_base.specs.declared.tag.Tag.{Tag}
use Rattle.yasna_base.specs.AnyOrder.{SameSetOf, InSomeOrder, sorted_set_of_encoding}
use Rattle.yasna_base.specs.Canonical.{IsWritten, enclosed_encoding, enclosed_depth}
use Rattle.yasna_base.specs.Choice.{EitherOf, SameEither, either_encoding, either_depth, either_can}
use Rattle.yasna_base.specs.Default.{DefaultOf, default_encoding, default_depth, default_can}
use Rattle.yasna_base.specs.Element.{Enclosed}
use Rattle.yasna_base.specs.Grammar.{Grammar, Encoding, Depth}
use Rattle.yasna_base.specs.Identifier.{context, tag_or}
use Rattle.yasna_base.specs.Optional.{OptionOf, SameOption, option_encoding, option_depth, option_can}
use Rattle.yasna_base.specs.Pieces.{Each}
use Rattle.yasna_base.specs.Sequence.{PartOf, SamePart, part_encoding, part_depth, part_can, sequence_tag}
use Rattle.yasna_base.specs.SequenceOf.{IsListOf, elements_encoding, elements_depth}
use Rattle.yasna_base.specs.Set.{IsSetOf, set_tag}
use Rattle.yasna_base.specs.SetWriting.{set_of_depth}
use Rattle.yasna_base.proofs.Canonical.{written_along, enclosed_written}
use Rattle.yasna_base.proofs.ChoiceWriting.{choice_written}
use Rattle.yasna_base.proofs.Coding.{equal_same}
use Rattle.yasna_base.proofs.Default.{default_alike, default_written}
use Rattle.yasna_base.proofs.ExplicitTags.{context_not_end, tagged_written}
use Rattle.yasna_base.proofs.Identifier.{not_end}
use Rattle.yasna_base.proofs.Optional.{option_written}
pub use Rattle.yasna_base.proofs.Sequence.{part_written, no_part_written}
use Rattle.yasna_notation.specs.Bounded.{Within, sized, passes_alike, sizes_alike, set_sizes_alike}
use Rattle.yasna_notation.specs.Canonical.{element_written, list_under, set_of_under, bounded_written, implicit_written}
use Rattle.yasna_notation.specs.Choices.{sides}
use Rattle.yasna_notation.specs.Laws.{application, application_not_end}
use Rattle.yasna_notation.specs.Notation.{IsWrittenAs}
use Rattle.yasna_notation.specs.Parts.{detects_false}

module _ {A V : Type 0} {E : A → A → Type 0} {F : V → V → Type 0} {B : Grammar A} {C : Grammar V} {f : Encoding A} {g : Encoding V} {k : Depth A} {l : Depth V}
    {c : A → Type 0} {d : V → Type 0} (first : IsWritten E B f k c) (rest : IsWritten F C g l d) where
  -- a part that may be omitted, and others; `part_written` is that of one that is there
  pub optional_written : IsWritten (SamePart (SameOption E) F) (PartOf (OptionOf B) C) (part_encoding (option_encoding f) g) (part_depth (option_depth k) l)
      (part_can (option_can c) d)
  optional_written = part_written (option_written first) rest

  -- a type of a CHOICE, and others
  pub alternative_written : IsWritten (λ v w. SameEither E F (sides v) (sides w)) (λ m n v b. EitherOf B C m n (sides v) b)
      (λ m v. either_encoding f g m (sides v)) (λ m v. either_depth k l m (sides v)) (λ v. either_can c d (sides v))
  alternative_written = written_along sides (choice_written first rest)

module _ {A : Type 0} {E : A → A → Type 0} {B : Grammar A} {encoding : Encoding A} {depth : Depth A} {Can : A → Type 0} (x : IsWritten E B encoding depth Can) where
  -- a SEQUENCE of parts
  pub sequence_written : IsWrittenAs true E (λ u. Enclosed B (tag_or u sequence_tag)) (λ u. enclosed_encoding encoding (tag_or u sequence_tag))
      (enclosed_depth depth) Can
  sequence_written = element_written sequence_tag (λ t _ range. enclosed_written t range x) (not_end 16 (λ e. omega arith)) (omega arith)

  -- a SEQUENCE OF
  pub sequence_of_written : IsWrittenAs true (λ (v w : Vec A Global). Each E v.items w.items)
      (λ u m n (v : Vec A Global) b. IsListOf B (tag_or u sequence_tag) m n v.items b)
      (λ u m (v : Vec A Global). enclosed_encoding (elements_encoding encoding) (tag_or u sequence_tag) m v.items)
      (λ m (v : Vec A Global). enclosed_depth (elements_depth depth) m v.items) (λ (v : Vec A Global). AllByRecursion Can v.items)
  sequence_of_written = element_written sequence_tag (list_under x) (not_end 16 (λ e. omega arith)) (omega arith)

  -- a SET OF
  pub set_of_written : IsWrittenAs true (λ (v w : Vec A Global). SameSetOf E v.items w.items)
      (λ u m n (v : Vec A Global) b. InSomeOrder (IsSetOf B (tag_or u set_tag)) m n v.items b)
      (λ u m (v : Vec A Global). sorted_set_of_encoding encoding (tag_or u set_tag) m v.items)
      (λ m (v : Vec A Global). set_of_depth depth m v.items) (λ (v : Vec A Global). AllByRecursion Can v.items)
  set_of_written = element_written set_tag (set_of_under x) (not_end 17 (λ e. omega arith)) (omega arith)

  -- under [k] EXPLICIT
  pub explicit_written : (k : ℕ) → k < 2 ^ 64 → IsWrittenAs true E (λ u. Enclosed B (tag_or u (context k)))
      (λ u. enclosed_encoding encoding (tag_or u (context k))) (enclosed_depth depth) Can
  explicit_written k range = element_written (context k) (λ t _ fits. tagged_written t fits x) (context_not_end k) range

-- under [k] IMPLICIT
pub under_context : {A : Type 0} {E : A → A → Type 0} {B : Option Tag → Grammar A} {encoding : Option Tag → Encoding A} {depth : Depth A} {Can : A → Type 0}
    (k : ℕ) → k < 2 ^ 64 → IsWrittenAs true E B encoding depth Can →
    IsWrittenAs true E (λ u. B (Some (tag_or u (context k)))) (λ u. encoding (Some (tag_or u (context k)))) depth Can
under_context k range x = implicit_written {unambiguous = true} (context k) (λ _. x) refl (context_not_end k) range

-- under [APPLICATION k] IMPLICIT
pub under_application : {A : Type 0} {E : A → A → Type 0} {B : Option Tag → Grammar A} {encoding : Option Tag → Encoding A} {depth : Depth A} {Can : A → Type 0}
    (k : ℕ) → k < 2 ^ 64 → IsWrittenAs true E B encoding depth Can →
    IsWrittenAs true E (λ u. B (Some (tag_or u (application k)))) (λ u. encoding (Some (tag_or u (application k)))) depth Can
under_application k range x = implicit_written {unambiguous = true} (application k) (λ _. x) refl (application_not_end k) range

-- values within a bound, which are equal only if they are the same
pub bound_written : {A : Type 0} {retagged : Bool} {B : Option Tag → Grammar A} {encoding : Option Tag → Encoding A} {depth : Depth A} {Can : A → Type 0}
    (passes : A → Bool) → IsWrittenAs retagged (λ v w. v ≡ w) B encoding depth Can →
    IsWrittenAs retagged (λ v w. v ≡ w) (λ u. Within passes (B u)) encoding depth (λ v. Can v × (passes v ≡ true))
bound_written passes x = bounded_written passes (λ v w e. passes_alike passes e) x

-- an INTEGER of at most k
pub at_most_written : {retagged : Bool} {B : Option Tag → Grammar ℕ} {encoding : Option Tag → Encoding ℕ} {depth : Depth ℕ} {Can : ℕ → Type 0} (k : ℕ) →
    IsWrittenAs retagged (λ v w. v ≡ w) B encoding depth Can →
    IsWrittenAs retagged (λ v w. v ≡ w) (λ u. Within (λ v. not (nat_lt k v)) (B u)) encoding depth (λ v. Can v × (not (nat_lt k v) ≡ true))
at_most_written k x = bound_written (λ v. not (nat_lt k v)) x

-- an OCTET STRING whose size passes a test
pub octets_sized_written : {retagged : Bool} {B : Option Tag → Grammar (Vec ℕ Global)} {encoding : Option Tag → Encoding (Vec ℕ Global)}
    {depth : Depth (Vec ℕ Global)} {Can : Vec ℕ Global → Type 0} (test : ℕ → Bool) → IsWrittenAs retagged (λ v w. v.items ≡ w.items) B encoding depth Can →
    IsWrittenAs retagged (λ v w. v.items ≡ w.items) (λ u. Within (sized test) (B u)) encoding depth (λ v. Can v × (sized test v ≡ true))
octets_sized_written test x = bounded_written (sized test) (λ v w e. passes_alike (λ s. test (length s)) e) x

module _ {A : Type 0} {retagged : Bool} {E : A → A → Type 0} {B : Option Tag → Grammar (Vec A Global)} {encoding : Option Tag → Encoding (Vec A Global)}
    {depth : Depth (Vec A Global)} {Can : Vec A Global → Type 0} (test : ℕ → Bool) where
  -- a SEQUENCE OF whose size passes a test
  pub list_sized_written : IsWrittenAs retagged (λ v w. Each E v.items w.items) B encoding depth Can →
      IsWrittenAs retagged (λ v w. Each E v.items w.items) (λ u. Within (sized test) (B u)) encoding depth (λ v. Can v × (sized test v ≡ true))
  list_sized_written x = bounded_written (sized test) (λ v w e. sizes_alike E test v.items w.items e) x

  -- a SET OF
  pub set_sized_written : IsWrittenAs retagged (λ v w. SameSetOf E v.items w.items) B encoding depth Can →
      IsWrittenAs retagged (λ v w. SameSetOf E v.items w.items) (λ u. Within (sized test) (B u)) encoding depth (λ v. Can v × (sized test v ≡ true))
  set_sized_written x = bounded_written (sized test) (λ v w e. set_sizes_alike E test v.items w.items e) x

-- of such that aren't empty
pub non_empty_list_written : {A : Type 0} {retagged : Bool} {E : A → A → Type 0} {B : Option Tag → Grammar (Vec A Global)}
    {encoding : Option Tag → Encoding (Vec A Global)} {depth : Depth (Vec A Global)} {Can : Vec A Global → Type 0} →
    IsWrittenAs retagged (λ v w. Each E v.items w.items) B encoding depth Can →
    IsWrittenAs retagged (λ v w. Each E v.items w.items) (λ u. Within (sized (nat_lt 0)) (B u)) encoding depth (λ v. Can v × (sized (nat_lt 0) v ≡ true))
non_empty_list_written x = list_sized_written (nat_lt 0) x

pub non_empty_set_written : {A : Type 0} {retagged : Bool} {E : A → A → Type 0} {B : Option Tag → Grammar (Vec A Global)}
    {encoding : Option Tag → Encoding (Vec A Global)} {depth : Depth (Vec A Global)} {Can : Vec A Global → Type 0} →
    IsWrittenAs retagged (λ v w. SameSetOf E v.items w.items) B encoding depth Can →
    IsWrittenAs retagged (λ v w. SameSetOf E v.items w.items) (λ u. Within (sized (nat_lt 0)) (B u)) encoding depth
    (λ v. Can v × (sized (nat_lt 0) v ≡ true))
non_empty_set_written x = set_sized_written (nat_lt 0) x

-- a BOOLEAN DEFAULT FALSE, and others
pub unset_written : {V : Type 0} {F : V → V → Type 0} {B : Grammar Bool} {C : Grammar V} {f : Encoding Bool} {g : Encoding V} {k : Depth Bool} {l : Depth V}
    {c : Bool → Type 0} {d : V → Type 0} → IsWritten (λ v w. v ≡ w) B f k c → IsWritten F C g l d →
    IsWritten (SamePart (λ v w. v ≡ w) F) (PartOf (DefaultOf not B) C) (part_encoding (default_encoding not f) g) (part_depth (default_depth not k) l)
    (part_can (default_can not c) d)
unset_written first rest = part_written (default_written not (default_alike not false detects_false equal_same) first) rest
