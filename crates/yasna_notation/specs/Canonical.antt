-- The laws of writing of types made as the notation says, by which what BER reads is written again in DER.
use Rattle.std.proofs.Common.{◌≡◌, ◌<◌, ◌^◌, ℕ, List, Bool, true, false, Option, Some, None, Vec, String, sym, ◌∙◌}
use Rattle.std.proofs.lemmas.Bool.{and_parts}
use Rattle.std.specs.Prelude.{◌&&◌}
use Rattle.std.specs.Global.{Global}
use Rattle.std.specs.List.{AllByRecursion}
use Rattle.yasna_base.specs.declared.tag.Tag.{Tag}
use Rattle.yasna_base.specs.AnyOrder.{SameSetOf, InSomeOrder, sorted_set_of_encoding}
use Rattle.yasna_base.specs.Canonical.{Always, IsWritten, enclosed_encoding, enclosed_depth}
use Rattle.yasna_base.specs.Choice.{EitherOf, SameEither, either_encoding, either_depth, either_can}
use Rattle.yasna_base.specs.Default.{DetectsDefault, DefaultOf, default_encoding, default_depth, default_can}
use Rattle.yasna_base.specs.Exact.{Fitting}
use Rattle.yasna_base.specs.Grammar.{Grammar, Members, Encoding, Depth}
use Rattle.yasna_base.specs.Identifier.{AnyTag, end_tag, tag_or}
use Rattle.yasna_base.specs.Optional.{OptionOf, SameOption, option_encoding, option_depth, option_can}
use Rattle.yasna_base.specs.Pieces.{Each}
use Rattle.yasna_base.specs.Sequence.{PartOf, NoParts, SamePart, SameNothing, part_encoding, part_depth, part_can, nothing_encoding, nothing_depth}
use Rattle.yasna_base.specs.SequenceOf.{IsListOf, elements_encoding, elements_depth}
use Rattle.yasna_base.specs.Set.{IsSetOf}
use Rattle.yasna_base.specs.SetWriting.{set_of_depth}
use Rattle.yasna_base.specs.Text.{IsStringOf, IsUtf8In, InUtf8, characters, utf8_encoding, utf8_depth}
use Rattle.yasna_base.proofs.AnyOrder.{any_set_of_written}
use Rattle.yasna_base.proofs.Canonical.{written_along, written_where, written_always, enclosed_written}
use Rattle.yasna_base.proofs.ChoiceWriting.{choice_written}
use Rattle.yasna_base.proofs.Default.{default_alike, default_written}
use Rattle.yasna_base.proofs.Optional.{option_written}
use Rattle.yasna_base.proofs.Sequence.{no_part_written, part_written}
use Rattle.yasna_base.proofs.SequenceOf.{elements_written}
use Rattle.yasna_base.proofs.Texts.{class_written, string_text}
use Rattle.yasna_times.specs.declared.models.generalized_time.GeneralizedTime.{GeneralizedTime}
use Rattle.yasna_times.specs.declared.models.utc_time.UTCTime.{UTCTime}
use Rattle.yasna_times.specs.GeneralizedTime.{SpellsGeneralizedTime, generalized_time_encoding, generalized_time_depth}
use Rattle.yasna_times.specs.Models.{utc_of, moment_of}
use Rattle.yasna_times.specs.UtcTime.{SpellsUtcTime, utc_time_encoding, utc_time_depth}
use Rattle.yasna_times.proofs.TimeLaws.{utc_time_keeps, generalized_time_keeps}
use Rattle.yasna_times.proofs.Times.{general_moment}
use Rattle.yasna_notation.specs.Bounded.{Within}
use Rattle.yasna_notation.specs.Choices.{sides}
use Rattle.yasna_notation.specs.Laws.{never_retagged}
use Rattle.yasna_notation.specs.Notation.{IsNotation, IsWrittenAs}
use Rattle.yasna_notation.specs.Parts.{all_known, is_known}

-- a type satisfies the laws of writing under any tag but that of the end of contents
abbrev pub IsWrittenUnderTags : {A : Type 0} → (A → A → Type 0) → (Tag → Grammar A) → (Tag → Encoding A) → Depth A → (A → Type 0) → Type 0
IsWrittenUnderTags E B encoding depth Can = AnyTag (λ t. IsWritten E (B t) (encoding t) depth Can)

-- a type satisfies the laws of writing with its own tag, and with another tag in place of that
pub element_written : {A : Type 0} {E : A → A → Type 0} {B : Tag → Grammar A} {encoding : Tag → Encoding A} {depth : Depth A} {Can : A → Type 0} (own : Tag) →
    IsWrittenUnderTags E B encoding depth Can → (own ≡ end_tag → ⊥) → own.tag_number < 2 ^ 64 →
    IsWrittenAs true E (λ u. B (tag_or u own)) (λ u. encoding (tag_or u own)) depth Can
element_written own laws not_end range = record { own = laws own not_end range; others = λ _. laws }

-- strings of any character, and of those of a class
pub text_under : IsWrittenUnderTags (λ v w. characters v ≡ characters w) (λ t m n v b. IsStringOf (IsUtf8In InUtf8) t m n (characters v) b)
    (λ t m v. utf8_encoding t m (characters v)) (λ m v. utf8_depth m (characters v)) Always
text_under t not_end range = written_always string_text (written_along characters (class_written InUtf8 t range))

pub class_under : (In : ℕ → Type 0) → IsWrittenUnderTags (λ v w. characters v ≡ characters w)
    (λ t m n v b. IsStringOf (IsUtf8In In) t m n (characters v) b) (λ t m v. utf8_encoding t m (characters v)) (λ m v. utf8_depth m (characters v))
    (λ v. AllByRecursion In (characters v))
class_under In t not_end range = written_where
    (λ (v : String Global). (λ can. can.in_class, λ can. record { characters = (string_text v).characters; in_class = can }))
    (written_along characters (class_written In t range))

-- times
pub utc_under : IsWrittenUnderTags (λ v w. utc_of v ≡ utc_of w) (λ t m n v b. IsStringOf SpellsUtcTime t m n (utc_of v) b)
    (λ t m v. utc_time_encoding t m (utc_of v)) (λ m v. utc_time_depth m (utc_of v)) Always
utc_under t not_end range =
    written_where (λ (v : UTCTime). (λ can. tt, λ can. v.in_range)) (written_along utc_of (utc_time_keeps t not_end range).1)

pub general_under : IsWrittenUnderTags (λ v w. moment_of v ≡ moment_of w) (λ t m n v b. IsStringOf SpellsGeneralizedTime t m n (moment_of v) b)
    (λ t m v. generalized_time_encoding t m (moment_of v)) (λ m v. generalized_time_depth m (moment_of v)) Always
general_under t not_end range =
    written_where (λ (v : GeneralizedTime). (λ can. tt, λ can. general_moment v)) (written_along moment_of (generalized_time_keeps t not_end range).1)

-- a SEQUENCE OF
pub list_under : {A : Type 0} {E : A → A → Type 0} {B : Grammar A} {encoding : Encoding A} {depth : Depth A} {Can : A → Type 0} → IsWritten E B encoding depth Can →
    IsWrittenUnderTags (λ (v w : Vec A Global). Each E v.items w.items) (λ t m n (v : Vec A Global) b. IsListOf B t m n v.items b)
    (λ t m (v : Vec A Global). enclosed_encoding (elements_encoding encoding) t m v.items) (λ m (v : Vec A Global). enclosed_depth (elements_depth depth) m v.items)
    (λ (v : Vec A Global). AllByRecursion Can v.items)
list_under {A} laws t not_end range = written_along (λ (v : Vec A Global). v.items) (enclosed_written t range (elements_written laws))

-- a SET OF
pub set_of_under : {A : Type 0} {E : A → A → Type 0} {B : Grammar A} {encoding : Encoding A} {depth : Depth A} {Can : A → Type 0} → IsWritten E B encoding depth Can →
    IsWrittenUnderTags (λ (v w : Vec A Global). SameSetOf E v.items w.items) (λ t m n (v : Vec A Global) b. InSomeOrder (IsSetOf B t) m n v.items b)
    (λ t m (v : Vec A Global). sorted_set_of_encoding encoding t m v.items) (λ m (v : Vec A Global). set_of_depth depth m v.items)
    (λ (v : Vec A Global). AllByRecursion Can v.items)
set_of_under {A} laws t not_end range = written_along (λ (v : Vec A Global). v.items) (any_set_of_written t range laws)

module _ {A : Type 0} {E : A → A → Type 0} (passes : A → Bool) (alike : (v w : A) → E v w → passes v ≡ passes w) where
  -- the values within a bound
  pub within_written : {B : Grammar A} {encoding : Encoding A} {depth : Depth A} {Can : A → Type 0} → IsWritten E B encoding depth Can →
      IsWritten E (Within passes B) encoding depth (λ v. Can v × (passes v ≡ true))
  within_written x = record {
    has = record {
      in_bytes = λ m v can short. x.has.in_bytes m v can.0 short;
      holds = λ m o n v h can level short. (x.has.holds m o n v h can.0 level short, can.1);
      only = λ m n v b h p. let y = x.has.only m n v b h p.0 in (y.0, (y.1, p.1), y.2);
    };
    any = λ n v b p. let y = x.any n v b p.0 in ((y.0, p.1), y.1);
    same = λ m v w e. let y = x.same m v w e in (y.0, λ can. (y.1 can.0, sym (alike v w e) ∙ can.1), y.2);
  }

  pub bounded_written : {retagged : Bool} {B : Option Tag → Grammar A} {encoding : Option Tag → Encoding A} {depth : Depth A} {Can : A → Type 0} →
      IsWrittenAs retagged E B encoding depth Can →
      IsWrittenAs retagged E (λ u. Within passes (B u)) encoding depth (λ v. Can v × (passes v ≡ true))
  bounded_written x = record { own = within_written x.own; others = λ e t not_end range. within_written (x.others e t not_end range) }

-- a tag in place of the type's own
pub implicit_written : {A : Type 0} {E : A → A → Type 0} {B : Option Tag → Grammar A} {encoding : Option Tag → Encoding A} {depth : Depth A} {Can : A → Type 0}
    {unambiguous retagged : Bool} (own : Tag) → (unambiguous ≡ true → IsWrittenAs retagged E B encoding depth Can) → retagged && unambiguous ≡ true →
    (own ≡ end_tag → ⊥) → own.tag_number < 2 ^ 64 →
    IsWrittenAs true E (λ u. B (Some (tag_or u own))) (λ u. encoding (Some (tag_or u own))) depth Can
implicit_written {E = E} {B = B} {encoding = encoding} {unambiguous = unambiguous} {retagged = retagged} own laws all =
    let x = and_parts retagged unambiguous all in
    element_written {E = E} {B = λ t. B (Some t)} {encoding = λ t. encoding (Some t)} own ((laws x.1).others x.0)

module _ {A V : Type 0} {E : A → A → Type 0} {F : V → V → Type 0} {B : Grammar A} {C : Grammar V} {f : Encoding A} {g : Encoding V} {k : Depth A} {l : Depth V}
    {c : A → Type 0} {d : V → Type 0} {a b : Bool} (first : a ≡ true → IsWritten E B f k c) (rest : b ≡ true → IsWritten F C g l d) where
  -- a part that is there, and others
  pub part_writes : a && b ≡ true → IsWritten (SamePart E F) (PartOf B C) (part_encoding f g) (part_depth k l) (part_can c d)
  part_writes all = let z = and_parts a b all in part_written (first z.0) (rest z.1)

  -- one that may be omitted, and others
  pub option_writes : (tags_known others none : Bool) → all_known tags_known others none (a && b) ≡ true →
      IsWritten (SamePart (SameOption E) F) (PartOf (OptionOf B) C) (part_encoding (option_encoding f) g) (part_depth (option_depth k) l) (part_can (option_can c) d)
  option_writes tags_known others none all =
      let z = and_parts a b (is_known tags_known others none (a && b) all).all_unambiguous in
      part_written (option_written (first z.0)) (rest z.1)

  -- one that is a default where it is omitted, and others
  pub default_writes : {ts : List Tag} {S : Members} {P : Fitting A} (is : A → Bool) (default : A) → DetectsDefault E is default → (tags_known others none : Bool) →
      (a ≡ true → IsNotation tags_known ts E B S f P c) → all_known tags_known others none (a && b) ≡ true →
      IsWritten (SamePart E F) (PartOf (DefaultOf is B) C) (part_encoding (default_encoding is f) g) (part_depth (default_depth is k) l)
      (part_can (default_can is c) d)
  default_writes is default detects tags_known others none laws all =
      let z = and_parts a b (is_known tags_known others none (a && b) all).all_unambiguous in
      part_written (default_written is (default_alike is default detects (laws z.0).coding.meaning.equal) (first z.0)) (rest z.1)

  -- a type of a CHOICE, and others
  pub either_writes : (tags_known none : Bool) → tags_known && (none && (a && b)) ≡ true →
      IsWritten (λ v w. SameEither E F (sides v) (sides w)) (λ m n v b. EitherOf B C m n (sides v) b) (λ m v. either_encoding f g m (sides v))
      (λ m v. either_depth k l m (sides v)) (λ v. either_can c d (sides v))
  either_writes tags_known none all =
      let x = and_parts tags_known (none && (a && b)) all in
      let z = and_parts a b (and_parts none (a && b) x.1).1 in
      written_along sides (choice_written (first z.0) (rest z.1))

-- a part at the end that may be omitted
pub last_part_writes : {A : Type 0} {E : A → A → Type 0} {B : Grammar A} {f : Encoding A} {k : Depth A} {c : A → Type 0} → IsWritten E B f k c →
    IsWritten (λ v w. SamePart (SameOption E) SameNothing (v, tt) (w, tt)) (λ m n v b. PartOf (OptionOf B) NoParts m n (v, tt) b)
    (λ m v. part_encoding (option_encoding f) nothing_encoding m (v, tt)) (λ m v. part_depth (option_depth k) nothing_depth m (v, tt))
    (λ v. part_can (option_can c) Always (v, tt {0}))
last_part_writes {A} laws =
    let paired : Option A → Option A × Unit {0} = λ v. (v, tt) in
    written_along paired (part_written (option_written laws) no_part_written)

-- the last type of a CHOICE
pub last_writes : {A : Type 0} {E : A → A → Type 0} {B : Grammar A} {encoding : Encoding A} {depth : Depth A} {Can : A → Type 0} {a : Bool} →
    (a ≡ true → IsWritten E B encoding depth Can) → (tags_known : Bool) → tags_known && a ≡ true → IsWritten E B encoding depth Can
last_writes {a = a} laws tags_known all = laws (and_parts tags_known a all).1

-- a type whose values represent those of another
pub represented_written : {U A : Type 0} {retagged : Bool} {E : A → A → Type 0} {B : Option Tag → Grammar A} {encoding : Option Tag → Encoding A} {depth : Depth A}
    {Can : A → Type 0} (f : U → A) → IsWrittenAs retagged E B encoding depth Can →
    IsWrittenAs retagged (λ v w. E (f v) (f w)) (λ u m n v b. B u m n (f v) b) (λ u m v. encoding u m (f v)) (λ m v. depth m (f v)) (λ v. Can (f v))
represented_written f x = record { own = written_along f x.own; others = λ e t not_end range. written_along f (x.others e t not_end range) }

-- a type with no tag of its own
pub choice_written_as : {A : Type 0} {E : A → A → Type 0} {B : Grammar A} (encoding : Option Tag → Encoding A) {depth : Depth A} {Can : A → Type 0} →
    IsWritten E B (encoding None) depth Can → IsWrittenAs false E (λ u. B) encoding depth Can
choice_written_as encoding x = record { own = x; others = λ e. never_retagged e }
