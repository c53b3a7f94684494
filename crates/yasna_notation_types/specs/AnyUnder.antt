-- An element with a given tag, as it came (X.690, 8.1).
use Rattle.std.proofs.Common.{◌≡◌, ◌∷◌, [], ℕ, List, Bool, true, false, ap, ap₂, subst}
use Rattle.std.proofs.lemmas.Bool.{and_parts, eqb-true}
use Rattle.std.specs.Prelude.{nat_eq}
use Rattle.yasna_base.specs.declared.models.tagged_der_value.TaggedDerValue.{TaggedDerValue}
use Rattle.yasna_base.specs.declared.mode.BERMode.{BERMode}
use Rattle.yasna_base.specs.declared.tag.Tag.{Tag}
use Rattle.yasna_base.specs.Beginnings.{is_tag}
use Rattle.yasna_base.specs.Canonical.{Always}
use Rattle.yasna_base.specs.Coding.{Any}
use Rattle.yasna_base.specs.Grammar.{Grammar}
use Rattle.yasna_base.specs.Identifier.{BeginsWithTag, class_number, tag_or}
use Rattle.yasna_base.specs.Raw.{raw_encoding}
use Rattle.yasna_base.specs.TaggedDerValue.{raw_of}
use Rattle.yasna_base.proofs.Beginnings.{begins_by_tag}
use Rattle.yasna_base.proofs.Identifier.{class_same}
use Rattle.yasna_notation.specs.Bounded.{Within, within_lawful}
use Rattle.yasna_notation.specs.Laws.{never_retagged}
use Rattle.yasna_notation.specs.Notation.{NotationKeepsLaws}
use Rattle.yasna_notation_types.specs.OpenChoice.{EncodesRawElement, any_begins, any_fits, any_lawful, same_any}

-- the test for elements with this tag
abbrev pub has_given_tag : Tag → TaggedDerValue → Bool
has_given_tag t v = is_tag v.tag t

-- an element with this tag, as it came
abbrev pub EncodesUnder : Tag → Grammar TaggedDerValue
EncodesUnder t = Within (has_given_tag t) EncodesRawElement

pub given_alike : (t : Tag) (v w : TaggedDerValue) → same_any v w → has_given_tag t v ≡ has_given_tag t w
given_alike t v w e = ap (λ r. is_tag r.tag t) e

-- tags that the test doesn't distinguish are one
pub is_same_tag : (t u : Tag) → is_tag t u ≡ true → t ≡ u
is_same_tag t u e =
    let y = and_parts (nat_eq (class_number t.tag_class) (class_number u.tag_class)) (nat_eq t.tag_number u.tag_number) e in
    let c = class_same t.tag_class u.tag_class (eqb-true (class_number t.tag_class) (class_number u.tag_class) y.0) in
    ap₂ (λ d k. record { tag_class = d; tag_number = k }) c (eqb-true t.tag_number u.tag_number y.1)

-- such an element begins with that tag
pub given_begins : (t : Tag) (m : BERMode) (n : ℕ) (b : List ℕ) → Any (EncodesUnder t) m n b → BeginsWithTag t b
given_begins t m n b p = subst (λ u. BeginsWithTag u b) (is_same_tag p.0.tag t p.1.1) (any_begins m n p.0 b p.1.0)

-- elements with a given tag satisfy the laws
pub any_under_lawful : (t : Tag) → NotationKeepsLaws true (t ∷ []) false same_any (λ u. EncodesUnder t) (λ u. Any (EncodesUnder t))
    (λ u m v. raw_encoding (tag_or u (raw_of v).tag) m (raw_of v)) (λ m n v. any_fits m n v × (has_given_tag t v ≡ true))
    (λ v. Always v × (has_given_tag t v ≡ true))
any_under_lawful t =
    let x = (within_lawful (has_given_tag t) (given_alike t) any_lawful).own in
    record {
      own = record { coding = x.coding; begins = λ _. begins_by_tag t (given_begins t); single = x.single; exact = x.exact };
      others = λ e. never_retagged e;
    }
