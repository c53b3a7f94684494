-- ENUMERATED whose values are those of an enum (X.680, 20; X.690, 8.4).
use Rattle.std.proofs.Common.{◌≡◌, ◌∷◌, [], ℤ, List, Bool, true, false, Option, FitsSigned, arith}
use Rattle.std.specs.Prelude.{◌↔◌}
use Rattle.std.specs.Int.{w64}
use Rattle.yasna_base.specs.declared.tag.Tag.{Tag}
use Rattle.yasna_base.specs.Canonical.{leaf_depth}
use Rattle.yasna_base.specs.Coding.{Any}
use Rattle.yasna_base.specs.Element.{Primitively}
use Rattle.yasna_base.specs.Enumerated.{enumerated_tag}
use Rattle.yasna_base.specs.Exact.{Fitting, IsExact, written_fits}
use Rattle.yasna_base.specs.Grammar.{Grammar, Members, Encoding}
use Rattle.yasna_base.specs.Identifier.{tag_or}
use Rattle.yasna_base.specs.Integer.{IsSigned, integer_encoding}
use Rattle.yasna_base.proofs.Canonical.{written_where}
use Rattle.yasna_base.proofs.Coding.{primitively_begins}
use Rattle.yasna_base.proofs.Identifier.{not_end}
use Rattle.yasna_base.proofs.Integer.{number_written}
use Rattle.yasna_notation.specs.Bounded.{Within, passes_alike}
use Rattle.yasna_notation.specs.Canonical.{element_written, bounded_written, represented_written}
use Rattle.yasna_notation.specs.Elements.{primitive_elements}
use Rattle.yasna_notation.specs.Laws.{element_lawful, signed_laws, represented_lawful}
use Rattle.yasna_notation.specs.Making.{in_bound}
use Rattle.yasna_notation.specs.Notation.{Meaning, IsNotation, NotationKeepsLaws, MeaningKeepsLaws, IsWrittenAs, IsWrittenMeaning}

-- b encodes the number z with the tag u in place of that of ENUMERATED, if there is one
abbrev pub EncodesNumber : Option Tag → Grammar ℤ
EncodesNumber u m n z b = Primitively (IsSigned w64) (tag_or u enumerated_tag) m n z b

-- a value is encoded as its number, and a number that no value has is no encoding
abbrev pub named_means : {A : Type 0} → (A → ℤ) → (ℤ → Bool) → (A → Type 0) → Meaning A
named_means number named Allowed = record {
  tags_known = true;
  tags = enumerated_tag ∷ [];
  retagged = true;
  under = λ u m n v b. Within named (EncodesNumber u) m n (number v) b;
  any_under = λ u. Any (Within named (EncodesNumber u));
  may_allocate = false;
  same = λ v w. number v ≡ number w;
  encoding_under = λ u m v. integer_encoding (tag_or u enumerated_tag) m (number v);
  depth = leaf_depth;
  can = Allowed;
  fits = λ m n v. written_fits leaf_depth (FitsSigned w64) m n (number v) × (named (number v) ≡ true);
}

-- the laws of numbers of 64 bits
pub numbers_lawful : NotationKeepsLaws true (enumerated_tag ∷ []) true (λ v w. v ≡ w) EncodesNumber (λ u. Any (EncodesNumber u))
    (λ u. integer_encoding (tag_or u enumerated_tag)) (written_fits leaf_depth (FitsSigned w64)) (FitsSigned w64)
numbers_lawful =
    element_lawful enumerated_tag (signed_laws w64) (primitively_begins (IsSigned w64)) (primitive_elements (IsSigned w64)) (not_end 10 (λ e. omega arith)) (omega arith)

-- the laws hold too where what can be written is said in other words
exact_where : {A : Type 0} {E : A → A → Type 0} {B : Grammar A} {encoding : Encoding A} {Fits : Fitting A} {Can Could : A → Type 0} →
    ((v : A) → Could v ↔ Can v) → IsExact E B encoding Fits Can → IsExact E B encoding Fits Could
exact_where is x = record {
  in_bytes = x.in_bytes;
  holds = x.holds;
  only = x.only;
  can = λ m n v f. (is v).1 (x.can m n v f);
  same = λ m v w e. let y = x.same m v w e in (y.0, (λ c. (is w).1 (y.1 ((is v).0 c))), y.2);
}

notation_where : {A : Type 0} {tags_known : Bool} {ts : List Tag} {E : A → A → Type 0} {B : Grammar A} {S : Members} {encoding : Encoding A}
    {Fits : Fitting A} {Can Could : A → Type 0} → ((v : A) → Could v ↔ Can v) → IsNotation tags_known ts E B S encoding Fits Can →
    IsNotation tags_known ts E B S encoding Fits Could
notation_where is x = record { coding = x.coding; begins = x.begins; single = x.single; exact = exact_where is x.exact }

pub lawful_where : {A : Type 0} {tags_known : Bool} {ts : List Tag} {retagged : Bool} {E : A → A → Type 0} {B : Option Tag → Grammar A}
    {S : Option Tag → Members} {encoding : Option Tag → Encoding A} {Fits : Fitting A} {Can Could : A → Type 0} → ((v : A) → Could v ↔ Can v) →
    NotationKeepsLaws tags_known ts retagged E B S encoding Fits Can → NotationKeepsLaws tags_known ts retagged E B S encoding Fits Could
lawful_where is x = record { own = notation_where is x.own; others = λ r t not range. notation_where is (x.others r t not range) }

flip : {P Q : Type 0} → P ↔ Q → Q ↔ P
flip x = (x.1, x.0)

module _ {A : Type 0} (number : A → ℤ) (named : ℤ → Bool) {Allowed : A → Type 0}
    (writable : (v : A) → Allowed v ↔ (FitsSigned w64 (number v) × (named (number v) ≡ true))) where
  -- the laws of reading and of a canonical mode
  pub named_lawful : MeaningKeepsLaws (named_means number named Allowed)
  named_lawful = lawful_where writable (represented_lawful number (in_bound named numbers_lawful))

  named_numbers_written : IsWrittenAs true (λ v w. number v ≡ number w) (λ u m n v b. Within named (EncodesNumber u) m n (number v) b)
      (λ u m v. integer_encoding (tag_or u enumerated_tag) m (number v)) leaf_depth (λ v. FitsSigned w64 (number v) × (named (number v) ≡ true))
  named_numbers_written = represented_written number (bounded_written named (λ v w e. passes_alike named e)
      (element_written enumerated_tag (λ t _ range. number_written (λ z. z) (FitsSigned w64) t range) (not_end 10 (λ e. omega arith)) (omega arith)))

  -- the law of writing
  pub named_written : IsWrittenMeaning (named_means number named Allowed)
  named_written =
      let x = named_numbers_written in
      record {
        own = written_where (λ v. flip (writable v)) x.own;
        others = λ e t not range. written_where (λ v. flip (writable v)) (x.others e t not range);
      }
