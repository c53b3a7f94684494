-- The laws of types under tags, from those of the types.
use Rattle.std.proofs.Common.{◌≡◌, ◌∷◌, [], ◌<◌, ◌^◌, ℕ, List, Bool, true, Option, Some, refl}
use Rattle.yasna_base.specs.declared.tag.Tag.{Tag}
use Rattle.yasna_base.specs.Canonical.{IsWritten, enclosed_encoding, enclosed_depth}
use Rattle.yasna_base.specs.Element.{Enclosed, AnyEnclosed}
use Rattle.yasna_base.specs.Exact.{Fitting, enclosed_fits}
use Rattle.yasna_base.specs.Grammar.{Grammar, Members, Encoding, Depth}
use Rattle.yasna_base.specs.Identifier.{tag_or, universal}
use Rattle.yasna_base.proofs.ExplicitTags.{enclosed_begins, tagged_written}
use Rattle.yasna_base.proofs.Identifier.{not_end}
use Rattle.yasna_notation.specs.Canonical.{element_written, implicit_written}
use Rattle.yasna_notation.specs.Elements.{explicit_elements}
use Rattle.yasna_notation.specs.Laws.{application, application_not_end, element_lawful, explicit_laws, implicit_lawful}
use Rattle.yasna_notation.specs.Notation.{IsNotation, NotationKeepsLaws, IsWrittenAs}
use Rattle.yasna_notation_types.specs.Tags.{private, private_not_end}

module _ {A : Type 0} {E : A → A → Type 0} {B : Option Tag → Grammar A} {encoding : Option Tag → Encoding A} where
  -- under [UNIVERSAL k] IMPLICIT
  module _ {tags_known : Bool} {ts : List Tag} {S : Option Tag → Members} {Fits : Fitting A} {Can : A → Type 0} (k : ℕ) where
    pub in_universal : (k ≡ 0 → ⊥) → k < 2 ^ 64 → NotationKeepsLaws tags_known ts true E B S encoding Fits Can →
        NotationKeepsLaws true (universal k ∷ []) true E (λ u. B (Some (tag_or u (universal k)))) (λ u. S (Some (tag_or u (universal k))))
        (λ u. encoding (Some (tag_or u (universal k)))) Fits Can
    in_universal some range x = implicit_lawful {unambiguous = true} {retagged = true} (universal k) (λ _. x) refl (not_end k some) range

    -- under [PRIVATE k] IMPLICIT
    pub in_private : k < 2 ^ 64 → NotationKeepsLaws tags_known ts true E B S encoding Fits Can →
        NotationKeepsLaws true (private k ∷ []) true E (λ u. B (Some (tag_or u (private k)))) (λ u. S (Some (tag_or u (private k))))
        (λ u. encoding (Some (tag_or u (private k)))) Fits Can
    in_private range x = implicit_lawful {unambiguous = true} {retagged = true} (private k) (λ _. x) refl (private_not_end k) range

  -- the laws of writing
  module _ {depth : Depth A} {Can : A → Type 0} (k : ℕ) where
    pub under_universal : (k ≡ 0 → ⊥) → k < 2 ^ 64 → IsWrittenAs true E B encoding depth Can →
        IsWrittenAs true E (λ u. B (Some (tag_or u (universal k)))) (λ u. encoding (Some (tag_or u (universal k)))) depth Can
    under_universal some range x = implicit_written {unambiguous = true} (universal k) (λ _. x) refl (not_end k some) range

    pub under_private : k < 2 ^ 64 → IsWrittenAs true E B encoding depth Can →
        IsWrittenAs true E (λ u. B (Some (tag_or u (private k)))) (λ u. encoding (Some (tag_or u (private k)))) depth Can
    under_private range x = implicit_written {unambiguous = true} (private k) (λ _. x) refl (private_not_end k) range

module _ {A : Type 0} {E : A → A → Type 0} {B : Grammar A} {encoding : Encoding A} where
  module _ {tags_known : Bool} {ts : List Tag} {S : Members} {Fits : Fitting A} {Can : A → Type 0} (k : ℕ) where
    -- under [APPLICATION k] EXPLICIT
    pub explicit_application : k < 2 ^ 64 → IsNotation tags_known ts E B S encoding Fits Can →
        NotationKeepsLaws true (application k ∷ []) true E (λ u. Enclosed B (tag_or u (application k))) (λ u. AnyEnclosed S (tag_or u (application k)))
        (λ u. enclosed_encoding encoding (tag_or u (application k))) (enclosed_fits Fits) Can
    explicit_application range x = element_lawful (application k) (explicit_laws x) (enclosed_begins S) (explicit_elements x.single) (application_not_end k) range

    -- under [PRIVATE k] EXPLICIT
    pub explicit_private : k < 2 ^ 64 → IsNotation tags_known ts E B S encoding Fits Can →
        NotationKeepsLaws true (private k ∷ []) true E (λ u. Enclosed B (tag_or u (private k))) (λ u. AnyEnclosed S (tag_or u (private k)))
        (λ u. enclosed_encoding encoding (tag_or u (private k))) (enclosed_fits Fits) Can
    explicit_private range x = element_lawful (private k) (explicit_laws x) (enclosed_begins S) (explicit_elements x.single) (private_not_end k) range

  -- the laws of writing
  module _ {depth : Depth A} {Can : A → Type 0} (x : IsWritten E B encoding depth Can) (k : ℕ) where
    pub explicit_application_written : k < 2 ^ 64 → IsWrittenAs true E (λ u. Enclosed B (tag_or u (application k)))
        (λ u. enclosed_encoding encoding (tag_or u (application k))) (enclosed_depth depth) Can
    explicit_application_written range = element_written (application k) (λ t _ fits. tagged_written t fits x) (application_not_end k) range

    pub explicit_private_written : k < 2 ^ 64 → IsWrittenAs true E (λ u. Enclosed B (tag_or u (private k)))
        (λ u. enclosed_encoding encoding (tag_or u (private k))) (enclosed_depth depth) Can
    explicit_private_written range = element_written (private k) (λ t _ fits. tagged_written t fits x) (private_not_end k) range
