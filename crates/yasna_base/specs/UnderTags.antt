-- The laws of a type under any tag: under its own, and under one that is in place of it, as an IMPLICIT tag does
-- (X.690, 8.14.3).
use Rattle.std.specs.Prelude.{List}
use Rattle.yasna_base.specs.declared.tag.Tag.{Tag}
use Rattle.yasna_base.specs.Coding.{IsCoding}
use Rattle.yasna_base.specs.Exact.{Fitting, IsExact, elements_fit}
use Rattle.yasna_base.specs.Grammar.{TaggedGrammar, TaggedMembers, Encoding}
use Rattle.yasna_base.specs.Identifier.{AnyTag}
use Rattle.yasna_base.specs.Set.{AreInSetOfOrder}
use Rattle.yasna_base.specs.SetWriting.{encodings}

-- A type, which B t m n v b says the bytes b to encode under the tag t, satisfies the laws of reading under any tag but that of the end
-- of contents, and has one encoding in each canonical mode
abbrev pub IsExactUnderTags : {A : Type 0} → (A → A → Type 0) → TaggedGrammar A → TaggedMembers → (Tag → Encoding A) → Fitting A → (A → Type 0) →
    Type 0
IsExactUnderTags E B S encoding Fits Can =
    AnyTag (λ t. IsCoding E (B t) (S t) × IsExact E (B t) (encoding t) Fits Can)

-- which values have an encoding as the elements of a SET OF: those that have one each, in the order that the mode requires
abbrev pub set_of_fits : {A : Type 0} → Encoding A → Fitting A → Fitting (List A)
set_of_fits encoding F m n vs = elements_fit F m n vs × AreInSetOfOrder m (encodings encoding m vs)
