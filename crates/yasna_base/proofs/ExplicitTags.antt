-- EXPLICIT tags: a constructed element of another tag around an element of the type (X.690, 8.14).
use Rattle.std.proofs.Common.{◌≡◌, ℕ, zero, suc, ◌^◌, ◌<◌, List, ap, arith}
use Rattle.yasna_base.specs.declared.mode.BERMode.{BERMode}
use Rattle.yasna_base.specs.declared.tag.PCBit.TheVariants.{Constructed}
use Rattle.yasna_base.specs.declared.tag.Tag.{Tag}
use Rattle.yasna_base.specs.Canonical.{enclosed_encoding, enclosed_depth, IsWritten}
use Rattle.yasna_base.specs.Coding.{IsCoding, IsContentsCoding}
use Rattle.yasna_base.specs.Element.{Enclosed, AnyEnclosed}
use Rattle.yasna_base.specs.Exact.{Fitting, IsExact, enclosed_fits}
use Rattle.yasna_base.specs.Grammar.{Grammar, Members, Encoding, Depth}
use Rattle.yasna_base.specs.Identifier.{class_number, end_tag, BeginsWithTag, context}
use Rattle.yasna_base.proofs.Canonical.{enclosed_written}
use Rattle.yasna_base.proofs.Coding.{enclosed}
use Rattle.yasna_base.proofs.Element.{element_begins}
use Rattle.yasna_base.proofs.Exact.{enclosed_exact}

-- a tag of that class isn't that of the end of contents
pub context_not_end : (k : ℕ) → context k ≡ end_tag → ⊥
context_not_end k e = let c = ap (λ (t : Tag). class_number t.tag_class) e in absurd (omega arith)

-- nor one with another number
pub contexts_differ : (j k : ℕ) → (j ≡ k → ⊥) → context j ≡ context k → ⊥
contexts_differ j k h e = h (ap (λ (t : Tag). t.tag_number) e)

-- one element alone is contents
pub one_contents : {A : Type 0} {E : A → A → Type 0} {B : Grammar A} {S : Members} → IsCoding E B S → IsContentsCoding E B S
one_contents x = record { meaning = x.meaning; ends = λ m n k b c r s i j. x.prefix_free m n k b c r s }

-- a type with an EXPLICIT tag satisfies the laws of reading
pub tagged : {A : Type 0} {E : A → A → Type 0} {B : Grammar A} {S : Members} (t : Tag) → (t ≡ end_tag → ⊥) →
    IsCoding E B S → IsCoding E (Enclosed B t) (AnyEnclosed S t)
tagged t not_end x = enclosed t not_end (one_contents x)

-- a type with an EXPLICIT tag satisfies the laws of writing
pub tagged_written : {A : Type 0} {E : A → A → Type 0} {B : Grammar A} {encoding : Encoding A} {depth : Depth A} {Can : A → Type 0} (t : Tag) →
    t.tag_number < 2 ^ 64 → IsWritten E B encoding depth Can → IsWritten E (Enclosed B t) (enclosed_encoding encoding t) (enclosed_depth depth) Can
tagged_written t range x = enclosed_written t range x

-- a type with an EXPLICIT tag satisfies the laws of a canonical mode
pub tagged_exact : {A : Type 0} {E : A → A → Type 0} {B : Grammar A} {encoding : Encoding A} {Fits : Fitting A} {Can : A → Type 0} (t : Tag) →
    t.tag_number < 2 ^ 64 → IsExact E B encoding Fits Can → IsExact E (Enclosed B t) (enclosed_encoding encoding t) (enclosed_fits Fits) Can
tagged_exact t range x = enclosed_exact t range x

-- what is enclosed begins with the tag around it
pub enclosed_begins : (S : Members) (t : Tag) (m : BERMode) (n : ℕ) (b : List ℕ) → AnyEnclosed S t m n b → BeginsWithTag t b
enclosed_begins S t m zero b p = absurd p
enclosed_begins S t m (suc n) b p = element_begins m t Constructed p.contents b p.element
