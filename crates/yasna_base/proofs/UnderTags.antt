-- What satisfies its laws under any tag, as a type does that may be under IMPLICIT tags (X.690, 8.14.3).
use Rattle.std.proofs.Common.{◌≡◌, List}
use Rattle.std.specs.List.{AllByRecursion}
use Rattle.yasna_base.specs.declared.tag.Tag.{Tag}
use Rattle.yasna_base.specs.Bits.{IsBits, bits_encoding, bits_depth, CanBits, AreCanonicalBits}
use Rattle.yasna_base.specs.Canonical.{enclosed_encoding, enclosed_depth, IsWritten}
use Rattle.yasna_base.specs.Coding.{IsCoding, IsContentsCoding, Any}
use Rattle.yasna_base.specs.Element.{Enclosed, AnyEnclosed}
use Rattle.yasna_base.specs.Exact.{Fitting, IsExact, written_fits, enclosed_fits, elements_fit}
use Rattle.yasna_base.specs.Grammar.{Grammar, Members, TaggedGrammar, TaggedMembers, Encoding, Depth}
use Rattle.yasna_base.specs.Laws.{KeepsLawsUnderTags}
use Rattle.yasna_base.specs.Pieces.{Each}
use Rattle.yasna_base.specs.SequenceOf.{IsListOf, AnyListOf, elements_encoding, elements_depth}
use Rattle.yasna_base.specs.Set.{IsSetOf, AnySetOf}
use Rattle.yasna_base.specs.SetWriting.{in_encoding_order, set_of_encoding, SetOfKeepsReadingLaws, SetOfKeepsWritingLaws}
use Rattle.yasna_base.specs.UnderTags.{IsExactUnderTags, set_of_fits}
use Rattle.yasna_base.proofs.Bits.{bits_coding}
use Rattle.yasna_base.proofs.Canonical.{enclosed_written, written_along}
use Rattle.yasna_base.proofs.Coding.{enclosed, along}
use Rattle.yasna_base.proofs.Exact.{written_exact, enclosed_exact, exact_along, elements_exact, bits_exact}
use Rattle.yasna_base.proofs.ExplicitTags.{tagged, tagged_written, tagged_exact}
use Rattle.yasna_base.proofs.SequenceOf.{list, elements_written}
use Rattle.yasna_base.proofs.SetLaws.{set_of}
use Rattle.yasna_base.proofs.SetOfExact.{ordered_set_of_exact}
use Rattle.yasna_base.proofs.SetOfWriting.{set_of_reading, set_of_writing}

-- a type that satisfies the laws of writing under any tag satisfies those of a canonical mode
pub exact_under_tags : {A : Type 0} {E : A → A → Type 0} {B : TaggedGrammar A} {S : TaggedMembers} {encoding : Tag → Encoding A} {depth : Depth A}
    {Can : A → Type 0} → KeepsLawsUnderTags E B S encoding depth Can → IsExactUnderTags E B S encoding (written_fits depth Can) Can
exact_under_tags x = λ t not_end range. let y = x t not_end range in (y.0, written_exact y.1)

-- a BIT STRING keeps these, whatever its unused bits
pub bits_under_tags : IsExactUnderTags (λ v w. v ≡ w) IsBits (λ t. Any (IsBits t)) bits_encoding
    (written_fits bits_depth AreCanonicalBits) CanBits
bits_under_tags = λ t not_end range. (bits_coding t not_end, bits_exact t range)

-- a type whose values represent contents satisfies the laws under any tag, as a SEQUENCE does
pub sequence_under_tags : {U A : Type 0} {E : A → A → Type 0} {C : Grammar A} {S : Members} {encoding : Encoding A} {depth : Depth A} {Can : A → Type 0}
    (f : U → A) → IsContentsCoding E C S → IsWritten E C encoding depth Can →
    KeepsLawsUnderTags (λ v w. E (f v) (f w)) (λ t m n v b. Enclosed C t m n (f v) b) (λ t. AnyEnclosed S t) (λ t m v. enclosed_encoding encoding t m (f v))
    (λ m v. enclosed_depth depth m (f v)) (λ v. Can (f v))
sequence_under_tags f x y = λ t not_end range. (along f (enclosed t not_end x), written_along f (enclosed_written t range y))

-- a type whose values represent contents satisfies the laws of a canonical mode under any tag, as a SEQUENCE does
pub sequence_exact_under_tags : {U A : Type 0} {E : A → A → Type 0} {C : Grammar A} {S : Members} {encoding : Encoding A} {Fits : Fitting A}
    {Can : A → Type 0} (f : U → A) → IsContentsCoding E C S → IsExact E C encoding Fits Can →
    IsExactUnderTags (λ v w. E (f v) (f w)) (λ t m n v b. Enclosed C t m n (f v) b) (λ t. AnyEnclosed S t) (λ t m v. enclosed_encoding encoding t m (f v))
    (λ m n v. enclosed_fits Fits m n (f v)) (λ v. Can (f v))
sequence_exact_under_tags f x y = λ t not_end range. (along f (enclosed t not_end x), exact_along f (enclosed_exact t range y))

-- a type whose values represent lists satisfies the laws under any tag, as a SEQUENCE OF does
pub list_under_tags : {U A : Type 0} {E : A → A → Type 0} {B : Grammar A} {S : Members} {encoding : Encoding A} {depth : Depth A} {Can : A → Type 0}
    (f : U → List A) → IsCoding E B S → IsWritten E B encoding depth Can →
    KeepsLawsUnderTags (λ v w. Each E (f v) (f w)) (λ t m n v b. IsListOf B t m n (f v) b) (λ t. AnyListOf S t)
    (λ t m v. enclosed_encoding (elements_encoding encoding) t m (f v)) (λ m v. enclosed_depth (elements_depth depth) m (f v)) (λ v. AllByRecursion Can (f v))
list_under_tags f x y = λ t not_end range. (along f (list t not_end x), written_along f (enclosed_written t range (elements_written y)))

-- a type whose values represent lists satisfies the laws of a canonical mode under any tag, as a SEQUENCE OF does
pub list_exact_under_tags : {U A : Type 0} {E : A → A → Type 0} {B : Grammar A} {S : Members} {encoding : Encoding A} {Fits : Fitting A} {Can : A → Type 0}
    (f : U → List A) → IsCoding E B S → IsExact E B encoding Fits Can →
    IsExactUnderTags (λ v w. Each E (f v) (f w)) (λ t m n v b. IsListOf B t m n (f v) b) (λ t. AnyListOf S t)
    (λ t m v. enclosed_encoding (elements_encoding encoding) t m (f v)) (λ m n v. enclosed_fits (elements_fit Fits) m n (f v)) (λ v. AllByRecursion Can (f v))
list_exact_under_tags f x y = λ t not_end range. (along f (list t not_end x), exact_along f (enclosed_exact t range (elements_exact y)))

-- a SET OF satisfies its own laws of writing under any tag
pub set_of_under_tags : {A : Type 0} {E : A → A → Type 0} {B : Grammar A} {S : Members} {encoding : Encoding A} {depth : Depth A} {Can : A → Type 0} →
    IsCoding E B S → IsWritten E B encoding depth Can → SetOfKeepsReadingLaws E B S × SetOfKeepsWritingLaws E B encoding depth Can
set_of_under_tags x y = (set_of_reading x, set_of_writing x y)

-- a type whose values represent a SET OF satisfies the laws of a canonical mode, where its encoding is that of the values in order
pub set_of_exact_under_tags : {U A : Type 0} {E : A → A → Type 0} {B : Grammar A} {S : Members} {encoding : Encoding A} {Fits : Fitting A} {Can : A → Type 0}
    (f : U → List A) → IsCoding E B S → IsExact E B encoding Fits Can →
    IsExactUnderTags (λ v w. Each E (f v) (f w)) (λ t m n v b. IsSetOf B t m n (f v) b) (λ t. AnySetOf S t)
    (λ t m v. set_of_encoding encoding t m (in_encoding_order encoding m (f v))) (λ m n v. enclosed_fits (set_of_fits encoding Fits) m n (f v))
    (λ v. AllByRecursion Can (f v))
set_of_exact_under_tags f x y = λ t not_end range. (along f (set_of t not_end x), exact_along f (ordered_set_of_exact y t range))

-- an EXPLICIT tag may be any tag
pub tagged_under_tags : {A : Type 0} {E : A → A → Type 0} {B : Grammar A} {S : Members} {encoding : Encoding A} {depth : Depth A} {Can : A → Type 0} →
    IsCoding E B S → IsWritten E B encoding depth Can →
    KeepsLawsUnderTags E (λ t. Enclosed B t) (λ t. AnyEnclosed S t) (λ t. enclosed_encoding encoding t) (enclosed_depth depth) Can
tagged_under_tags x y = λ t not_end range. (tagged t not_end x, tagged_written t range y)

-- also where only a canonical mode has one encoding
pub tagged_exact_under_tags : {A : Type 0} {E : A → A → Type 0} {B : Grammar A} {S : Members} {encoding : Encoding A} {Fits : Fitting A} {Can : A → Type 0} →
    IsCoding E B S → IsExact E B encoding Fits Can →
    IsExactUnderTags E (λ t. Enclosed B t) (λ t. AnyEnclosed S t) (λ t. enclosed_encoding encoding t) (enclosed_fits Fits) Can
tagged_exact_under_tags x y = λ t not_end range. (tagged t not_end x, tagged_exact t range y)
