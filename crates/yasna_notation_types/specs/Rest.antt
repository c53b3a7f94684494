-- Elements of one type up to the end of contents: the rest of an extensible SEQUENCE (X.680, 25 and 52).
use Rattle.std.proofs.Common.{◌∷◌, ◌++◌, [], ◌<◌, ◌^◌, ℕ, List, Bool, false, Vec, subst}
use Rattle.std.specs.Global.{Global}
use Rattle.std.specs.List.{AllByRecursion, concat}
use Rattle.yasna_base.specs.declared.mode.BERMode.{BERMode}
use Rattle.yasna_base.specs.declared.tag.Tag.{Tag}
use Rattle.yasna_base.specs.Canonical.{IsWritten}
use Rattle.yasna_base.specs.Coding.{IsCoding}
use Rattle.yasna_base.specs.Exact.{Fitting, elements_fit}
use Rattle.yasna_base.specs.Grammar.{Grammar, Members, Encoding, Depth}
use Rattle.yasna_base.specs.Identifier.{AtEnd, BeginsWithTag}
use Rattle.yasna_base.specs.Pieces.{Each}
use Rattle.yasna_base.specs.SequenceOf.{ElementsOf, AnyElements, elements_encoding, elements_depth}
use Rattle.yasna_base.proofs.Canonical.{written_along}
use Rattle.yasna_base.proofs.Exact.{exact_along, elements_exact}
use Rattle.yasna_base.proofs.Identifier.{begins_once, begins_with}
use Rattle.yasna_base.proofs.SequenceOf.{elements_contents, elements_written}
use Rattle.yasna_reader.proofs.PartsByTags.{BeginInRange, end_in_range}
use Rattle.yasna_notation.specs.Elements.{elements_joined}
use Rattle.yasna_notation.specs.Notation.{IsNotation}
use Rattle.yasna_notation.specs.Parts.{AreParts, contents_along}

-- elements begin with a tag of 64 bits, or there are none
pub elements_in_range : {A : Type 0} {E : A → A → Type 0} {B : Grammar A} {S : Members} → IsCoding E B S → BeginInRange (AnyElements S)
elements_in_range {S} x = record {
  at = λ m n c s u i q b. first m n q.0 q.1.pieces s u i q.1.each (subst (λ z. BeginsWithTag u (z ++ s)) q.1.joined b);
}
  where
    first : (m : BERMode) (n : ℕ) (us : List (Unit {0})) (bs : List (List ℕ)) (s : List ℕ) (u : Tag) → AtEnd s → Each (λ v. S m n) us bs →
        BeginsWithTag u (concat bs ++ s) → u.tag_number < 2 ^ 64
    first m n [] [] s u i e b = end_in_range s u i b
    first m n [] (d ∷ ds) s u i e b = absurd e
    first m n (v ∷ vs) [] s u i e b = absurd e
    first m n (v ∷ vs) (d ∷ ds) s u i e b =
        let o = x.opens m n d e.0 in
        let whole = begins_with o.tag (d ++ concat ds) s (begins_with o.tag d (concat ds) o.begins) in
        subst (λ (t : Tag). t.tag_number < 2 ^ 64) (begins_once o.tag u ((d ++ concat ds) ++ s) whole b) o.in_range

-- the laws of elements of a type up to the end; their tags aren't known
pub rest_laws : {A : Type 0} {tags_known : Bool} {ts : List Tag} {E : A → A → Type 0} {B : Grammar A} {S : Members} {f : Encoding A} {P : Fitting A}
    {c : A → Type 0} → IsNotation tags_known ts E B S f P c →
    AreParts false [] (λ (v w : Vec A Global). Each E v.items w.items) (λ m n (v : Vec A Global) d. ElementsOf B m n v.items d) (AnyElements S)
    (λ m (v : Vec A Global). elements_encoding f m v.items) (λ m n (v : Vec A Global). elements_fit P m n v.items)
    (λ (v : Vec A Global). AllByRecursion c v.items)
rest_laws {A} x =
    let items : Vec A Global → List A = λ v. v.items in
    record {
      coding = contents_along items (elements_contents x.coding);
      begins = λ e. absurd (cc);
      in_range = elements_in_range x.coding;
      joined = elements_joined x.single;
      exact = exact_along items (elements_exact x.exact);
    }

-- the law of writing, if the elements have it
pub rest_written : {A : Type 0} {E : A → A → Type 0} {B : Grammar A} {encoding : Encoding A} {depth : Depth A} {Can : A → Type 0} → IsWritten E B encoding depth Can →
    IsWritten (λ (v w : Vec A Global). Each E v.items w.items) (λ m n (v : Vec A Global) d. ElementsOf B m n v.items d)
    (λ m (v : Vec A Global). elements_encoding encoding m v.items) (λ m (v : Vec A Global). elements_depth depth m v.items)
    (λ (v : Vec A Global). AllByRecursion Can v.items)
rest_written {A} x = written_along (λ (v : Vec A Global). v.items) (elements_written x)
