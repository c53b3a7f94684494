-- What a writing has where a part of a set begins, and at the end of a set.
use Rattle.std.proofs.Common.{◌≡◌, ℕ, List, [], ◌∷◌, ◌++◌, Bool, true, false, refl, sym, ap, ◌∙◌, subst, map, Vec, None, Some}
use Rattle.std.specs.Global.{Global}
use Rattle.std.specs.List.{AllByRecursion, concat, flat_map}
use Rattle.std.specs.Prelude.{Ok}
use Rattle.yasna_base.specs.declared.error.ASN1Error.{ASN1Error}
use Rattle.yasna_base.specs.declared.mode.BERMode.{BERMode}
use Rattle.yasna_base.specs.declared.tag.PCBit.TheVariants.{Constructed}
use Rattle.yasna_base.specs.declared.tag.Tag.{Tag}
use Rattle.yasna_base.specs.Canonical.{canonical_element}
use Rattle.yasna_base.specs.Order.{octets_cmp, in_order}
use Rattle.yasna_base.specs.Set.{SetOfContents}
use Rattle.yasna_writer.specs.Parts.{WrittenParts, only_part, last_part, bytes_each}
use Rattle.yasna_writer.specs.Set.{EndsPart, LosesParts, BeginsNext, EndsSet}
use Rattle.yasna_writer.specs.View.{Written, begun}

-- a part begins after those before
pub part_begins : (m : BERMode) (b : Bool) (old : List (Vec ℕ Global)) (last : Written) (new : List (Vec ℕ Global)) (w : Written) →
    EndsPart b old last new (Ok tt) →
    w ≡ record (begun m) { failed = None } → BeginsNext m b old last new w
part_begins m b old last new w h e =
    subst (λ x. BeginsNext m b old last new x) (sym e) (record { begins = record { sticks = h.0; fresh = refl }; before = h.1 })

-- a part that begins where an error is sticky
pub part_fails : (m : BERMode) (b : Bool) (old : List (Vec ℕ Global)) (last : Written) (new : List (Vec ℕ Global)) (w : Written) (k : ASN1Error) →
    LosesParts last.failed k → new ≡ [] → w ≡ record (begun m) { failed = Some k } → BeginsNext m b old last new w
part_fails m b old last new w k h n e =
    subst (λ x. BeginsNext m b old last new x) (sym e) (record { begins = record { sticks = h; fresh = refl }; before = ap bytes_each n })

-- parts joined are their bytes joined
pub flat_concat : {X : Type 0} (f : X → List ℕ) (xs : List X) → flat_map f xs ≡ concat (map f xs)
flat_concat f [] = refl
flat_concat f (x ∷ xs) = ap (λ z. f x ++ z) (flat_concat f xs)

-- what holds of all items' images
pub all_map : {X Y : Type 0} (f : X → Y) (P : Y → Type 0) (xs : List X) → AllByRecursion (λ x. P (f x)) xs → AllByRecursion P (map f xs)
all_map f P [] a = tt
all_map f P (x ∷ xs) a = (a.0, all_map f P xs a.1)

pub all_unmap : {X Y : Type 0} (f : X → Y) (P : Y → Type 0) (xs : List X) → AllByRecursion P (map f xs) → AllByRecursion (λ x. P (f x)) xs
all_unmap f P [] a = tt
all_unmap f P (x ∷ xs) a = (a.0, all_unmap f P xs a.1)

-- parts of which one is empty make no contents of a SET OF
pub not_set_of : (vs : List (Vec ℕ Global)) (ps : List (List ℕ)) → bytes_each vs ≡ ps → (AllByRecursion (λ v. v.items ≡ [] → ⊥) vs → ⊥) → (c : List ℕ) →
    SetOfContents ps c → ⊥
not_set_of vs ps e not_all c h =
    not_all (all_unmap (λ (v : Vec ℕ Global). v.items) (λ b. b ≡ [] → ⊥) vs (subst (λ z. AllByRecursion (λ b. b ≡ [] → ⊥) z) (sym e) h.non_empty))

-- parts in order make the contents of a SET OF
pub set_of_contents : (vs : List (Vec ℕ Global)) (ps : List (List ℕ)) → bytes_each vs ≡ ps → AllByRecursion (λ v. v.items ≡ [] → ⊥) vs →
    SetOfContents ps (concat (in_order octets_cmp (bytes_each vs)))
set_of_contents vs ps e all = record {
  non_empty = subst (λ z. AllByRecursion (λ b. b ≡ [] → ⊥) z) e (all_map (λ (v : Vec ℕ Global). v.items) (λ b. b ≡ [] → ⊥) vs all);
  joined = ap (λ bs. concat (in_order octets_cmp bs)) e;
}

pub is_not : (b : Bool) → b ≡ false → b ≡ true → ⊥
is_not b e f = absurd (cc)

-- the end of a set, seen from where its tag hadn't been taken
pub set_ends : (Contents : List (List ℕ) → List ℕ → Type 0) (tag t : Tag) (old taken : Written) (left : WrittenParts) (new : Written) →
    taken ≡ record old { tag = None } → tag ≡ t → EndsSet Contents (canonical_element taken.mode tag Constructed) left taken new →
    EndsSet Contents (canonical_element old.mode t Constructed) left old new
set_ends Contents tag t old taken left new e f h =
    subst (λ (u : Tag). EndsSet Contents (canonical_element old.mode u Constructed) left (record old { tag = None }) new) f
    (subst (λ (w : Written). EndsSet Contents (canonical_element w.mode tag Constructed) left w new) e h)

-- the end of a SET OF with one part, seen from where this part hadn't been put after the others
pub only_part_ends : (encoding : List ℕ → List ℕ) (parts : List (Vec ℕ Global)) (b : Bool) (m : BERMode) (last : Written) (left : WrittenParts)
    (old new : Written) →
    record { parts = bytes_each parts ++ last_part b last.bytes; mode = m; failed = last.failed } ≡ left → b ≡ true → parts ≡ [] →
    EndsSet SetOfContents encoding (only_part last) old new → EndsSet SetOfContents encoding left old new
only_part_ends encoding parts b m last left old new v t e h =
    let one : bytes_each parts ++ last_part b last.bytes ≡ last.bytes ∷ [] = rw (t, e) refl in
    subst (λ (w : WrittenParts). EndsSet SetOfContents encoding w old new) v
    (subst (λ ps. EndsSet SetOfContents encoding (record { parts = ps; mode = m; failed = last.failed }) old new) (sym one) h)
