-- What the parts of a SET make doesn't depend on how they were, where those that begin with one tag are one.
use Rattle.std.proofs.Common.{◌≡◌, ℕ, ◌<◌, List, [], ◌∷◌, length, get_or, set, refl, ap, ap₂, sym, ◌∙◌, subst, arith, map, swap}
use Rattle.std.proofs.Math.ListN.{get_or-map}
use Rattle.std.proofs.lemmas.List.{length-map, map-set}
use Rattle.std.proofs.lemmas.List.Elements.{All-contains, All-from_recursion, recursion_from_All}
use Rattle.std.proofs.lemmas.List.Sorted.{All-permutation, IsPermutation-keeps, IsPermutation-refl, IsPermutation-swap, IsPermutation-trans}
use Rattle.std.specs.List.{AllByRecursion, concat, Contains}
use Rattle.std.specs.List.Sorted.{IsPermutation}
use Rattle.yasna_base.specs.Identifier.{BeginsWithTag}
use Rattle.yasna_base.specs.Order.{in_order}
use Rattle.yasna_base.specs.Set.{SetPart, HasItsTag, part_cmp, parts_bytes, SetContents}
use Rattle.yasna_base.specs.SetLaws.{HaveOwnTags, SetContentsAreOne}
use Rattle.yasna_base.proofs.Identifier.{begins_once}
use Rattle.yasna_base.proofs.SetLaws.{set_order_one}

map_swap : {X Y : Type 0} (f : X → Y) (xs : List X) (i j : ℕ) → map f (swap xs i j) ≡ swap (map f xs) i j
map_swap f [] i j = refl
map_swap f (x ∷ xs) i j =
    let l = x ∷ xs in
    map-set f (set l i (get_or l j x)) j (get_or l i x) ∙ ap (λ z. set z j (f (get_or l i x))) (map-set f l i (get_or l j x)) ∙
    ap₂ (λ y z. set (set (map f l) i y) j z) (sym (get_or-map f l j x)) (sym (get_or-map f l i x))

-- parts with their tags, where they are otherwise
record Permuted (ts : List SetPart) (qs : List (List ℕ)) : Type 0 where
  parts : List SetPart
  permuted : IsPermutation ts parts
  same : parts_bytes parts ≡ qs

permuted_on : (ts : List SetPart) (qs : List (List ℕ)) (i j : ℕ) → i < length qs → j < length qs → Permuted ts qs → Permuted ts (swap qs i j)
permuted_on ts qs i j p q m =
    let n : length m.parts ≡ length qs = sym (length-map m.parts (λ (t : SetPart). t.bytes)) ∙ ap length m.same in
    let ts' = swap m.parts i j in
    record {
      parts = ts';
      permuted = IsPermutation-trans ts m.parts ts' m.permuted (IsPermutation-swap m.parts ts' i j (omega arith) (omega arith) refl);
      same = map_swap (λ (t : SetPart). t.bytes) m.parts i j ∙ ap (λ z. swap z i j) m.same;
    }

moves : (ts : List SetPart) (qs : List (List ℕ)) → IsPermutation (parts_bytes ts) qs → Permuted ts qs
moves ts qs p =
    IsPermutation-keeps (parts_bytes ts) (λ z. Permuted ts z) (record { parts = ts; permuted = IsPermutation-refl ts; same = refl })
    (λ l i j h k m. permuted_on ts l i j h k m) qs p

-- a part is known by its bytes
part_known : (t u : SetPart) → HasItsTag t → HasItsTag u → t.bytes ≡ u.bytes → t ≡ u
part_known t u h k e =
    ap₂ (λ x b. record { tag = x; bytes = b }) (begins_once t.tag u.tag t.bytes h.begins (subst (λ b. BeginsWithTag u.tag b) (sym e) k.begins)) e

parts_known : (ts us : List SetPart) → AllByRecursion HasItsTag ts → AllByRecursion HasItsTag us → parts_bytes ts ≡ parts_bytes us → ts ≡ us
parts_known [] [] h k e = refl
parts_known [] (u ∷ us) h k e = absurd (omega (arith, ap length e))
parts_known (t ∷ ts) [] h k e = absurd (omega (arith, ap length e))
parts_known (t ∷ ts) (u ∷ us) h k e =
    let first : t.bytes ≡ u.bytes = cc in
    let rest : parts_bytes ts ≡ parts_bytes us = cc in
    ap₂ (λ x xs. x ∷ xs) (part_known t u h.0 k.0 first) (parts_known ts us h.1 k.1 rest)

-- what the same parts make is one
contents_one : (qs : List (List ℕ)) (c d : List ℕ) → SetContents qs c → SetContents qs d → d ≡ c
contents_one qs c d x y =
    let same = parts_known y.tagged x.tagged y.tags x.tags (y.same ∙ sym x.same) in
    y.joined ∙ ap (λ ts. concat (parts_bytes (in_order part_cmp ts))) same ∙ sym x.joined

contains_bytes : (ts : List SetPart) (t : SetPart) → Contains ts t → Contains (parts_bytes ts) t.bytes
contains_bytes ts t a =
    let f = λ (u : SetPart). u.bytes in
    (a.0, (let n = length-map ts f in omega (arith, a.1)), get_or-map f ts a.0 t ∙ ap f a.2)

-- parts of one tag are one
one_of_tag : (ps : List (List ℕ)) (ts : List SetPart) → parts_bytes ts ≡ ps → AllByRecursion HasItsTag ts → HaveOwnTags ps →
    (t u : SetPart) → Contains ts t → Contains ts u → t.tag ≡ u.tag → t ≡ u
one_of_tag ps ts e all own t u a b same =
    let h = All-contains HasItsTag ts t (All-from_recursion HasItsTag ts all) a in
    let k = All-contains HasItsTag ts u (All-from_recursion HasItsTag ts all) b in
    let in_ps = λ (v : SetPart) (i : Contains ts v). subst (λ z. Contains z v.bytes) e (contains_bytes ts v i) in
    let f = own t.bytes u.bytes u.tag (in_ps t a) (in_ps u b) (subst (λ x. BeginsWithTag x t.bytes) same h.begins) k.begins in
    ap₂ (λ x b. record { tag = x; bytes = b }) same f

pub set_contents_one : SetContentsAreOne
set_contents_one = λ ps qs p own c x.
    let ts = x.tagged in
    let m = moves ts qs (subst (λ z. IsPermutation z qs) (sym x.same) p) in
    let tags = recursion_from_All HasItsTag m.parts (All-permutation HasItsTag ts m.parts m.permuted (All-from_recursion HasItsTag ts x.tags)) in
    let order = set_order_one ts m.parts m.permuted (one_of_tag ps ts x.same x.tags own) in
    let made : SetContents qs c =
    record { tagged = m.parts; tags = tags; same = m.same; joined = x.joined ∙ ap (λ us. concat (parts_bytes us)) order } in
    (made, λ d y. contents_one qs c d made y)
