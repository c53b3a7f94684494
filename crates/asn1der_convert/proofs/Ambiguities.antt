-- Which ambiguities are met.
use Rattle.std.proofs.Common.{◌≡◌, ◌↔◌, ℕ, zero, suc, ◌-◌, ◌≤◌, List, [], ◌∷◌, ◌++◌, Ok, Err, None, inl, inr, refl, sym, ap, ◌∙◌, subst, append-nil, append_assoc, arith}
use Rattle.std.specs.Prelude.{Option, Result, IfOk}
use Rattle.std.specs.List.{AllByRecursion, concat}
use Rattle.yasna_base.specs.Bits.{bits_tag}
use Rattle.yasna_base.specs.Header.{ContentsEnd, definite_end, OpensAt, EndsBefore}
use Rattle.yasna_base.specs.Identifier.{BeginsWithTag}
use Rattle.yasna_base.specs.Octets.{octets_tag}
use Rattle.yasna_base.specs.Pieces.{Pieces}
use Rattle.yasna_base.specs.Set.{SetPart, parts_bytes, set_tag}
use Rattle.yasna_base.specs.declared.mode.BERMode.{BERMode}
use Rattle.yasna_base.specs.declared.mode.BERMode.TheVariants.{Ber}
use Rattle.yasna_base.specs.declared.tag.PCBit.TheVariants.{Primitive, Constructed}
use Rattle.yasna_base.specs.declared.tag.Tag.{Tag}
use Rattle.yasna_base.proofs.Header.{opens_begins, header_of, end_after}
use Rattle.asn1der_convert.specs.Ambiguity.{MayBeSegments, IsCertain, IsSureBranch, IsSure, Meets, Notes, first_place, EnclosesParts, MeetsAmbiguities, MeetsAt, MeetsTo, AreTheAmbiguities}
use Rattle.asn1der_convert.specs.ContentsClass.{IsOfClass}
use Rattle.asn1der_convert.specs.Parts.{TakesPart, TakesPartsTo, AppendsPart, AppendsParts, ArePutInOrder, sorted, as_they_were}
use Rattle.asn1der_convert.specs.SetOrder.{IsOrderKnown, InOrder}
use Rattle.asn1der_convert.specs.Tags.{IsOtherTag, IsOtherConstructed}
use Rattle.asn1der_convert.specs.Tree.{Branch, boolean, bits, string, primitive, set_of, constructed, Tree, branch_tag, tree_parts, HasBranch, HasTree}
use Rattle.asn1der_convert.specs.declared.ambiguity.Ambiguities.{Ambiguities}
use Rattle.asn1der_convert.specs.declared.ambiguity.Ambiguity.{Ambiguity}
use Rattle.asn1der_convert.specs.declared.ambiguity.Ambiguity.TheVariants.{Segments, ImplicitSetOf, Order}
use Rattle.asn1der_convert.specs.declared.contents_class.ContentsClass.{ContentsClass}
use Rattle.asn1der_convert.specs.declared.contents_class.ContentsClass.TheVariants.{Other}
use Rattle.asn1der_convert.specs.declared.set_order.SetOrder.TheVariants.{Octets}
use Rattle.asn1der_convert.proofs.Exact.{branch_class, trees_end}
use Rattle.asn1der_convert.proofs.Parts.{no_parts, more_parts, parts_labels, joined_more, Reached, reached_none, reached_more}
use Rattle.asn1der_convert.proofs.Rejections.{Root, root_tag, root_kind}
use Rattle.asn1der_convert.proofs.SetOrder.{by_octets_in_order}

-- what holds of each kind of ambiguity
pub each_kind : (P : Ambiguity → Type 0) → P Segments → P ImplicitSetOf → P Order → (a : Ambiguity) → P a
each_kind P s i o Segments = s
each_kind P s i o ImplicitSetOf = i
each_kind P s i o Order = o

-- OCTET STRINGs may be segments
pub segments_octets : (ps : List SetPart) (P : Type 0) → P → P ↔ AllByRecursion (λ (p : SetPart). p.tag ≡ octets_tag) ps → P ↔ MayBeSegments ps
segments_octets ps P holds h = (λ i. inl (h.0 i), λ s. holds)

-- other elements, where they are BIT STRINGs
pub segments_bits : (ps : List SetPart) (P Q : Type 0) → (P → ⊥) → P ↔ AllByRecursion (λ (p : SetPart). p.tag ≡ octets_tag) ps →
    Q ↔ AllByRecursion (λ (p : SetPart). p.tag ≡ bits_tag) ps → Q ↔ MayBeSegments ps
segments_bits ps P Q not_octets g h = (λ i. inr (h.0 i), go)
  where
    go : MayBeSegments ps → Q
    go (inl a) = absurd (not_octets (g.1 a))
    go (inr a) = h.1 a

-- nothing was met
meets_nothing : (a : Option ℕ) (P : Type 0) → P → Meets a a P
meets_nothing a P p = (λ e. (e, p), λ h. h.0)

-- first one thing, then another
meets_both : (a b c : Option ℕ) (P Q R : Type 0) → (P → Q → R) → (R → P × Q) → Meets a b P → Meets b c Q → Meets a c R
meets_both a b c P Q R f g x y =
    (λ e. let q = y.0 e in let p = x.0 q.0 in (p.0, f p.1 q.1), λ h. let r = g h.1 in y.1 (x.1 (h.0, r.0), r.1))

-- `Meets` of a property that says as much
meets_as : (a b : Option ℕ) (P Q : Type 0) → (P → Q) → (Q → P) → Meets a b P → Meets a b Q
meets_as a b P Q f g x = (λ e. let p = x.0 e in (p.0, f p.1), λ h. x.1 (h.0, g h.1))

-- `Notes` of a property that says as much
pub notes_as : (a b : Option ℕ) (offset : ℕ) (P Q : Type 0) → P ↔ Q → Notes a b offset P → Notes a b offset Q
notes_as a b offset P Q f x = record {
  certain = λ q. x.certain (f.1 q);
  ambiguous = λ none. x.ambiguous (λ p. none (f.0 p));
  meets = meets_as a b P Q f.0 f.1 x.meets;
}

-- what holds of any value of a result
pub if_ok_any : {A E : Type 0} (r : Result A E) (P : A → Type 0) → ((x : A) → P x) → IfOk r P
if_ok_any (Ok x) P f = f x
if_ok_any (Err e) P f = tt

-- a tree is sure that isn't of another type
pub sure_of_kind : (a : Ambiguity) (n : ℕ) (m : BERMode) (k : ContentsClass) (t : Tag) (s : List ℕ) (v : Tree n) (b r : List ℕ) → IsOfClass k t →
    (k ≡ Other → ⊥) → BeginsWithTag t s → HasTree n m v b → s ≡ b ++ r → IsSure a n v
unfolding Tree HasTree IsSure
sure_of_kind a zero m k t s v b r is not_other h x e = absurd x
sure_of_kind a (suc j) m k t s v b r is not_other h x e =
    go v (root_kind (suc j) m k t s b r (record { k = j; level = refl; branch = v; has = x }) is h e)
  where
    go : (w : Branch (Tree j)) → branch_class w ≡ k → IsSureBranch a (tree_parts j) (IsSure a j) w
    go (boolean u) f = tt
    go (bits u) f = tt
    go (string u c) f = tt
    go (primitive u c) f = tt
    go (set_of vs) f = absurd (not_other (sym f))
    go (constructed u vs) f = absurd (not_other (sym f))

-- nor is anything ambiguous about a primitive element
pub sure_primitive : (a : Ambiguity) (n : ℕ) (m : BERMode) (t : Tag) (s c : List ℕ) (end : ContentsEnd) (v : Tree n) (b r : List ℕ) →
    OpensAt m t Primitive s c end → HasTree n m v b → s ≡ b ++ r → IsSure a n v
unfolding Tree HasTree IsSure
sure_primitive a zero m t s c end v b r opens x e = absurd x
sure_primitive a (suc j) m t s c end v b r opens x e = go v x
  where
    go : (w : Branch (Tree j)) → HasBranch (HasTree j m) (tree_parts j) (suc j) m w b → IsSureBranch a (tree_parts j) (IsSure a j) w
    go (boolean u) y = tt
    go (bits u) y = tt
    go (string u d) y = tt
    go (primitive u d) y = tt
    go (set_of vs) y = let h = (header_of m t set_tag Primitive Constructed s c y.contents b r end opens y.element e).bit in absurd (cc)
    go (constructed u vs) y = let h = (header_of m t u Primitive Constructed s c y.1.contents b r end opens y.1.element e).bit in absurd (cc)

-- P holds of elements at the start of d up to where contents end, which r follows
abbrev OfAll : (k : ℕ) (m : BERMode) (d : List ℕ) (end : ContentsEnd) (r : List ℕ) → (List (Tree k) → Type 0) → Type 0
OfAll k m d end r P = (vs : List (Tree k)) (prefix rest : List ℕ) → Pieces (HasTree k m) vs prefix → d ≡ prefix ++ rest → EndsBefore end rest r → P vs

-- what was met in a constructed element, and then about itself
met_around : (a : Ambiguity) (qs : List SetPart) (k : ℕ) (m : BERMode) (t : Tag) (s d r : List ℕ) (end : ContentsEnd) (old mid new : Option ℕ) → IsOtherTag t →
    OpensAt m t Constructed s d end → OfAll k m d end r (λ vs. Meets old mid (AllByRecursion (IsSure a k) vs)) → Meets mid new (IsCertain a t qs) →
    OfAll k m d end r (λ vs. t ≡ set_tag → IsOrderKnown (tree_parts k vs) → IsCertain a t qs) →
    OfAll k m d end r (λ vs. (t ≡ set_tag → IsOrderKnown (tree_parts k vs) → ⊥) → qs ≡ tree_parts k vs) →
    (v : Tree (suc k)) (b : List ℕ) → HasTree (suc k) m v b → s ≡ b ++ r → Meets old new (IsSure a (suc k) v)
unfolding Tree HasTree IsSure
met_around a qs k m t s d r end old mid new is opens inside here set other v b x e =
    let root : Root (suc k) m b = record { k = k; level = refl; branch = v; has = x } in
    let h = opens_begins m t Constructed s d end opens in
    go v x (root_kind (suc k) m Other t s b r root is h e) (root_tag (suc k) m t s b r root h e)
  where
    go : (w : Branch (Tree k)) → HasBranch (HasTree k m) (tree_parts k) (suc k) m w b → branch_class w ≡ Other → branch_tag w ≡ t →
        Meets old new (IsSureBranch a (tree_parts k) (IsSure a k) w)
    go (primitive u c) y f g = let h = (header_of m t u Constructed Primitive s d y.1.contents b r end opens y.1.element e).bit in absurd (cc)
    go (set_of vs) y f g =
        let h = header_of m t set_tag Constructed Constructed s d y.contents b r end opens y.element e in
        let p = y.inner.elements in
        let q = set vs y.contents h.after p h.joined h.ends (sym g) y.inner.known in
        meets_both old mid new (AllByRecursion (IsSure a k) vs) (IsCertain a t qs) (AllByRecursion (IsSure a k) vs) (λ z c. z) (λ z. (z, q))
        (inside vs y.contents h.after p h.joined h.ends) here
    go (constructed u vs) y f g =
        let h = header_of m t u Constructed Constructed s d y.1.contents b r end opens y.1.element e in
        let p = y.1.inner.elements in
        let q = other vs y.1.contents h.after p h.joined h.ends (λ i. y.1.inner.other (g ∙ i)) in
        meets_both old mid new (AllByRecursion (IsSure a k) vs) (IsCertain a t qs) (IsCertain a u (tree_parts k vs) × AllByRecursion (IsSure a k) vs)
        (λ z c. (subst (λ (y : List SetPart). IsCertain a u y) q (subst (λ y. IsCertain a y qs) (sym g) c), z))
        (λ z. (z.1, subst (λ y. IsCertain a y qs) g (subst (λ (y : List SetPart). IsCertain a u y) (sym q) z.0)))
        (inside vs y.1.contents h.after p h.joined h.ends) here
    go w y f g = absurd (cc)

-- the elements that were taken are those that are there
taken_trees : (k : ℕ) (m : BERMode) (d : List ℕ) (end : ContentsEnd) (ps : List SetPart) (r : List ℕ) → (x : TakesPartsTo k m d end ps r) →
    OfAll k m d end r (λ vs. ps ≡ tree_parts k vs)
taken_trees k m d end ps r x vs prefix rest p e ends =
    let same = trees_end k m x.parts.trees vs x.prefix prefix x.rest rest x.parts.read p (end_after end x.rest r x.ends) (end_after end rest r ends)
    (sym x.joined ∙ e) in
    parts_labels k m x.prefix ps x.parts ∙ ap (tree_parts k) same

-- a SET in the order of a SET OF has no ambiguity
certain_set : (a : Ambiguity) (t : Tag) (qs : List SetPart) → t ≡ set_tag → InOrder Octets qs → IsCertain a t qs
certain_set Segments t qs e o = inl (ap (λ (u : Tag). u.tag_class) e)
certain_set ImplicitSetOf t qs e o = inr o
certain_set Order t qs e o = inr (inl o)

-- the elements of a SET whose order is known were put in the order of a SET OF
order_set : (t : Tag) (ps qs : List SetPart) → ArePutInOrder t ps qs → t ≡ set_tag → IsOrderKnown ps → InOrder Octets qs
order_set t ps qs (sorted s known e) i j = subst (InOrder Octets) (sym e) (by_octets_in_order ps)
order_set t ps qs (as_they_were other e) i j = absurd (other i j)

-- all others stayed as they were
order_other : (t : Tag) (ps qs : List SetPart) → ArePutInOrder t ps qs → (t ≡ set_tag → IsOrderKnown ps → ⊥) → qs ≡ ps
order_other t ps qs (sorted s known e) other = absurd (other s known)
order_other t ps qs (as_they_were _ e) other = e

-- the ambiguities of a constructed element
around_meets : (k : ℕ) (m : BERMode) (t : Tag) (s d r : List ℕ) (end : ContentsEnd) (ps : List SetPart) (p : SetPart) (old mid new : Ambiguities) →
    IsOtherTag t → OpensAt m t Constructed s d end → TakesPartsTo k m d end ps r → MeetsTo k m d end r old mid → EnclosesParts t ps p mid new →
    MeetsAt (suc k) m s r old new
around_meets k m t s d r end ps p old mid new is opens x inside around v b y e a =
    let same = taken_trees k m d end ps r x in
    let qs = around.part.inner in
    let one = met_around a qs k m t s d r end (first_place a old) (first_place a mid) (first_place a new) is opens
    (λ vs f z q g h. inside vs f z q g h a) (around.met a)
    (λ vs f z q g h i known.
    certain_set a t qs i (order_set t ps qs around.part.order i (subst IsOrderKnown (sym (same vs f z q g h)) known)))
    (λ vs f z q g h unknown.
    order_other t ps qs around.part.order (λ i known. unknown i (subst IsOrderKnown (same vs f z q g h) known)) ∙ same vs f z q g h)
    v b y e in
    meets_as (first_place a old) (first_place a new) _ _ (λ z. (z, tt)) (λ z. z.0) one

-- elements were taken, and their ambiguities met
abbrev pub Inside : ℕ → List SetPart → List ℕ → Ambiguities → Ambiguities → BERMode → List ℕ → ContentsEnd → Type 0
Inside k ps r old mid m d end = TakesPartsTo k m d end ps r × MeetsTo k m d end r old mid

-- as `constructed_part` of Parts, with the ambiguities, where the contents are read at their own place
pub constructed_meets : (n k : ℕ) (m m' : BERMode) (t : Tag) (s d d' r : List ℕ) (end end' : ContentsEnd) (ps : List SetPart) (p : SetPart) (old mid new : Ambiguities) → m' ≡ m →
    1 ≤ n → k ≡ n - 1 → d' ≡ d → end' ≡ end → IsOtherConstructed t → OpensAt m t Constructed s d end → TakesPartsTo k m' d' end' ps r →
    MeetsTo k m' d' end' r old mid → EnclosesParts t ps p mid new → MeetsAt n m s r old new
constructed_meets n k m m' t s d d' r end end' ps p old mid new f level less g h is opens x inside around =
    let one = subst (λ z. Inside k ps r old mid z d' end') f (x, inside) in
    let two = subst (λ z. Inside k ps r old mid m z end') g one in
    let three = subst (λ z. Inside k ps r old mid m d z) h two in
    let level : suc k ≡ n = omega (arith, level, less) in
    subst (λ z. MeetsAt z m s r old new) level (around_meets k m t s d r end ps p old mid new is.other opens three.0 three.1 around)

pub kind_meets : (n : ℕ) (m : BERMode) (k : ContentsClass) (t : Tag) (s r : List ℕ) (d : Ambiguities) → IsOfClass k t → (k ≡ Other → ⊥) →
    BeginsWithTag t s → MeetsAt n m s r d d
kind_meets n m k t s r d is other h v b x e a = meets_nothing (first_place a d) _ (sure_of_kind a n m k t s v b r is other h x e, tt)

pub primitive_meets : (n : ℕ) (m : BERMode) (t : Tag) (s c r : List ℕ) (end : ContentsEnd) (d : Ambiguities) → OpensAt m t Primitive s c end → MeetsAt n m s r d d
primitive_meets n m t s c r end d opens v b x e a = meets_nothing (first_place a d) _ (sure_primitive a n m t s c end v b r opens x e, tt)

all_end : {A : Type 0} (P : A → Type 0) (xs : List A) (x : A) → AllByRecursion P xs → AllByRecursion P (x ∷ []) → AllByRecursion P (xs ++ (x ∷ []))
all_end P [] x a b = b
all_end P (y ∷ ys) x a b = (a.0, all_end P ys x a.1 b)

all_parts : {A : Type 0} (P : A → Type 0) (xs : List A) (x : A) → AllByRecursion P (xs ++ (x ∷ [])) → AllByRecursion P xs × AllByRecursion P (x ∷ [])
all_parts P [] x a = (tt, a)
all_parts P (y ∷ ys) x a = let r = all_parts P ys x a.1 in ((a.0, r.0), r.1)

more_met : (n : ℕ) (vs : List (Tree n)) (v : Tree n) (x y z : Ambiguities) → MeetsAmbiguities n vs x y → MeetsAmbiguities n (v ∷ []) y z → MeetsAmbiguities n (vs ++ (v ∷ [])) x z
more_met n vs v x y z f g a =
    meets_both (first_place a x) (first_place a y) (first_place a z) _ _ _ (all_end (IsSure a n) vs v) (all_parts (IsSure a n) vs v) (f a) (g a)

-- the elements from s to r were read, and their ambiguities were met
pub record Walked (n : ℕ) (m : BERMode) (s : List ℕ) (ps : List SetPart) (r : List ℕ) (old new : Ambiguities) : Type 0 where
  pub reached : Reached n m s ps r
  pub met : MeetsAmbiguities n reached.parts.trees old new

pub walked_none : (n : ℕ) (m : BERMode) (s : List ℕ) (ps : List SetPart) (d : Ambiguities) → ps ≡ [] → Walked n m s ps s d d
unfolding no_parts reached_none
walked_none n m s ps d e = subst (λ (z : List SetPart). Walked n m s z s d d) (sym e) (record {
  reached = reached_none n m s;
  met = λ a. meets_nothing (first_place a d) _ tt;
})

walked_more : (n : ℕ) (m : BERMode) (s r q : List ℕ) (ps : List SetPart) (p : SetPart) (a b c : Ambiguities) → Walked n m s ps r a b → TakesPart n m r p q →
    MeetsAt n m r q b c → Walked n m s (ps ++ (p ∷ [])) q a c
unfolding more_parts reached_more
walked_more n m s r q ps p a b c x y z = record {
  reached = reached_more n m s r q ps p x.reached y;
  met = more_met n x.reached.parts.trees y.part.tree a b c x.met (z y.part.tree y.prefix y.part.read y.joined);
}

-- an element was taken, and its ambiguities met
abbrev Next : List ℕ → SetPart → List ℕ → Ambiguities → Ambiguities → ℕ → BERMode → Type 0
Next y p q b c n m = TakesPart n m y p q × MeetsAt n m y q b c

-- the walk went one element further
pub walked_next : (n k : ℕ) (m o : BERMode) (s y q q' : List ℕ) (ps qs : List SetPart) (p : SetPart) (a b c : Ambiguities) → k ≡ n → o ≡ m → Walked n m s ps y a b →
    TakesPart k o y p q → MeetsAt k o y q b c → qs ≡ ps ++ (p ∷ []) → q' ≡ q → Walked n m s qs q' a c
walked_next n k m o s y q q' ps qs p a b c e f x t z g h =
    let one = subst (λ j. Next y p q b c j o) e (t, z) in
    let two = subst (λ i. Next y p q b c n i) f one in
    let three = walked_more n m s y q ps p a b c x two.0 two.1 in
    subst (λ i. Walked n m s qs i a c) (sym h) (subst (λ (i : List SetPart). Walked n m s i q a c) (sym g) three)

-- elements from s to r were read and appended to an output, and their ambiguities were met
pub record Written (n : ℕ) (m : BERMode) (s r out out' : List ℕ) (old new : Ambiguities) : Type 0 where
  pub parts : List SetPart
  pub walked : Walked n m s parts r old new
  pub added : out' ≡ out ++ concat (parts_bytes parts)

pub written_none : (n : ℕ) (m : BERMode) (s out : List ℕ) (d : Ambiguities) → Written n m s s out out d d
written_none n m s out d = record { parts = []; walked = walked_none n m s [] d refl; added = sym (append-nil out) }

-- one more was
pub written_next : (n k : ℕ) (m o : BERMode) (s y q q' out mid out' : List ℕ) (a b c : Ambiguities) → k ≡ n → o ≡ m → Written n m s y out mid a b →
    AppendsPart k o y q mid out' → MeetsAt k o y q b c → q' ≡ q → Written n m s q' out out' a c
written_next n k m o s y q q' out mid out' a b c e f w x met h = record {
  parts = w.parts ++ (x.part ∷ []);
  walked = walked_next n k m o s y q q' w.parts (w.parts ++ (x.part ∷ [])) x.part a b c e f w.walked x.taken met refl h;
  added = x.added ∙ ap (λ z. z ++ x.part.bytes) w.added ∙ append_assoc out (concat (parts_bytes w.parts)) x.part.bytes ∙
      ap (λ z. out ++ z) (sym (joined_more w.parts x.part));
}

-- up to the end of contents
pub written_end : (n : ℕ) (m : BERMode) (s y r out out' : List ℕ) (end : ContentsEnd) (a b : Ambiguities) → Written n m s y out out' a b → EndsBefore end y r →
    AppendsParts n m s end r out out'
written_end n m s y r out out' end a b w ends =
    let reached = w.walked.reached in
    record {
      parts = w.parts;
      taken = record { prefix = reached.prefix; rest = y; joined = reached.joined; ends = ends; parts = reached.parts };
      added = w.added;
    }

-- at the end of contents the ambiguities of all that is before it were met
pub walked_end : (n : ℕ) (m : BERMode) (s y r : List ℕ) (end : ContentsEnd) (ps : List SetPart) (a b : Ambiguities) → Walked n m s ps y a b → EndsBefore end y r →
    MeetsTo n m s end r a b
walked_end n m s y r end ps a b x ends vs prefix rest p e stops =
    let w = x.reached in
    let same = trees_end n m w.parts.trees vs w.prefix prefix y rest w.parts.read p (end_after end y r ends) (end_after end rest r stops) (sym w.joined ∙ e) in
    subst (λ us. MeetsAmbiguities n us a b) same x.met

-- where nothing was ambiguous before, the ambiguities are those of the input
pub are_the_ambiguities : (s r : List ℕ) (ps : List SetPart) (x y : Ambiguities) → TakesPartsTo 101 Ber s (definite_end []) ps r →
    MeetsTo 101 Ber s (definite_end []) r x y → ((a : Ambiguity) → first_place a x ≡ None) → AreTheAmbiguities s y
are_the_ambiguities s r ps x y taken met none a vs p =
    let z = met vs s [] p (sym (append-nil s)) (refl, taken.ends.1) a in
    (λ g. (z.0 g).1, λ h. z.1 (none a, h))
