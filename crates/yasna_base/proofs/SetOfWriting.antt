-- The laws of writing of SET OF.
use Rattle.std.proofs.Common.{◌≡◌, ℕ, zero, suc, ◌+◌, ◌^◌, ◌<◌, ◌≤◌, Bool, true, false, List, [], ◌∷◌, length, map, refl, ap, ◌∙◌, sym, arith, subst}
use Rattle.std.specs.List.{AllByRecursion, concat}
use Rattle.std.specs.List.Sorted.{IsSorted, IsPermutation}
use Rattle.std.specs.Ordering.{is_lt}
use Rattle.std.specs.Prelude.{if◌then◌else◌}
use Rattle.std.specs.declared.cmp.Ordering.{Ordering}
use Rattle.std.proofs.lemmas.Cmp.{nat_list_cmp_total}
use Rattle.std.proofs.lemmas.List.Sorted.{ranks_by, IsPermutation-cons, IsPermutation-refl}
use Rattle.std.proofs.lemmas.List.Sorted.{IsPermutation-swap, IsPermutation-sym, IsPermutation-trans}
use Rattle.yasna_base.specs.declared.mode.BERMode.{BERMode}
use Rattle.yasna_base.specs.declared.mode.BERMode.TheVariants.{Ber, Der, Cer}
use Rattle.yasna_base.specs.declared.tag.PCBit.TheVariants.{Constructed}
use Rattle.yasna_base.specs.declared.tag.Tag.{Tag}
use Rattle.yasna_base.specs.Canonical.{IsCanonicalMode, HoldsEncoding, canonical_element, HasEncoding, IsWritten}
use Rattle.yasna_base.specs.Coding.{IsCoding}
use Rattle.yasna_base.specs.Grammar.{Grammar, Members, TaggedGrammar, Encoding, Depth}
use Rattle.yasna_base.specs.Identifier.{StartsElement}
use Rattle.yasna_base.specs.Laws.{KeepsLaws}
use Rattle.yasna_base.specs.Order.{octets_cmp, put_in, in_order}
use Rattle.yasna_base.specs.Pieces.{Each}
use Rattle.yasna_base.specs.SequenceOf.{IsListOf, elements_encoding, elements_depth}
use Rattle.yasna_base.specs.Set.{AreInSetOfOrder, SetOfElements, IsSetOf, SetOfContents}
use Rattle.yasna_base.specs.SetWriting.{MakeElement, encodings, in_encoding_order, CanSetOf, set_of_encoding, set_of_depth, SetOfHasEncodings, SetOfIsWritten, SetOfKeepsReadingLaws, SetOfKeepsWritingLaws, SetOfKeepsLaws}
use Rattle.yasna_base.proofs.Canonical.{enclosed_has, enclosed_written, holds_own, short_contents}
use Rattle.yasna_base.proofs.Identifier.{begins_some}
use Rattle.yasna_base.proofs.Order.{sorted_order, in_order_rising, rises_sorted, all_order, all_order_back, all_permuted, in_order_map}
use Rattle.yasna_base.proofs.SequenceOf.{encodings_joined, each_encoding, each_only, elements_have, elements_written}
use Rattle.yasna_base.proofs.SetLaws.{set_of, set_of_order_one}

-- what begins with an identifier isn't empty
starts_non_empty : (b : List ℕ) → StartsElement b → b ≡ [] → ⊥
starts_non_empty b x e = omega (arith, begins_some x.tag b x.begins, ap length e)

-- what represents values begins with identifiers, so none of it is empty
each_non_empty : {A : Type 0} {R : A → List ℕ → Type 0} → ((v : A) (b : List ℕ) → R v b → StartsElement b) → (vs : List A) (bs : List (List ℕ)) → Each R vs bs →
    AllByRecursion (λ b. b ≡ [] → ⊥) bs
each_non_empty f [] [] p = tt
each_non_empty f [] (b ∷ bs) p = absurd p
each_non_empty f (v ∷ vs) [] p = absurd p
each_non_empty f (v ∷ vs) (b ∷ bs) p = (starts_non_empty b (f v b p.0), each_non_empty f vs bs p.1)

-- the order that a mode asks of encodings is asked wherever they hold
pub order_holds : (m o : BERMode) (bs : List (List ℕ)) → HoldsEncoding m o → AreInSetOfOrder m bs → AreInSetOfOrder o bs
order_holds Ber o bs h x = absurd h
order_holds Der Ber bs h x = tt
order_holds Der Der bs h x = x
order_holds Der Cer bs h x = absurd h
order_holds Cer Ber bs h x = tt
order_holds Cer Der bs h x = absurd h
order_holds Cer Cer bs h x = x

-- encodings that ascend are in the order that any mode requires
any_order : (m : BERMode) (bs : List (List ℕ)) → IsSorted octets_cmp bs → AreInSetOfOrder m bs
any_order Ber bs x = tt
any_order Der bs x = x
any_order Cer bs x = x

-- encodings in the order that a canonical mode requires ascend
canonical_order : (m : BERMode) (bs : List (List ℕ)) → IsCanonicalMode m → AreInSetOfOrder m bs → IsSorted octets_cmp bs
canonical_order Ber bs h x = absurd h
canonical_order Der bs h x = x
canonical_order Cer bs h x = x

-- encodings in order are in the order that any mode asks
pub octets_in_order : (m : BERMode) (bs : List (List ℕ)) → AreInSetOfOrder m (in_order octets_cmp bs)
octets_in_order m bs = any_order m (in_order octets_cmp bs) (sorted_order octets_cmp (ranks_by nat_list_cmp_total (λ (b : List ℕ). b)) bs)

-- encodings that a canonical mode takes so are in order
pub octets_ordered : (m : BERMode) (bs : List (List ℕ)) → IsCanonicalMode m → AreInSetOfOrder m bs → in_order octets_cmp bs ≡ bs
octets_ordered m bs h x =
    let o = ranks_by nat_list_cmp_total (λ (b : List ℕ). b) in
    in_order_rising octets_cmp o bs (rises_sorted octets_cmp o bs (canonical_order m bs h x))

-- parts that are otherwise than some that aren't empty make the contents of a SET OF, and no others
parts_make : (m : BERMode) (t : Tag) (bs parts : List (List ℕ)) (b : List ℕ) → AllByRecursion (λ p. p ≡ [] → ⊥) bs → IsPermutation bs parts →
    b ≡ canonical_element m t Constructed (concat (in_order octets_cmp bs)) → MakeElement SetOfContents m t parts b
parts_make m t bs parts b non_empty p e =
    let same = ap concat (set_of_order_one bs parts p) in
    record {
      contents = concat (in_order octets_cmp bs);
      made = record { non_empty = all_permuted (λ p. p ≡ [] → ⊥) bs parts p non_empty; joined = same };
      unique = λ c x. x.joined ∙ sym same;
      around = e;
    }

module _ {X : Type 0} (R : X → X → Ordering) where
  put_in_permuted : (x : X) (ys : List X) → IsPermutation (x ∷ ys) (put_in R x ys)
  put_in_permuted x [] = IsPermutation-refl (x ∷ [])
  put_in_permuted x (y ∷ ys) = step (is_lt (R y x)) (put_in_permuted x ys)
    where
      step : (b : Bool) → IsPermutation (x ∷ ys) (put_in R x ys) → IsPermutation (x ∷ (y ∷ ys)) (if b then (y ∷ put_in R x ys) else (x ∷ (y ∷ ys)))
      step true p =
          IsPermutation-trans (x ∷ (y ∷ ys)) (y ∷ (x ∷ ys)) (y ∷ put_in R x ys)
          (IsPermutation-swap (x ∷ (y ∷ ys)) (y ∷ (x ∷ ys)) 0 1 (omega arith) (omega arith) refl) (IsPermutation-cons y (x ∷ ys) (put_in R x ys) p)
      step false p = IsPermutation-refl (x ∷ (y ∷ ys))

  -- a list put in order has the items of the list
  pub in_order_permuted : (xs : List X) → IsPermutation xs (in_order R xs)
  in_order_permuted [] = IsPermutation-refl []
  in_order_permuted (x ∷ xs) =
      IsPermutation-trans (x ∷ xs) (x ∷ in_order R xs) (put_in R x (in_order R xs)) (IsPermutation-cons x xs (in_order R xs) (in_order_permuted xs))
      (put_in_permuted x (in_order R xs))

module _ {A : Type 0} (depth : Depth A) (m : BERMode) where
  all_depth : (vs : List A) (n : ℕ) → elements_depth depth m vs ≤ n → AllByRecursion (λ v. depth m v ≤ n) vs
  all_depth [] n h = tt
  all_depth (v ∷ vs) n h = (omega (arith, h), all_depth vs n (omega (arith, h)))

  depth_below : (vs : List A) (n : ℕ) → AllByRecursion (λ v. depth m v ≤ n) vs → elements_depth depth m vs ≤ n
  depth_below [] n a = omega arith
  depth_below (v ∷ vs) n a = omega (arith, a.0, depth_below vs n a.1)

  depth_no_more : (vs ws : List A) → IsPermutation vs ws → elements_depth depth m ws ≤ elements_depth depth m vs
  depth_no_more vs ws p =
      let n = elements_depth depth m vs in
      depth_below ws n (all_permuted (λ v. depth m v ≤ n) vs ws p (all_depth vs n (omega arith)))

  -- values nest as deep in any order
  pub depth_permuted : (vs ws : List A) → IsPermutation vs ws → elements_depth depth m ws ≡ elements_depth depth m vs
  depth_permuted vs ws p = omega (arith, depth_no_more vs ws p, depth_no_more ws vs (IsPermutation-sym vs ws p))

module _ {A : Type 0} {B : Grammar A} {encoding : Encoding A} {depth : Depth A} {Can : BERMode → A → Type 0} (x : HasEncoding B encoding depth Can) where
  -- values in the order of their encodings have one encoding as the elements of a SET OF
  pub set_of_elements_have : HasEncoding (SetOfElements B) (elements_encoding encoding) (elements_depth depth) (λ m. CanSetOf encoding (Can m) m)
  set_of_elements_have = record {
    in_bytes = λ m vs can short. (elements_have x).in_bytes m vs can.each short;
    holds = λ m o n vs h can level short. record {
      elements = record { pieces = map (encoding m) vs; each = each_encoding x m o n vs h can.each level short; joined = encodings_joined (encoding m) vs };
      order = order_holds m o (map (encoding m) vs) h can.order;
    };
    only = λ m n vs c h p.
        let y = each_only x m n vs p.elements.pieces h p.elements.each in (
          p.elements.joined ∙ ap concat y.0 ∙ sym (encodings_joined (encoding m) vs),
          record { each = y.1; order = subst (λ bs. AreInSetOfOrder m bs) y.0 p.order },
          y.2,
        );
  }

module _ {A : Type 0} (encoding : Encoding A) (m : BERMode) where
  -- the encodings of values in order are the encodings in order
  pub encodings_in_order : (vs : List A) → encodings encoding m (in_encoding_order encoding m vs) ≡ in_order octets_cmp (encodings encoding m vs)
  encodings_in_order vs = in_order_map (encoding m) octets_cmp vs

  -- values can be put in the order of their encodings
  pub encoding_ordered : {Can : A → Type 0} (vs : List A) → AllByRecursion Can vs → CanSetOf encoding Can m (in_encoding_order encoding m vs)
  encoding_ordered {Can} vs can = record {
    each = all_order (λ v w. octets_cmp (encoding m v) (encoding m w)) (ranks_by nat_list_cmp_total (encoding m)) Can vs can;
    order = subst (λ bs. AreInSetOfOrder m bs) (sym (encodings_in_order vs)) (octets_in_order m (encodings encoding m vs));
  }

  -- the element around encodings
  pub around_encodings : (t : Tag) (vs : List A) (bs : List (List ℕ)) → encodings encoding m vs ≡ bs →
      set_of_encoding encoding t m vs ≡ canonical_element m t Constructed (concat bs)
  around_encodings t vs bs e = ap (λ c. canonical_element m t Constructed c) (encodings_joined (encoding m) vs ∙ ap concat e)

-- a SET OF is a list in order
pub as_list : {A : Type 0} (B : Grammar A) (t : Tag) (m : BERMode) (n : ℕ) (vs : List A) (b : List ℕ) → IsSetOf B t m n vs b → IsListOf B t m n vs b
as_list B t m zero vs b p = p
as_list B t m (suc n) vs b p = record { contents = p.contents; element = p.element; meaning = p.meaning.elements }

module _ {A : Type 0} {E : A → A → Type 0} {B : Grammar A} {S : Members} {encoding : Encoding A}
    {depth : Depth A} {Can : A → Type 0} (r : IsCoding E B S) (x : HasEncoding B encoding depth (λ m. Can)) (t : Tag) (range : t.tag_number < 2 ^ 64) where
  element_starts : (m : BERMode) (n : ℕ) (v : A) (b : List ℕ) → B m n v b → StartsElement b
  element_starts m n v b p = r.opens m n b (r.meaning.among m n v b p)

  -- no encoding is empty
  encodings_non_empty : (m : BERMode) (vs : List A) → IsCanonicalMode m → AllByRecursion Can vs → length (elements_encoding encoding m vs) < 2 ^ 64 →
      AllByRecursion (λ b. b ≡ [] → ⊥) (encodings encoding m vs)
  encodings_non_empty m vs h can short =
      each_non_empty (element_starts m (elements_depth depth m vs)) vs (encodings encoding m vs)
      (each_encoding x m m (elements_depth depth m vs) vs (holds_own m h) can (omega arith) short)

  -- nor is any that was read
  read_non_empty : (m : BERMode) (n : ℕ) (vs : List A) (b : List ℕ) → IsCanonicalMode m → IsSetOf B t m n vs b → AllByRecursion (λ b. b ≡ [] → ⊥) (encodings encoding m vs)
  read_non_empty m zero vs b h p = absurd p
  read_non_empty m (suc n) vs b h p =
      let bs = p.meaning.elements.pieces in
      subst (λ cs. AllByRecursion (λ b. b ≡ [] → ⊥) cs) (each_only x m n vs bs h p.meaning.elements.each).0
      (each_non_empty (element_starts m n) vs bs p.meaning.elements.each)

  set_of_has : HasEncoding (IsSetOf B t) (set_of_encoding encoding t) (set_of_depth depth) (CanSetOf encoding Can)
  set_of_has = enclosed_has (set_of_elements_have x) t range

  set_of_made : (m : BERMode) (vs : List A) (parts : List (List ℕ)) → IsCanonicalMode m → AllByRecursion Can vs →
      length (set_of_encoding encoding t m (in_encoding_order encoding m vs)) < 2 ^ 64 → IsPermutation (encodings encoding m vs) parts →
      MakeElement SetOfContents m t parts (set_of_encoding encoding t m (in_encoding_order encoding m vs))
  set_of_made m vs parts h can short p =
      let ws = in_encoding_order encoding m vs in
      let ordered = encodings_in_order encoding m vs in
      let inner = short_contents m t Constructed (elements_encoding encoding m ws) short in
      let non_empty = encodings_non_empty m ws h (encoding_ordered encoding m vs can).each inner in
      let all = subst (λ bs. AllByRecursion (λ b. b ≡ [] → ⊥) bs) ordered non_empty in
      let o = ranks_by nat_list_cmp_total (λ (b : List ℕ). b) in
      parts_make m t (encodings encoding m vs) parts (set_of_encoding encoding t m ws) (all_order_back octets_cmp o (λ b. b ≡ [] → ⊥) (encodings encoding m vs) all) p
      (around_encodings encoding m t ws (in_order octets_cmp (encodings encoding m vs)) ordered)

  set_of_again : (m : BERMode) (n : ℕ) (vs : List A) (b : List ℕ) (parts : List (List ℕ)) → IsCanonicalMode m → IsSetOf B t m n vs b →
      IsPermutation (encodings encoding m vs) parts → MakeElement SetOfContents m t parts b
  set_of_again m n vs b parts h y p =
      let one = set_of_has.only m n vs b h y in
      parts_make m t (encodings encoding m vs) parts b (read_non_empty m n vs b h y) p
      (one.0 ∙ around_encodings encoding m t vs (in_order octets_cmp (encodings encoding m vs)) (sym (octets_ordered m (encodings encoding m vs) h one.1.order)))

  -- a SET OF satisfies the laws of the encodings
  pub set_of_encodings : SetOfHasEncodings B encoding depth Can t
  set_of_encodings = record {
    has = set_of_has;
    ordered = λ m vs can. (
      encoding_ordered encoding m vs can,
      ap (λ n. 1 + n) (depth_permuted depth m vs (in_encoding_order encoding m vs) (in_order_permuted (λ v w. octets_cmp (encoding m v) (encoding m w)) vs)),
    );
    made = set_of_made;
    again = set_of_again;
  }

-- a SET OF satisfies the laws of writing
pub set_of_written : {A : Type 0} {E : A → A → Type 0} {B : Grammar A} {S : Members} {encoding : Encoding A} {depth : Depth A} {Can : A → Type 0} →
    IsCoding E B S → IsWritten E B encoding depth Can → (t : Tag) → t.tag_number < 2 ^ 64 → SetOfIsWritten E B encoding depth Can t
set_of_written {B = B} r x t range =
    let all = enclosed_written t range (elements_written x) in
    record {
      encodings = set_of_encodings r x.has t range;
      any = λ n vs b p. all.any n vs b (as_list B t Ber n vs b p);
      same = all.same;
    }

-- under any tag a SET OF satisfies the laws of reading, where its elements do
pub set_of_reading : {A : Type 0} {E : A → A → Type 0} {B : Grammar A} {S : Members} → IsCoding E B S → SetOfKeepsReadingLaws E B S
set_of_reading x = λ t not_end range. set_of t not_end x

-- under any tag a SET OF satisfies the laws of writing, where its elements do
pub set_of_writing : {A : Type 0} {E : A → A → Type 0} {B : Grammar A} {S : Members} {encoding : Encoding A}
    {depth : Depth A} {Can : A → Type 0} → IsCoding E B S → IsWritten E B encoding depth Can → SetOfKeepsWritingLaws E B encoding depth Can
set_of_writing r x = λ t not_end range. set_of_written r x t range

-- a SET OF satisfies the laws of reading and writing, where its elements satisfy them under any tag
pub set_of_keeps : {A : Type 0} (B : TaggedGrammar A) (encoding : Tag → Encoding A) (depth : Depth A) (Can : A → Type 0) →
    KeepsLaws B encoding depth Can → SetOfKeepsLaws B encoding depth Can
set_of_keeps B encoding depth Can x = λ u not_end range. let y = x u not_end range in (set_of_reading y.0, set_of_writing y.0 y.1)
