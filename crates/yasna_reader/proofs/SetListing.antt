-- The elements of a SET, which are listed one after the other up to an end.
use Rattle.std.proofs.Common.{◌≡◌, inl, inr, ℕ, ◌<◌, ◌≤◌, ◌+◌, ◌-◌, List, [], ◌∷◌, ◌++◌, length, refl, sym, ap, subst, ◌∙◌, append_assoc, length-append, true, false, Bool, arith}
use Rattle.std.proofs.lemmas.Bool.{cases_lt}
use Rattle.std.proofs.lemmas.List.{get_or_default}
use Rattle.std.specs.List.{concat}
use Rattle.std.specs.List.Sorted.{IsSortedByKey, IsSortedWithin}
use Rattle.std.specs.Ordering.{is_lt}
use Rattle.std.specs.Prelude.{slice_index_or}
use Rattle.yasna_base.specs.declared.error.ASN1ErrorKind.TheVariants.{OutOfMemory}
use Rattle.yasna_base.specs.declared.mode.BERMode.{BERMode}
use Rattle.yasna_base.specs.Identifier.{AtEnd}
use Rattle.yasna_base.specs.Order.{tag_cmp}
use Rattle.yasna_base.specs.Pieces.{Each}
use Rattle.yasna_base.specs.Raw.{RawValue, IsRaw, IsDeepRaw}
use Rattle.yasna_base.proofs.Identifier.{begins_some}
use Rattle.yasna_base.proofs.Pieces.{NoPrefix, no_prefix_at_end, pieces_once, no_pieces, one_piece, pieces_append}
use Rattle.yasna_base.proofs.Raw.{raw_starts, raw_exact, deep_not_raw}
use Rattle.yasna_bytes.specs.declared.bytes.header.Rejection.{Rejection}
use Rattle.yasna_bytes.specs.declared.bytes.walk.RawElement.{RawElement}
use Rattle.yasna_reader.specs.declared.set.SetElement.{SetElement}
use Rattle.yasna_reader.specs.SetList.{IsListed, Listed, ListsAll, NotListed}
use Rattle.yasna_bytes.specs.Prefix.{HasPrefix}
use Rattle.yasna_bytes.specs.Walk.{RejectsRaw, TakesRaw, element_of}

-- before the first element
pub none_listed : (n : ℕ) (m : BERMode) (c : List ℕ) → Listed n m [] c c
none_listed n m c = record { prefix = []; elements = no_pieces; joined = refl }

-- one element more
pub listed_more : (n k : ℕ) (m o : BERMode) (l : List SetElement) (c y z : List ℕ) (x : SetElement) (e : RawElement) (r : List ℕ) → Listed n m l c y →
    o ≡ m → k ≡ n → TakesRaw o k y e r → x.tag ≡ e.tag → x.bytes.now ≡ e.bytes.now → z ≡ r → Listed n m (l ++ (x ∷ [])) c z
listed_more n k m o l c y z x e r h i j t a b f =
    let raw : IsRaw m n (element_of e) e.bytes.now =
    subst (λ u. IsRaw m u (element_of e) e.bytes.now) j (subst (λ u. IsRaw u k (element_of e) e.bytes.now) i t.raw) in
    record {
      prefix = h.prefix ++ e.bytes.now;
      elements = pieces_append l (x ∷ []) h.prefix e.bytes.now h.elements
          (one_piece x e.bytes.now (record { value = element_of e; raw = raw; tag = a; bytes = b }));
      joined = h.joined ∙ ap (λ w. h.prefix ++ w) (t.joined ∙ ap (λ w. e.bytes.now ++ w) (sym f)) ∙ sym (append_assoc h.prefix e.bytes.now z);
    }

-- an element takes some bytes
pub listed_smaller : (k : ℕ) (o : BERMode) (y z : List ℕ) (e : RawElement) (r : List ℕ) → TakesRaw o k y e r → z ≡ r → length z < length y
listed_smaller k o y z e r t f =
    let s = raw_starts k o (element_of e) e.bytes.now t.raw in
    omega (arith, begins_some s.tag e.bytes.now s.begins, ap length t.joined, length-append e.bytes.now r, ap length f)

pub listed_prefix_free : (n : ℕ) (m : BERMode) (x w : SetElement) (b c r s : List ℕ) → IsListed n m x b → IsListed n m w c → b ++ r ≡ c ++ s → b ≡ c
listed_prefix_free n m x w b c r s h k e = (raw_exact n n m h.value k.value b c r s h.raw k.raw e).1

raw_prefix_free : (n : ℕ) (m : BERMode) (x : SetElement) (v : RawValue) (b c r s : List ℕ) → IsListed n m x b → IsRaw m n v c → b ++ r ≡ c ++ s → b ≡ c
raw_prefix_free n m x v b c r s h k e = (raw_exact n n m h.value v b c r s h.raw k e).1

each_raw : (n : ℕ) (m : BERMode) (l : List SetElement) (bs : List (List ℕ)) → Each (IsListed n m) l bs → (vs : List RawValue) × Each (IsRaw m n) vs bs
each_raw n m [] [] h = ([], tt)
each_raw n m [] (b ∷ bs) h = absurd h
each_raw n m (x ∷ l) [] h = absurd h
each_raw n m (x ∷ l) (b ∷ bs) h = let w = each_raw n m l bs h.1 in (h.0.value ∷ w.0, (h.0.raw, w.1))

-- where no element is there that may be listed, no list has all
pub not_listed : (n k : ℕ) (m o : BERMode) (l : List SetElement) (c y : List ℕ) (e : Rejection) → Listed n m l c y → o ≡ m → k ≡ n → RejectsRaw o k y e →
    e.consumed ≡ true → NotListed n m c e.kind
not_listed n k m o l c y e h i j t consumed =
    let u : RejectsRaw m n y e = subst (λ w. RejectsRaw m w y e) j (subst (λ w. RejectsRaw w k y e) i t) in
    let stop : NoPrefix (IsRaw m n) y = λ v b r p q. u.none (v, r, record { prefix = b; joined = q; member = p }) in
    record {
      none = λ _ ws z a.
          let x = a.listed in
          let at : NoPrefix (IsListed n m) z = no_prefix_at_end (λ v b p. raw_starts n m p.value b p.raw) z a.ends in
          let here : NoPrefix (IsListed n m) y = λ v b r p q. stop p.value b r p.raw q in
          let same = pieces_once (listed_prefix_free n m) ws l x.prefix h.prefix z y x.elements h.elements at here (sym x.joined ∙ h.joined) in
          let f = u.consumed.1 (subst AtEnd same.1 a.ends) in absurd (cc);
      too_deep = λ d.
          let w = each_raw n m l h.elements.pieces h.elements.each in
          record {
            values = w.0;
            prefix = h.prefix;
            rest = y;
            pieces = record { pieces = h.elements.pieces; each = w.1; joined = h.elements.joined };
            more = tt;
            joined = h.joined;
            deep = u.deep.0 d;
          };
      deep = λ _ d.
          let here : NoPrefix (IsListed n m) y = λ v b r p q. stop p.value b r p.raw q in
          let at = deep_not_raw n m d.rest d.deep in
          let same = pieces_once (raw_prefix_free n m) l d.values h.prefix d.prefix y d.rest h.elements d.pieces stop
          (λ v b r p q. at p.value b r p.raw q) (sym h.joined ∙ d.joined) in
          u.deep.1 (subst (λ w. IsDeepRaw m n w) (sym same.1) d.deep);
      memory = λ q. absurd (u.no_memory q);
    }

-- the first of these elements, or the one after them, is at the start
first_is_there : (n : ℕ) (m : BERMode) (l : List SetElement) (bs : List (List ℕ)) (y c : List ℕ) (v : RawValue) (b r : List ℕ) → Each (IsListed n m) l bs →
    c ≡ concat bs ++ y → IsRaw m n v b → y ≡ b ++ r → HasPrefix (IsRaw m n) c
first_is_there n m [] [] y c v b r h e p q = (v, r, record { prefix = b; joined = e ∙ q; member = p })
first_is_there n m [] (d ∷ ds) y c v b r h e p q = absurd h
first_is_there n m (x ∷ l) [] y c v b r h e p q = absurd h
first_is_there n m (x ∷ l) (d ∷ ds) y c v b r h e p q =
    (h.0.value, concat ds ++ y, record { prefix = d; joined = e ∙ append_assoc d (concat ds) y; member = h.0.raw })

-- there was no memory for the list, where an element is after those that were listed
pub out_of_memory_for_list : (n k : ℕ) (m o : BERMode) (l : List SetElement) (c y : List ℕ) (e : RawElement) (r : List ℕ) → Listed n m l c y → o ≡ m → k ≡ n →
    TakesRaw o k y e r → NotListed n m c OutOfMemory
out_of_memory_for_list n k m o l c y e r h i j t =
    let raw : IsRaw m n (element_of e) e.bytes.now =
    subst (λ u. IsRaw m u (element_of e) e.bytes.now) j (subst (λ u. IsRaw u k (element_of e) e.bytes.now) i t.raw) in
    record {
      none = λ q. absurd (q refl);
      too_deep = λ g. absurd (cc);
      deep = λ q. absurd (q refl);
      memory = λ _. first_is_there n m l h.elements.pieces y c (element_of e) e.bytes.now r h.elements.each (h.joined ∙ ap (λ z. z ++ y) h.elements.joined)
          raw t.joined;
    }

-- all are listed where an end is there
pub listed_all : (n k : ℕ) (m o : BERMode) (l : List SetElement) (c y : List ℕ) (e : Rejection) → Listed n m l c y → RejectsRaw o k y e → e.consumed ≡ false →
    ListsAll n m l c y
listed_all n k m o l c y e h t consumed = record { listed = h; ends = t.consumed.0 consumed }

-- whether the tag of an element goes before that of another
abbrev tag_before : SetElement → SetElement → Bool
tag_before x y = is_lt (tag_cmp x.tag y.tag)

read_at : (l : List SetElement) (i : ℕ) (d x : SetElement) → i < length l → x ≡ slice_index_or l i x → slice_index_or l i d ≡ x
read_at l i d x h e = get_or_default l i d x h ∙ sym e

-- one pair more in order
ascend_more : (l : List SetElement) (i : ℕ) (x y : SetElement) → 1 ≤ i → i < length l →
    IsSortedWithin (λ (x y : SetElement). is_lt (tag_cmp x.tag y.tag)) l 0 i → x ≡ slice_index_or l i x → y ≡ slice_index_or l (i - 1) y →
    is_lt (tag_cmp x.tag y.tag) ≡ false → IsSortedWithin (λ (x y : SetElement). is_lt (tag_cmp x.tag y.tag)) l 0 (i + 1)
ascend_more l i x y low inside h e f g k d a b = elim (cases_lt (k + 1) i) [
  | inl c ↦ h k d a c
  | inr c ↦
      let p : k + 1 ≡ i = omega (arith, b, c) in
      let q : k ≡ i - 1 = omega (arith, p) in
      let before : i - 1 < length l = omega (arith, inside) in
      subst (λ z. tag_before (slice_index_or l (k + 1) d) (slice_index_or l z d) ≡ false) (sym q)
      (subst (λ z. tag_before (slice_index_or l z d) (slice_index_or l (i - 1) d) ≡ false) (sym p)
      (subst (λ z. tag_before z (slice_index_or l (i - 1) d) ≡ false) (sym (read_at l i d x inside e))
      (subst (λ z. tag_before x z ≡ false) (sym (read_at l (i - 1) d y before f)) g)))
]

-- a pair that isn't
ascend_not : (l : List SetElement) (i : ℕ) (x y : SetElement) → 1 ≤ i → i < length l → x ≡ slice_index_or l i x → y ≡ slice_index_or l (i - 1) y →
    is_lt (tag_cmp x.tag y.tag) ≡ true → IsSortedByKey (λ (x : SetElement). x.tag) tag_cmp l → ⊥
ascend_not l i x y low inside e f g h =
    let p : (i - 1) + 1 ≡ i = omega (arith, low) in
    let before : i - 1 < length l = omega (arith, inside) in
    let bound : (i - 1) + 1 < length l = omega (arith, inside, low) in
    let w : tag_before (slice_index_or l ((i - 1) + 1) x) (slice_index_or l (i - 1) x) ≡ false = h (i - 1) x (omega arith) bound in
    let u = subst (λ z. tag_before (slice_index_or l z x) (slice_index_or l (i - 1) x) ≡ false) p w in
    let v = subst (λ z. tag_before z (slice_index_or l (i - 1) x) ≡ false) (sym e) u in
    let t : is_lt (tag_cmp x.tag y.tag) ≡ false = subst (λ z. tag_before x z ≡ false) (read_at l (i - 1) x y before f) v in
    absurd (cc)

-- there is no further pair
pub ascend_end : (l : List SetElement) (i : ℕ) → length l ≤ i → IsSortedWithin (λ (x y : SetElement). is_lt (tag_cmp x.tag y.tag)) l 0 i →
    IsSortedByKey (λ (x : SetElement). x.tag) tag_cmp l
ascend_end l i e h k d a b = h k d a (omega (arith, b, e))

-- as `ascend_more`, of elements that were read from the list
pub ascend_more_at : (l : List SetElement) (i : ℕ) (d e : SetElement) → 1 ≤ i → i < length l →
    IsSortedWithin (λ (x y : SetElement). is_lt (tag_cmp x.tag y.tag)) l 0 i →
    is_lt (tag_cmp (slice_index_or l i d).tag (slice_index_or l (i - 1) e).tag) ≡ false →
    IsSortedWithin (λ (x y : SetElement). is_lt (tag_cmp x.tag y.tag)) l 0 (i + 1)
ascend_more_at l i d e low inside h g =
    ascend_more l i (slice_index_or l i d) (slice_index_or l (i - 1) e) low inside h (get_or_default l i d (slice_index_or l i d) inside)
    (get_or_default l (i - 1) e (slice_index_or l (i - 1) e) (omega (arith, inside))) g

pub ascend_not_at : (l : List SetElement) (i : ℕ) (d e : SetElement) → 1 ≤ i → i < length l →
    is_lt (tag_cmp (slice_index_or l i d).tag (slice_index_or l (i - 1) e).tag) ≡ true → IsSortedByKey (λ (x : SetElement). x.tag) tag_cmp l → ⊥
ascend_not_at l i d e low inside g =
    ascend_not l i (slice_index_or l i d) (slice_index_or l (i - 1) e) low inside (get_or_default l i d (slice_index_or l i d) inside)
    (get_or_default l (i - 1) e (slice_index_or l (i - 1) e) (omega (arith, inside))) g
