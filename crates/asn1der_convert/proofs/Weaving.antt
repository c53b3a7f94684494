-- Elements that are sorted in their own memory.
use Rattle.std.proofs.Common.{◌≡◌, ℕ, zero, suc, ◌+◌, ◌-◌, ◌≤◌, true, false, List, [], ◌∷◌, ◌++◌, length, take, drop, Some, None, refl, sym, ap, ap₂, ◌∙◌, subst, append-nil, append_assoc, length-append, arith}
use Rattle.std.specs.List.{concat}
use Rattle.std.specs.Ordering.{is_lt}
use Rattle.std.proofs.lemmas.List.{drop-drop, take_at, drop_at, take-append-drop, length-take, length-drop}
use Rattle.std.proofs.lemmas.List.Edits.{take-paste, drop-paste, length-paste}
use Rattle.std.proofs.lemmas.Slice.{take-put_mid, drop-put_mid}
use Rattle.std.specs.List.{copy_within}
use borrow.Rule.Slice.PartMut.{put_mid}
use lib.Seq.{paste}
use Rattle.yasna_base.proofs.Lists.{empty_is}
use Rattle.yasna_base.specs.Set.{SetPart, parts_bytes}
use Rattle.yasna_bytes.specs.declared.bytes.walk.RawElement.{RawElement}
use Rattle.asn1der_convert.specs.Rows.{IsElementPart, AreElements, part_of, TakesFirst, NoFirst, IsSizeBefore, BeforeAt, Weaves, SortsFirst}
use Rattle.asn1der_convert.specs.SetOrder.{sort_order, sorted_by}
use Rattle.asn1der_convert.specs.declared.sorting.SortKey.{SortKey}
use Rattle.asn1der_convert.proofs.Rows.{first_part, no_part, elements_append, one_element}
use Rattle.asn1der_convert.proofs.Merging.{merge, merge_nothing, merge_first, merge_second, order_merge}
use Rattle.asn1der_convert.proofs.SetOrder.{sort_rank}

-- the first bytes of those from a place on, and what is after them
beyond : (n k : ℕ) (e b z : List ℕ) → drop n e ≡ b ++ z → length b ≡ k → (take k (drop n e) ≡ b) × (drop (n + k) e ≡ z)
beyond n k e b z j h = (ap (take k) j ∙ take_at b z k h, sym (drop-drop k n e) ∙ ap (drop k) j ∙ drop_at b z k h)

module _ (key : SortKey) where
  -- In e the elements that were woven are before a place, and those of the second row from the place from on; l are those of the
  -- first row that are left
  pub record Woven (us vs : List SetPart) (e l : List ℕ) (place from : ℕ) : Type 0 where
    pub done : List SetPart
    pub first : List SetPart
    pub second : List SetPart
    pub written : AreElements done (take place e)
    pub left : AreElements first l
    pub right : AreElements second (drop from e)
    pub joined : sorted_by key (us ++ vs) ≡ done ++ merge (sort_order key) first second

  pub woven_none : (us vs : List SetPart) (e b : List ℕ) → AreElements (sorted_by key us) b → AreElements (sorted_by key vs) (drop (length b) e) → Woven us vs e b 0 (length b)
  woven_none us vs e b x y = record {
    done = [];
    first = sorted_by key us;
    second = sorted_by key vs;
    written = record { each = tt; joined = refl };
    left = x;
    right = y;
    joined = order_merge (sort_order key) (sort_rank key) us vs;
  }

  -- the first element of the first row came next
  pub woven_first : (us vs : List SetPart) (e f l : List ℕ) (place from : ℕ) (x : RawElement) (r : List ℕ) → Woven us vs e l place from → TakesFirst l x r →
      BeforeAt key (drop from e) (part_of x) None → take (place + length x.bytes.now) f ≡ take place e ++ x.bytes.now → drop from f ≡ drop from e →
      Woven us vs f r (place + length x.bytes.now) from
  woven_first us vs e f l place from x r w t before written stays =
      let h = first_part w.first l x r w.left t in
      record {
        done = w.done ++ (part_of x ∷ []);
        first = h.others;
        second = w.second;
        written = subst (AreElements (w.done ++ (part_of x ∷ []))) (sym written)
            (elements_append w.done (part_of x ∷ []) (take place e) x.bytes.now w.written (one_element (part_of x) h.own));
        left = h.elements;
        right = subst (AreElements w.second) (sym stays) w.right;
        joined = w.joined ∙ ap (λ (z : List SetPart). w.done ++ merge (sort_order key) z w.second) h.is ∙ ap (λ (z : List SetPart). w.done ++ z) (step h.others w.second w.right)
            ∙ sym (append_assoc w.done (part_of x ∷ []) (merge (sort_order key) h.others w.second));
      }
    where
      step : (ps ys : List SetPart) → AreElements ys (drop from e) → merge (sort_order key) (part_of x ∷ ps) ys ≡ part_of x ∷ merge (sort_order key) ps ys
      step ps [] a = ap (λ (z : List SetPart). part_of x ∷ z) (sym (merge_nothing (sort_order key) ps))
      step ps (y ∷ ys) a = merge_first (sort_order key) (part_of x) y ps ys (before y (concat (parts_bytes ys)) a.each.0 a.joined)

  -- the elements of the second row that are left, after the first of them came next
  record SecondPart (x : RawElement) (ps : List SetPart) (ys : List SetPart) (e f : List ℕ) (place from k : ℕ) : Type 0 where
    next : SetPart
    others : List SetPart
    own : IsElementPart next
    written : take (place + k) f ≡ take place e ++ next.bytes
    right : AreElements others (drop (from + k) f)
    joined : merge (sort_order key) (part_of x ∷ ps) ys ≡ next ∷ merge (sort_order key) (part_of x ∷ ps) others

  second_part : (x : RawElement) (ps ys : List SetPart) (e f : List ℕ) (place from k : ℕ) → AreElements ys (drop from e) → IsSizeBefore key (drop from e) (part_of x) k →
      take (place + k) f ≡ take place e ++ take k (drop from e) → drop (from + k) f ≡ drop (from + k) e → SecondPart x ps ys e f place from k
  second_part x ps [] e f place from k a s written stays = absurd (omega (arith, s.some, s.within, ap length a.joined))
  second_part x ps (y ∷ ys) e f place from k a s written stays =
      let o = s.first y (concat (parts_bytes ys)) a.each.0 a.joined in
      let p = beyond from k e y.bytes (concat (parts_bytes ys)) a.joined (sym o.0) in
      record {
        next = y;
        others = ys;
        own = a.each.0;
        written = written ∙ ap (λ z. take place e ++ z) p.0;
        right = record { each = a.each.1; joined = stays ∙ p.1 };
        joined = merge_second (sort_order key) (part_of x) y ps ys o.1;
      }

  -- the first element of the second row came next
  pub woven_second : (us vs : List SetPart) (e f l : List ℕ) (place from k : ℕ) (x : RawElement) (r : List ℕ) → Woven us vs e l place from → TakesFirst l x r →
      IsSizeBefore key (drop from e) (part_of x) k → take (place + k) f ≡ take place e ++ take k (drop from e) → drop (from + k) f ≡ drop (from + k) e →
      Woven us vs f l (place + k) (from + k)
  woven_second us vs e f l place from k x r w t s written stays =
      let h = first_part w.first l x r w.left t in
      let y = second_part x h.others w.second e f place from k w.right s written stays in
      record {
        done = w.done ++ (y.next ∷ []);
        first = w.first;
        second = y.others;
        written = subst (AreElements (w.done ++ (y.next ∷ []))) (sym y.written)
            (elements_append w.done (y.next ∷ []) (take place e) y.next.bytes w.written (one_element y.next y.own));
        left = w.left;
        right = y.right;
        joined = w.joined ∙ ap (λ (z : List SetPart). w.done ++ merge (sort_order key) z w.second) h.is ∙ ap (λ (z : List SetPart). w.done ++ z) y.joined ∙
            ap (λ (z : List SetPart). w.done ++ (y.next ∷ merge (sort_order key) z y.others)) (sym h.is) ∙
            sym (append_assoc w.done (y.next ∷ []) (merge (sort_order key) w.first y.others));
      }

  -- where nothing of the first row is left, the rest is in place
  pub woven_all : (us vs : List SetPart) (e l : List ℕ) (place from : ℕ) → Woven us vs e l place from → NoFirst l → from ≡ place + length l → AreElements (sorted_by key (us ++ vs)) e
  woven_all us vs e l place from w n room =
      let none = no_part w.first l w.left n in
      let empty = ap length (w.left.joined ∙ ap (λ (z : List SetPart). concat (parts_bytes z)) none) in
      let same : from ≡ place = omega (arith, room, empty) in
      let all = elements_append w.done w.second (take place e) (drop from e) w.written w.right in
      let joined = w.joined ∙ ap (λ (z : List SetPart). w.done ++ merge (sort_order key) z w.second) none in
      subst (AreElements (sorted_by key (us ++ vs))) (ap (λ n. take place e ++ drop n e) same ∙ take-append-drop place e)
      (subst (λ (z : List SetPart). AreElements z (take place e ++ drop from e)) (sym joined) all)

  -- no element is before another where none is
  pub no_size : (s : List ℕ) (b : SetPart) → NoFirst s → BeforeAt key s b None
  no_size s b n p q h e = absurd (n p q h e)

  -- the first element is before another
  pub size_of_first : (s : List ℕ) (b : SetPart) (x : RawElement) (r : List ℕ) (k : ℕ) → TakesFirst s x r → is_lt (sort_order key (part_of x) b) ≡ true →
      k ≡ length x.bytes.now → BeforeAt key s b (Some k)
  size_of_first s b x r k t e i = record {
    some = omega (arith, t.some, i);
    within = omega (arith, i, ap length t.joined, length-append x.bytes.now r);
    first = λ p q h j.
        let same = (t.only p q h j).0 in
        (i ∙ ap (λ (z : SetPart). length z.bytes) (sym same), ap (λ (z : SetPart). is_lt (sort_order key z b)) same ∙ e);
  }

  -- or it isn't
  pub not_before_first : (s : List ℕ) (b : SetPart) (x : RawElement) (r : List ℕ) → TakesFirst s x r → is_lt (sort_order key (part_of x) b) ≡ false → BeforeAt key s b None
  not_before_first s b x r t e p q h j = ap (λ (z : SetPart). is_lt (sort_order key z b)) (t.only p q h j).0 ∙ e

  -- one element is in order
  one_sorted : (ps : List SetPart) (s a z : List ℕ) (x : RawElement) (r : List ℕ) → AreElements ps a → length ps ≡ 1 → s ≡ a ++ z → TakesFirst s x r →
      (b : List ℕ) × AreElements (sorted_by key ps) b × (s ≡ b ++ z) × (length x.bytes.now ≡ length b)
  one_sorted [] s a z x r h n j t = absurd (omega (arith, n))
  one_sorted (p ∷ q ∷ ps) s a z x r h n j t = absurd (omega (arith, n))
  one_sorted (p ∷ []) s a z x r h n j t =
      let whole = h.joined ∙ append-nil p.bytes in
      let same = t.only p z h.each.0 (j ∙ ap (λ y. y ++ z) whole) in
      (a, h, j, ap (λ (y : SetPart). length y.bytes) (sym same.0) ∙ ap length (sym whole))

  pub sorts_one : (s : List ℕ) (x : RawElement) (r : List ℕ) → TakesFirst s x r → SortsFirst key 1 s s (length x.bytes.now)
  sorts_one s x r t ps a z h n j = one_sorted ps s a z x r h n j t

  none_sorted : (ps : List SetPart) (s a z : List ℕ) → AreElements ps a → length ps ≡ 1 → s ≡ a ++ z → NoFirst s → ⊥
  none_sorted [] s a z h n j f = omega (arith, n)
  none_sorted (p ∷ ps) s a z h n j f = f p (concat (parts_bytes ps) ++ z) h.each.0 (j ∙ ap (λ y. y ++ z) h.joined ∙ append_assoc p.bytes (concat (parts_bytes ps)) z)

  pub sorts_none : (s : List ℕ) (k : ℕ) → NoFirst s → SortsFirst key 1 s s k
  sorts_none s k f ps a z h n j = absurd (none_sorted ps s a z h n j f)

  -- elements that are cut after the first k
  record CutElements (ps : List SetPart) (a : List ℕ) (k : ℕ) : Type 0 where
    front : List SetPart
    back : List SetPart
    head : List ℕ
    tail : List ℕ
    is : ps ≡ front ++ back
    count : length front ≡ k
    first : AreElements front head
    second : AreElements back tail
    joined : a ≡ head ++ tail

  cut_elements : (ps : List SetPart) (a : List ℕ) (k : ℕ) → AreElements ps a → k ≤ length ps → CutElements ps a k
  cut_elements ps a zero h n = record {
    front = [];
    back = ps;
    head = [];
    tail = a;
    is = refl;
    count = refl;
    first = record { each = tt; joined = refl };
    second = h;
    joined = refl;
  }
  cut_elements [] a (suc k) h n = absurd (omega (arith, n))
  cut_elements (p ∷ ps) a (suc k) h n =
      let c = cut_elements ps (concat (parts_bytes ps)) k (record { each = h.each.1; joined = refl }) (omega (arith, n)) in
      record {
        front = p ∷ c.front;
        back = c.back;
        head = p.bytes ++ c.head;
        tail = c.tail;
        is = ap (λ (z : List SetPart). p ∷ z) c.is;
        count = ap suc c.count;
        first = record { each = (h.each.0, c.first.each); joined = ap (λ z. p.bytes ++ z) c.first.joined };
        second = c.second;
        joined = h.joined ∙ ap (λ z. p.bytes ++ z) c.joined ∙ sym (append_assoc p.bytes c.head c.tail);
      }

  -- The first elements were put in order, then those after them, and both were woven. s, t and u are the bytes before each of these steps,
  -- v those place the end, and x what the first m + n bytes were woven to
  pub sorts_both : (k h m n : ℕ) (s t u v y x : List ℕ) → h ≤ k → SortsFirst key h s t m → SortsFirst key (k - h) (drop m t) y n → u ≡ take m t ++ y → m ≤ length t →
      Weaves key (take m (take (m + n) u)) (take (m + n) u) x → length x ≡ m + n → v ≡ x ++ drop (m + n) u → SortsFirst key k s v (m + n)
  sorts_both k h m n s t u v y x fewer first second split within woven size whole ps a z elements count joined =
      let c = cut_elements ps a h elements (omega (arith, fewer, count)) in
      let one = first c.front c.head (c.tail ++ z) c.first c.count (joined ∙ ap (λ i. i ++ z) c.joined ∙ append_assoc c.head c.tail z) in
      let b = one.0 in
      let place : length b ≡ m = sym one.3 in
      let after : drop m t ≡ c.tail ++ z = ap (drop m) one.2 ∙ drop_at b (c.tail ++ z) m place in
      let before : take m t ≡ b = ap (take m) one.2 ∙ take_at b (c.tail ++ z) m place in
      let total = ap length c.is ∙ length_append c.front c.back in
      let two = second c.back c.tail z c.second (omega (arith, total, c.count, count)) after in
      let d = two.0 in
      let end : length d ≡ n = sym two.3 in
      let both : u ≡ (b ++ d) ++ z = split ∙ ap₂ (λ i j. i ++ j) before two.2 ∙ sym (append_assoc b d z) in
      let long : length (b ++ d) ≡ m + n = length-append b d ∙ ap₂ (λ i j. i + j) place end in
      let part : take (m + n) u ≡ b ++ d = ap (take (m + n)) both ∙ take_at (b ++ d) z (m + n) long in
      let rest : drop (m + n) u ≡ z = ap (drop (m + n)) both ∙ drop_at (b ++ d) z (m + n) long in
      let front : take m (take (m + n) u) ≡ b = ap (take m) part ∙ take_at b d m place in
      let back : drop (length (take m (take (m + n) u))) (take (m + n) u) ≡ d =
      ap (λ i. drop (length i) (take (m + n) u)) front ∙ ap (drop (length b)) part ∙ drop_at b d (length b) refl in
      let all = woven c.front c.back (subst (AreElements (sorted_by key c.front)) (sym front) one.1) (subst (AreElements (sorted_by key c.back)) (sym back) two.1) in
      (x, subst (λ (qs : List SetPart). AreElements (sorted_by key qs) x) (sym c.is) all, whole ∙ ap (λ i. x ++ i) rest, sym size)
    where
      length_append : (xs ys : List SetPart) → length (xs ++ ys) ≡ length xs + length ys
      length_append xs ys = length-append xs ys

  -- all of some elements were put in order
  pub sorts_all : (k n : ℕ) (s t : List ℕ) → ((ps : List SetPart) → AreElements ps s → k ≡ length ps) → SortsFirst key k s t n → (ps : List SetPart) → AreElements ps s →
      AreElements (sorted_by key ps) t
  sorts_all k n s t count sorts ps a =
      let x = sorts ps s [] a (sym (count ps a)) (sym (append-nil s)) in
      subst (AreElements (sorted_by key ps)) (sym (x.2 ∙ append-nil x.0)) x.1

  -- none are in order
  pub sorts_empty : (s : List ℕ) → ((ps : List SetPart) → AreElements ps s → 0 ≡ length ps) → (ps : List SetPart) → AreElements ps s → AreElements (sorted_by key ps) s
  sorts_empty s count [] a = a
  sorts_empty s count (p ∷ ps) a = absurd (omega (arith, count (p ∷ ps) a))

-- the first element is within its bytes
pub first_within : (s : List ℕ) (x : RawElement) (r : List ℕ) → TakesFirst s x r → length x.bytes.now ≤ length s
first_within s x r t = omega (arith, ap length t.joined, length-append x.bytes.now r)

-- the bytes from a place on were shifted down to another one
pub record Shifted (e f : List ℕ) (place from size : ℕ) : Type 0 where
  pub taken : take (place + size) f ≡ take place e ++ take size (drop from e)
  pub stays : drop (from + size) f ≡ drop (from + size) e
  pub long : length f ≡ length e

pub shifted : (e f : List ℕ) (place from size : ℕ) → f ≡ copy_within e from (from + size) place → place ≤ from → from + size ≤ length e → Shifted e f place from size
shifted e f place from size h below within =
    let n : (from + size) - from ≡ size = omega arith in
    let g : f ≡ paste e place (drop from e) size = h ∙ ap (paste e place (drop from e)) n in
    let fits : size ≤ length (drop from e) = omega (arith, length-drop from e, within) in
    let after : drop (place + size) f ≡ drop (place + size) e =
    ap (drop (place + size)) g ∙ drop-paste e place (drop from e) size (omega (arith, below, within)) fits in
    let k : from + size ≡ (place + size) + (from - place) = omega (arith, below) in
    record {
      taken = ap (take (place + size)) g ∙ take-paste e place (drop from e) size (omega (arith, below, within)) fits;
      stays = ap (λ i. drop i f) k ∙ sym (drop-drop (from - place) (place + size) f) ∙ ap (drop (from - place)) after ∙
          drop-drop (from - place) (place + size) e ∙ ap (λ i. drop i e) (sym k);
      long = ap length g ∙ length-paste e place (drop from e) size (omega (arith, below, within)) fits;
    }

-- bytes that are put over as many others change no length
pub length_put : (a k : ℕ) (xs ys : List ℕ) → length ys ≡ k → a + k ≤ length xs → length (put_mid a k xs ys) ≡ length xs
length_put a k xs ys n within =
    let rest = drop k (drop a xs) in
    omega (arith, length-append (take a xs) (ys ++ rest), length-append ys rest, length-take a xs, length-drop k (drop a xs), length-drop a xs, n, within)

-- bytes from a place to the end
pub tail_put : (m : ℕ) (t y : List ℕ) → put_mid m (length t - m) t y ≡ take m t ++ y
tail_put m t y =
    let none : drop (length t - m) (drop m t) ≡ [] = empty_is (drop (length t - m) (drop m t)) (omega (arith, length-drop (length t - m) (drop m t), length-drop m t)) in
    ap (λ z. take m t ++ (y ++ z)) none ∙ ap (λ z. take m t ++ z) (append-nil y)

-- how many bytes were woven
pub woven_size : (m n : ℕ) (t y x : List ℕ) → take (length t - m) (drop m t) ≡ drop m t → m ≤ length t → length y ≡ length (take (length t - m) (drop m t)) →
    n ≤ length (take (length t - m) (drop m t)) → length x ≡ length (take (m + n) (put_mid m (length t - m) t y)) → length x ≡ m + n
woven_size m n t y x all within same few long =
    let whole = ap length (tail_put m t y) in
    omega (arith, ap length all, within, same, few, long, whole, length-take (m + n) (put_mid m (length t - m) t y), length-append (take m t) y, length-take m t, length-drop m t)

-- bytes were put over those that are there
pub record PutOver (e f b : List ℕ) (place from : ℕ) : Type 0 where
  pub taken : take (place + length b) f ≡ take place e ++ b
  pub stays : drop from f ≡ drop from e
  pub long : length f ≡ length e

pub put_over : (e f ys b : List ℕ) (place k from : ℕ) → f ≡ put_mid place k e ys → ys ≡ b → k ≡ length b → place + length b ≤ from → from ≤ length e → PutOver e f b place from
put_over e f ys b place k from g same size below within =
    let long : length ys ≡ k = ap length same ∙ sym size in
    record {
      taken = ap (take (place + length b)) g ∙ take-put_mid place k e ys (place + length b) (omega (arith, ap length same)) (omega (arith, below, within)) ∙
          ap (λ z. take place e ++ z) same;
      stays = ap (drop from) g ∙ drop-put_mid place k e ys from (omega (arith, size, below)) (omega (arith, below, within)) long;
      long = ap length g ∙ length_put place k e ys long (omega (arith, size, below, within));
    }
