-- Headers and contents joined, and elements that begin and end among them.
use Rattle.std.proofs.Common.{◌≡◌, ℕ, suc, ◌+◌, ◌-◌, ◌^◌, ◌<◌, ◌≤◌, List, [], ◌∷◌, ◌++◌, length, take, drop, zero, refl, sym, subst, ap, ap₂, ◌∙◌, arith, append_assoc, length-append, length-take, length-drop}
use Rattle.std.proofs.lemmas.List.{take-append-le, drop-append-le, take-take, take-append-drop, set_at, length-set}
use Rattle.std.proofs.Math.Seq.{take-append_seam, drop-append_seam}
use Rattle.std.specs.Prelude.{set, slice_get, Some}
use Rattle.smallvec.specs.SmallVec.{SmallVec, with_items}
use Rattle.smallvec.proofs.SmallVecLemmas.{items-with_items}
use Rattle.yasna_base.specs.declared.tag.Tag.{Tag}
use Rattle.yasna_base.specs.declared.tag.PCBit.TheVariants.{Constructed}
use Rattle.yasna_base.specs.Identifier.{identifier}
use Rattle.yasna_base.specs.Length.{shortest_length}
use Rattle.yasna_base.specs.Canonical.{canonical_element, definite_element, indefinite_element}
use Rattle.yasna_base.specs.Element.{end_of_contents}
use Rattle.yasna_base.specs.declared.mode.BERMode.{BERMode}
use Rattle.yasna_base.specs.declared.mode.BERMode.TheVariants.{Ber, Der, Cer}
use Rattle.yasna_writer.specs.declared.header.Header.{Header}
use Rattle.yasna_writer.specs.declared.header.PartsHeader.{PartsHeader}
use Rattle.yasna_writer.specs.declared.buffer.SlotState.{SlotState}
use Rattle.yasna_writer.specs.declared.buffer.SlotState.TheVariants.{Waits, Definite, Indefinite, Elsewhere}
use Rattle.yasna_writer.specs.declared.buffer.OpenElement.{OpenElement}
use Rattle.yasna_writer.specs.declared.buffer.Slot.{Slot}
use Rattle.yasna_writer.specs.Header.{header_bytes, indefinite_header, parts_header}
use Rattle.yasna_writer.specs.Buffer.{listed_header, header_of_state, FindsHeader, FindHeaders, StatesHeader, with_header, state_waits, waits_of}
use Rattle.yasna_writer.specs.Buffer.{joined, AreInOrder, headers_length, KnowsPlace, KnowPlaces, AreSlots, IsInnermost, with_element}

-- places stay in order where the contents grow
pub order_more : (k : ℕ) (es : List Slot) (m n : ℕ) → AreInOrder k es m → m ≤ n → AreInOrder k es n
order_more k [] m n o h = omega arith
order_more k (e ∷ es) m n o h = (o.0, order_more e.place es m n o.1 h)

pub order_within : (k : ℕ) (es : List Slot) (n : ℕ) → AreInOrder k es n → k ≤ n
order_within k [] n o = o
order_within k (e ∷ es) n o = omega (arith, o.0, order_within e.place es n o.1)

with_header_length : (p : ℕ) (h b : List ℕ) → length (with_header p h b) ≡ length h + length b
with_header_length p h b =
    omega (
      arith,
      length-append (take p b) (h ++ drop p b),
      length-append h (drop p b),
      length-take p b,
      length-drop p b,
    )

-- bytes after a header's place may be appended before or after it is put there
with_header_append : (p : ℕ) (h b bs : List ℕ) → p ≤ length b → with_header p h (b ++ bs) ≡ with_header p h b ++ bs
with_header_append p h b bs le = ap₂ (λ x y. x ++ (h ++ y)) (take-append-le p b bs le) (drop-append-le p b bs le) ∙ simp append_assoc

prefix_of_header : (k p : ℕ) (h b : List ℕ) → k ≤ p → p ≤ length b → take k (with_header p h b) ≡ take k b
prefix_of_header k p h b le within = take-append-le k (take p b) (h ++ drop p b) (omega (arith, length-take p b)) ∙ take-take k p b le

-- where no headers are listed but those of one list, and entries
module _ (ls : List PartsHeader) where
  -- what is joined is as long as the contents and the headers
  pub joined_length : (es : List Slot) (c : List ℕ) → length (joined ls es c) ≡ length c + headers_length ls es
  joined_length [] c = omega arith
  joined_length (e ∷ es) c = omega (arith, joined_length es c, with_header_length e.place (header_of_state ls e.state) (joined ls es c))

  -- bytes appended to the contents are appended to what is joined
  pub joined_append : (k : ℕ) (es : List Slot) (c bs : List ℕ) → AreInOrder k es (length c) → joined ls es (c ++ bs) ≡ joined ls es c ++ bs
  joined_append k [] c bs o = refl
  joined_append k (e ∷ es) c bs o =
      let h = header_of_state ls e.state in
      ap (with_header e.place h) (joined_append e.place es c bs o.1)
      ∙ with_header_append e.place h (joined ls es c) bs (omega (arith, joined_length es c, order_within e.place es (length c) o.1))

  order_from : (j k : ℕ) (es : List Slot) (n : ℕ) → j ≤ k → AreInOrder k es n → AreInOrder j es n
  order_from j k [] n h o = omega arith
  order_from j k (e ∷ es) n h o = (omega (arith, o.0), o.1)

  -- what is before the first header stays
  joined_prefix : (k : ℕ) (es : List Slot) (c : List ℕ) → AreInOrder k es (length c) → take k (joined ls es c) ≡ take k c
  joined_prefix k [] c o = refl
  joined_prefix k (e ∷ es) c o =
      let j = joined ls es c in
      let le : e.place ≤ length j = omega (arith, joined_length es c, order_within e.place es (length c) o.1) in
      prefix_of_header k e.place (header_of_state ls e.state) j o.0 le ∙ joined_prefix k es c (order_from k e.place es (length c) o.0 o.1)

  -- headers before a place are joined with what is before it, and those from it on with the rest
  pub joined_around :
      (k : ℕ) (es : List Slot) (e : Slot) (is : List Slot) (c : List ℕ) → AreInOrder k es e.place → AreInOrder e.place is (length c)
      → joined ls (es ++ (e ∷ is)) c ≡ joined ls es (take e.place c) ++ (header_of_state ls e.state ++ drop e.place (joined ls is c))
  joined_around k [] e is c o i = ap (λ x. x ++ (header_of_state ls e.state ++ drop e.place (joined ls is c))) (joined_prefix e.place is c i)
  joined_around k (g ∷ es) e is c o i =
      let h = header_of_state ls g.state in
      let prefix = take e.place c in
      let le = order_within e.place is (length c) i in
      let here = order_within g.place es e.place o.1 in
      ap (with_header g.place h) (joined_around g.place es e is c o.1 i)
      ∙ with_header_append g.place h (joined ls es prefix) (header_of_state ls e.state ++ drop e.place (joined ls is c))
      (omega (arith, joined_length es prefix, length-take e.place c))

  pub headers_length_append : (es is : List Slot) → headers_length ls (es ++ is) ≡ headers_length ls es + headers_length ls is
  headers_length_append [] is = omega arith
  headers_length_append (e ∷ es) is = omega (arith, headers_length_append es is)

-- headers before a place, one at it, and those after it are in order
order_around :
    (k : ℕ) (es : List Slot) (e : Slot) (is : List Slot) (n : ℕ) → AreInOrder k es e.place → AreInOrder e.place is n → AreInOrder k (es ++ (e ∷ is)) n
order_around k [] e is n o i = (o, i)
order_around k (g ∷ es) e is n o i = (o.0, order_around g.place es e is n o.1 i)

-- the order before an entry, and after it
pub order_split :
    (k : ℕ) (es : List Slot) (e : Slot) (is : List Slot) (n : ℕ) → AreInOrder k (es ++ (e ∷ is)) n → AreInOrder k es e.place × AreInOrder e.place is n
order_split k [] e is n o = o
order_split k (g ∷ es) e is n o = let r = order_split g.place es e is n o.1 in ((o.0, r.0), r.1)

listed_append : (n : ℕ) (es is : List Slot) → FindHeaders n es → FindHeaders n is → FindHeaders n (es ++ is)
listed_append n [] is l m = m
listed_append n (e ∷ es) is l m = (l.0, listed_append n es is l.1 m)

listed_split : (n : ℕ) (es is : List Slot) → FindHeaders n (es ++ is) → FindHeaders n es × FindHeaders n is
listed_split n [] is l = (tt, l)
listed_split n (e ∷ es) is l = let r = listed_split n es is l.1 in ((l.0, r.0), r.1)

pub waits_of_append : (es is : List Slot) → waits_of (es ++ is) ≡ waits_of es + waits_of is
waits_of_append [] is = omega arith
waits_of_append (e ∷ es) is = omega (arith, waits_of_append es is)

known_place : (a b : ℕ) (m : SlotState) → state_waits m ≡ 0 → KnowsPlace a b m
known_place a b (Waits d h) e = absurd (omega arith)
known_place a b (Definite c n l) e = tt
known_place a b (Indefinite c n) e = tt
known_place a b (Elsewhere i) e = tt

-- where n headers are listed, the places of elements before a place and of those after it are known
module _ (ls : List PartsHeader) where
  know_append :
      (a b c d : ℕ) (es is : List Slot) → KnowPlaces ls a b es → KnowPlaces ls c d is → c ≡ a + headers_length ls es → d ≡ b + waits_of es
      → KnowPlaces ls a b (es ++ is)
  know_append a b c d [] is k l e f =
      let p : c ≡ a = omega arith in
      let q : d ≡ b = omega arith in
      subst (λ x. KnowPlaces ls x b is) p (subst (λ y. KnowPlaces ls c y is) q l)
  know_append a b c d (g ∷ es) is k l e f =
      (k.0, know_append (a + length (header_of_state ls g.state)) (b + state_waits g.state) c d es is k.1 l (omega arith) (omega arith))

  know_prefix : (a b : ℕ) (es is : List Slot) → KnowPlaces ls a b (es ++ is) → KnowPlaces ls a b es
  know_prefix a b [] is k = tt
  know_prefix a b (g ∷ es) is k = (k.0, know_prefix (a + length (header_of_state ls g.state)) (b + state_waits g.state) es is k.1)

  know_rest :
      (a b c d : ℕ) (es is : List Slot) → KnowPlaces ls a b (es ++ is) → c ≡ a + headers_length ls es → d ≡ b + waits_of es → KnowPlaces ls c d is
  know_rest a b c d [] is k e f =
      let p : a ≡ c = omega arith in
      let q : b ≡ d = omega arith in
      subst (λ x. KnowPlaces ls x d is) p (subst (λ y. KnowPlaces ls a y is) q k)
  know_rest a b c d (g ∷ es) is k e f =
      know_rest (a + length (header_of_state ls g.state)) (b + state_waits g.state) c d es is k.1 (omega arith) (omega arith)

  -- entries among which no element waits know their places anywhere
  know_none : (a b : ℕ) (es : List Slot) → waits_of es ≡ 0 → KnowPlaces ls a b es
  know_none a b [] h = tt
  know_none a b (g ∷ es) h =
      (known_place a b g.state (omega arith), know_none (a + length (header_of_state ls g.state)) (b + state_waits g.state) es (omega arith))

prefix_of_list : (ls more : List PartsHeader) (i : ℕ) → i < length ls → slice_get (ls ++ more) i ≡ slice_get ls i
prefix_of_list [] more i h = absurd (omega arith)
prefix_of_list (l ∷ ls) more zero h = refl
prefix_of_list (l ∷ ls) more (suc i) h = prefix_of_list ls more i (omega arith)

is_listed_more : (m n : ℕ) (k : SlotState) → FindsHeader m k → m ≤ n → FindsHeader n k
is_listed_more m n (Waits d b) l le = tt
is_listed_more m n (Definite c a b) l le = tt
is_listed_more m n (Indefinite c a) l le = tt
is_listed_more m n (Elsewhere i) l le = omega (arith, l)

listed_more : (m n : ℕ) (es : List Slot) → FindHeaders m es → m ≤ n → FindHeaders n es
listed_more m n [] l le = tt
listed_more m n (e ∷ es) l le = (is_listed_more m n e.state l.0 le, listed_more m n es l.1 le)

-- where further headers are listed after the others, no entry changes its own
module _ (ls more : List PartsHeader) where
  header_more : (m : SlotState) → FindsHeader (length ls) m → header_of_state (ls ++ more) m ≡ header_of_state ls m
  header_more (Waits d b) l = refl
  header_more (Definite c a b) l = refl
  header_more (Indefinite c a) l = refl
  header_more (Elsewhere i) l = ap listed_header (prefix_of_list ls more i l)

  headers_more : (es : List Slot) → FindHeaders (length ls) es → headers_length (ls ++ more) es ≡ headers_length ls es
  headers_more [] l = refl
  headers_more (e ∷ es) l = omega (arith, ap length (header_more e.state l.0), headers_more es l.1)

  joined_more : (es : List Slot) (c : List ℕ) → FindHeaders (length ls) es → joined (ls ++ more) es c ≡ joined ls es c
  joined_more [] c l = refl
  joined_more (e ∷ es) c l = ap₂ (with_header e.place) (header_more e.state l.0) (joined_more es c l.1)

  known_listed : (a b : ℕ) (es : List Slot) → FindHeaders (length ls) es → KnowPlaces ls a b es → KnowPlaces (ls ++ more) a b es
  known_listed a b [] l k = tt
  known_listed a b (e ∷ es) l k = (
    k.0,
    subst (λ n. KnowPlaces (ls ++ more) (a + n) (b + state_waits e.state) es) (sym (ap length (header_more e.state l.0)))
        (known_listed (a + length (header_of_state ls e.state)) (b + state_waits e.state) es l.1 k.1),
  )

  slots_listed : (es : List Slot) (n headers waits : ℕ) → AreSlots ls es n headers waits → AreSlots (ls ++ more) es n headers waits
  slots_listed es n headers waits a = record {
    ordered = a.ordered;
    listed = listed_more (length ls) (length (ls ++ more)) es a.listed (omega (arith, length-append ls more));
    counted = omega (arith, a.counted, headers_more es a.listed);
    waiting = a.waiting;
    placed = known_listed 0 0 es a.listed a.placed;
    few = a.few;
  }

-- entries stay so where the contents grow
pub slots_more :
    (ls : List PartsHeader) (es : List Slot) (m n headers waits : ℕ) → AreSlots ls es m headers waits → m ≤ n → AreSlots ls es n headers waits
slots_more ls es m n headers waits a h = record {
  ordered = order_more 0 es m n a.ordered h;
  listed = a.listed;
  counted = a.counted;
  waiting = a.waiting;
  placed = a.placed;
  few = a.few;
}

-- an element begins where the contents end
pub slots_begin :
    (ls : List PartsHeader) (es : List Slot) (m : SlotState) (p n headers waits : ℕ) → AreSlots ls es n headers waits → p ≡ n
    → m ≡ Waits (waits + 1) headers → AreSlots ls (es ++ ((record { place = p; state = m }) ∷ [])) n headers (waits + 1)
slots_begin ls es m p n headers waits a e q =
    let x : Slot = record { place = p; state = Waits (waits + 1) headers } in
    let more : AreSlots ls (es ++ (x ∷ [])) n headers (waits + 1) = record {
      ordered = order_around 0 es x [] n (subst (λ k. AreInOrder 0 es k) (sym e) a.ordered) (omega (arith, e));
      listed = listed_append (length ls) es (x ∷ []) a.listed (tt, tt);
      counted = omega (arith, a.counted, headers_length_append ls es (x ∷ []));
      waiting = omega (arith, a.waiting, waits_of_append es (x ∷ []));
      placed = know_append ls 0 0 headers waits es (x ∷ []) a.placed ((refl, refl), tt) (omega (arith, a.counted)) (omega (arith, a.waiting));
      few = a.few;
    } in
    subst (λ k. AreSlots ls (es ++ ((record { place = p; state = k }) ∷ [])) n headers (waits + 1)) (sym q) more

-- which changes no bytes
pub joined_begin :
    (ls : List PartsHeader) (es : List Slot) (m : SlotState) (p : ℕ) (c : List ℕ) → header_of_state ls m ≡ []
    → joined ls (es ++ ((record { place = p; state = m }) ∷ [])) c ≡ joined ls es c
joined_begin ls [] m p c e = ap (λ h. with_header p h c) e ∙ take-append-drop p c
joined_begin ls (g ∷ es) m p c e = ap (with_header g.place (header_of_state ls g.state)) (joined_begin ls es m p c e)

-- the joined bytes, counted
pub slots_length :
    (ls : List PartsHeader) (es : List Slot) (c : List ℕ) (headers waits : ℕ) → AreSlots ls es (length c) headers waits
    → length (joined ls es c) ≡ length c + headers
slots_length ls es c headers waits a = omega (arith, a.counted, joined_length ls es c)

-- what becomes of entries where an element takes its header, and of the bytes
pub record TakesHeader (ls : List PartsHeader) (es : List Slot) (n headers waits : ℕ) (c new : List ℕ) : Type 0 where
  pub slots : AreSlots ls es n headers waits
  pub joins : joined ls es c ≡ new

-- where no element waits after it
slot_ended :
    (ls : List PartsHeader) (prefix back : List Slot) (h : PartsHeader) (m : SlotState) (place before headers sum waits : ℕ) (c : List ℕ)
    → AreSlots ls (prefix ++ ((record { place = place; state = Waits (waits + 1) before }) ∷ back)) (length c) headers (waits + 1) → StatesHeader h ls m
    → sum ≡ headers + length (parts_header h) → sum < 2 ^ 63
    → TakesHeader ls (prefix ++ ((record { place = place; state = m }) ∷ back)) (length c) sum waits c
    (with_header (place + before) (parts_header h) (joined ls (prefix ++ ((record { place = place; state = Waits (waits + 1) before }) ∷ back)) c))
slot_ended ls prefix back h m place before headers sum waits c a k total few =
    let x : Slot = record { place = place; state = Waits (waits + 1) before } in
    let y : Slot = record { place = place; state = m } in
    let o = order_split 0 prefix x back (length c) a.ordered in
    let l = listed_split (length ls) prefix (x ∷ back) a.listed in
    let know = know_rest ls 0 0 (headers_length ls prefix) (waits_of prefix) prefix (x ∷ back) a.placed (omega arith) (omega arith) in
    let none : waits_of back ≡ 0 = omega (arith, a.waiting, waits_of_append prefix (x ∷ back), know.0.0) in
    let head = joined ls prefix (take place c) in
    let rest = drop place (joined ls back c) in
    let within = order_within place back (length c) o.1 in
    let begins : length head ≡ place + before = omega (arith, joined_length ls prefix (take place c), length-take place c, know.0.1) in
    let old : joined ls (prefix ++ (x ∷ back)) c ≡ head ++ rest = joined_around ls 0 prefix x back c o.0 o.1 in
    record {
      slots = record {
        ordered = order_around 0 prefix y back (length c) o.0 o.1;
        listed = listed_append (length ls) prefix (y ∷ back) l.0 (k.listed, l.1.1);
        counted = omega (
          arith,
          total,
          a.counted,
          headers_length_append ls prefix (x ∷ back),
          headers_length_append ls prefix (y ∷ back),
          ap length k.header,
        );
        waiting = omega (arith, a.waiting, waits_of_append prefix (x ∷ back), waits_of_append prefix (y ∷ back), k.ended);
        placed = know_append ls 0 0 (headers_length ls prefix) (waits_of prefix) prefix (y ∷ back) (know_prefix ls 0 0 prefix (x ∷ back) a.placed) (
          known_place (headers_length ls prefix) (waits_of prefix) m k.ended,
          know_none ls (headers_length ls prefix + length (header_of_state ls m)) (waits_of prefix + state_waits m) back none,
        )
            (omega arith) (omega arith);
        few = few;
      };
      joins =
          joined_around ls 0 prefix y back c o.0 o.1 ∙ ap (λ z. head ++ (z ++ rest)) k.header
          ∙ ap₂ (λ u v. u ++ (parts_header h ++ v)) (sym (ap₂ take (sym begins) old ∙ take-append_seam head rest))
          (sym (ap₂ drop (sym begins) old ∙ drop-append_seam head rest));
    }

innermost_split :
    (es : List Slot) (b : OpenElement) (place waits : ℕ) (i : IsInnermost es waits b place)
    → es ≡ take b.slot es ++ ((record { place = place; state = Waits waits i.headers }) ∷ drop (b.slot + 1) es)
innermost_split es b place waits i = sym (take-append-drop b.slot es) ∙ ap (λ z. take b.slot es ++ z) i.there

-- some element waits where one is the innermost
pub waits_some :
    (ls : List PartsHeader) (es : List Slot) (b : OpenElement) (place n headers waits : ℕ) → AreSlots ls es n headers waits → IsInnermost es waits b place
    → 1 ≤ waits
waits_some ls es b place n headers waits a i =
    let x : Slot = record { place = place; state = Waits waits i.headers } in
    omega (arith, a.waiting, ap waits_of (innermost_split es b place waits i), waits_of_append (take b.slot es) (x ∷ drop (b.slot + 1) es))

-- the innermost element takes its header by the number of its entry
slot_takes :
    (ls : List PartsHeader) (es : List Slot) (b : OpenElement) (h : PartsHeader) (m : SlotState) (place headers sum waits : ℕ) (c : List ℕ)
    → AreSlots ls es (length c) headers waits → IsInnermost es waits b place → StatesHeader h ls m → sum ≡ headers + length (parts_header h) → sum < 2 ^ 63
    → TakesHeader ls (set es b.slot (record { place = place; state = m })) (length c) sum (waits - 1) c
    (with_header b.start (parts_header h) (joined ls es c))
slot_takes ls es b h m place headers sum waits c a i k total few =
    let less = waits - 1 in
    let some : waits ≡ less + 1 = omega (arith, waits_some ls es b place (length c) headers waits a i) in
    let x : Slot = record { place = place; state = Waits (less + 1) i.headers } in
    let y : Slot = record { place = place; state = m } in
    let prefix = take b.slot es in
    let back = drop (b.slot + 1) es in
    let split : es ≡ prefix ++ (x ∷ back) =
    innermost_split es b place waits i ∙ ap (λ d. prefix ++ ((record { place = place; state = Waits d i.headers }) ∷ back)) some in
    let there : length prefix ≡ b.slot = omega (arith, length-take b.slot es, length-drop b.slot es, ap length i.there) in
    let old = subst (λ j. AreSlots ls (prefix ++ (x ∷ back)) (length c) headers j) some
    (subst (λ (zs : List Slot). AreSlots ls zs (length c) headers waits) split a) in
    let new = slot_ended ls prefix back h m place i.headers headers sum less c old k total few in
    let whole : set es b.slot y ≡ prefix ++ (y ∷ back) = ap (λ z. set z b.slot y) split ∙ set_at prefix x back y b.slot there in
    let at = subst
    (λ (zs : List Slot). TakesHeader ls (prefix ++ (y ∷ back)) (length c) sum less c (with_header (place + i.headers) (parts_header h) (joined ls zs c)))
    (sym split) new in
    let begun = subst (λ n. TakesHeader ls (prefix ++ (y ∷ back)) (length c) sum less c (with_header n (parts_header h) (joined ls es c))) (sym i.start) at in
    subst (λ (zs : List Slot). TakesHeader ls zs (length c) sum less c (with_header b.start (parts_header h) (joined ls es c))) (sym whole) begun

-- which may be listed after the others
pub takes :
    (ls listed more : List PartsHeader) (es : List Slot) (b : OpenElement) (h : PartsHeader) (m : SlotState) (place headers sum waits : ℕ) (c : List ℕ)
    → AreSlots ls es (length c) headers waits → IsInnermost es waits b place → listed ≡ ls ++ more → StatesHeader h listed m
    → sum ≡ headers + length (parts_header h) → sum < 2 ^ 63
    → TakesHeader listed (set es b.slot (record { place = place; state = m })) (length c) sum (waits - 1) c
    (with_header b.start (parts_header h) (joined ls es c))
takes ls listed more es b h m place headers sum waits c a i s k total few =
    let y : Slot = record { place = place; state = m } in
    let taken = slot_takes (ls ++ more) es b h m place headers sum waits c (slots_listed ls more es (length c) headers waits a) i
    (subst (λ (xs : List PartsHeader). StatesHeader h xs m) s k) total few in
    let same = subst (λ z. TakesHeader (ls ++ more) (set es b.slot y) (length c) sum (waits - 1) c (with_header b.start (parts_header h) z))
    (joined_more ls more es c a.listed) taken in
    subst (λ (xs : List PartsHeader). TakesHeader xs (set es b.slot y) (length c) sum (waits - 1) c (with_header b.start (parts_header h) (joined ls es c)))
    (sym s) same

-- an entry that was set among those that are in a vector
pub slot_set : (v : SmallVec Slot) (es : List Slot) (i : ℕ) (x : Slot) → es ≡ v.items → (with_items v (set es i x)).items ≡ set v.items i x
slot_set v es i x e = ap (λ (zs : List Slot). (with_items v (set zs i x)).items) e ∙ items-with_items v (set v.items i x) (length-set v.items i x)

-- one header alone
pub one_slot :
    (ls : List PartsHeader) (h : PartsHeader) (m : SlotState) (p n headers : ℕ) → StatesHeader h ls m → p ≤ n → headers ≡ length (parts_header h)
    → headers < 2 ^ 63 → AreSlots ls ((record { place = p; state = m }) ∷ []) n headers 0
one_slot ls h m p n headers k within total few = record {
  ordered = (omega arith, within);
  listed = (k.listed, tt);
  counted = omega (arith, total, ap length k.header);
  waiting = omega (arith, k.ended);
  placed = (known_place 0 0 m k.ended, tt);
  few = few;
}

definite_apart : (h : Header) (place : ℕ) (b : List ℕ) → h.length + place ≡ length b →
    with_header place (header_bytes Constructed h) b ≡ take place b ++ definite_element h.tag Constructed (drop place b)
unfolding definite_element
definite_apart h place b l =
    let long : h.length ≡ length (drop place b) = omega (arith, length-drop place b) in
    ap (λ x. take place b ++ x) (append_assoc (identifier h.tag Constructed) (shortest_length h.length) (drop place b))
    ∙ ap (λ k. take place b ++ (identifier h.tag Constructed ++ (shortest_length k ++ drop place b))) long

-- a header that counts the bytes from a place on makes them an element, but in CER
pub unambiguous :
    (m : BERMode) (h : Header) (place : ℕ) (b : List ℕ) → (m ≡ Cer → ⊥) → h.length + place ≡ length b
    → with_header place (header_bytes Constructed h) b ≡ with_element m h.tag place b
unfolding canonical_element
unambiguous Ber h place b not l = definite_apart h place b l
unambiguous Der h place b not l = definite_apart h place b l
unambiguous Cer h place b not l = absurd (not refl)

-- one of indefinite length makes them an element of CER, where two zeros were appended
pub indefinite_apart : (t : Tag) (place : ℕ) (b : List ℕ) → place ≤ length b →
    with_header place (indefinite_header t) (b ++ end_of_contents) ≡ with_element Cer t place b
unfolding canonical_element indefinite_element
indefinite_apart t place b within =
    ap₂ (λ x y. x ++ (indefinite_header t ++ y)) (take-append-le place b end_of_contents within) (drop-append-le place b end_of_contents within)
    ∙ ap (λ x. take place b ++ x) (append_assoc (identifier t Constructed) (128 ∷ []) (drop place b ++ end_of_contents))

drop_get : (es : List Slot) (i : ℕ) (e : Slot) → slice_get es i ≡ Some e → drop i es ≡ e ∷ drop (i + 1) es
drop_get [] i e g = absurd (cc)
drop_get (x ∷ es) zero e g = let same : x ≡ e = cc g in ap (λ z. z ∷ es) same
drop_get (x ∷ es) (suc i) e g = let n : suc (i + 1) ≡ suc i + 1 = omega arith in drop_get es i e g ∙ ap (λ k. e ∷ drop k (x ∷ es)) n

-- an entry that waits at a place, where the element that ends began
pub innermost_at :
    (es : List Slot) (b : OpenElement) (e : Slot) (waits headers : ℕ) → slice_get es b.slot ≡ Some e → e.state ≡ Waits waits headers → e.place ≤ b.start
    → headers ≡ b.start - e.place → IsInnermost es waits b e.place
innermost_at es b e waits headers g m le h = record {
  headers = headers;
  there = drop_get es b.slot e g ∙ ap (λ k. (record { place = e.place; state = k }) ∷ drop (b.slot + 1) es) m;
  start = omega (arith, h);
}
