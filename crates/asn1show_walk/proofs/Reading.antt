-- What was told of elements so far.
use Rattle.std.proofs.Common.{◌≡◌, ◌+◌, ◌-◌, ◌≤◌, ℕ, Bool, true, false, List, [], ◌∷◌, ◌++◌, length, Some, None, Ok, Err, inl, inr, refl, sym, ap, ◌∙◌, subst, append-nil, append_assoc, length-append, arith}
use Rattle.std.specs.Prelude.{Option, Result, IfOk}
use Rattle.yasna_base.specs.Header.{OpensAt, definite_end, indefinite_end}
use Rattle.yasna_base.specs.declared.mode.BERMode.{BERMode}
use Rattle.yasna_base.specs.declared.tag.PCBit.TheVariants.{Primitive}
use Rattle.yasna_bytes.specs.Opening.{end_found}
use Rattle.yasna_bytes.specs.Walk.{following}
use Rattle.asn1show_walk.specs.Listing.{Line, VisitsLines, Below, InString, octets, bits, ListsBytes, ListsOne}
use Rattle.asn1show_walk.specs.Reading.{line_of, counted_length, OpensItem, IsInString, in_octets, in_bits, IsFurther, EndsAt, ContentsVisited, ElementVisited, BelowVisited}
use Rattle.asn1show_walk.specs.declared.listing.item.Item.{Item}
use Rattle.asn1show_walk.specs.declared.listing.item.OpenedItem.{OpenedItem}
use Rattle.asn1show_walk.specs.declared.listing.place.Place.{Place}
use Rattle.asn1show_walk.specs.declared.listing.place.Context.{Context}
use Rattle.asn1show_walk.proofs.Lines.{visits_none, visits_more, lists_none, lists_more, counted_reported, uncounted_reported}

-- the elements from p to q were visited
pub record Reached (context : Context) (p q : Place) (old new : List Line → Type 0) : Type 0 where
  pub bytes : List ℕ
  pub lines : List Line
  pub further : IsFurther p bytes q
  pub visits : VisitsLines old new lines
  pub lists : ListsBytes context.levels context.mode context.in_string p.offset bytes lines

pub reached_none : (context : Context) (p : Place) (a : List Line → Type 0) → Reached context p p a a
reached_none context p a = record {
  bytes = [];
  lines = [];
  further = record { joined = refl; offset = omega arith };
  visits = visits_none a;
  lists = lists_none context.levels context.mode context.in_string p.offset;
}

pub reached_more : (context : Context) (p q r : Place) (a b c : List Line → Type 0) → Reached context p q a b → ElementVisited context q r b c → Reached context p r a c
reached_more context p q r a b c x y = record {
  bytes = x.bytes ++ y.bytes;
  lines = x.lines ++ y.lines;
  further = record {
    joined = x.further.joined ∙ ap (λ z. x.bytes ++ z) y.further.joined ∙ sym (append_assoc x.bytes y.bytes r.left.now);
    offset = omega (arith, x.further.offset, y.further.offset, length-append x.bytes y.bytes);
  };
  visits = visits_more a b c x.lines y.lines x.visits y.visits;
  lists = lists_more context.levels context.mode context.in_string p.offset x.bytes y.bytes x.lines y.lines x.lists
      (subst (λ z. ListsOne context.levels context.mode context.in_string z y.bytes y.lines) x.further.offset y.lists);
}

pub reached_end : (context : Context) (p q r : Place) (w : Bool) (a b : List Line → Type 0) → Reached context p q a b → EndsAt w q r → ContentsVisited context p w r a b
reached_end context p q r w a b x y =
    record { bytes = x.bytes; lines = x.lines; end = q; further = x.further; ends = y; visits = x.visits; lists = x.lists }

-- counted contents were visited to their end
pub reported_whole : (context : Context) (p q : Place) (a b : List Line → Type 0) → (x : ContentsVisited context p true q a b) →
    ListsBytes context.levels context.mode context.in_string p.offset p.left.now x.lines
reported_whole context p q a b x =
    let e : p.left.now ≡ x.bytes = x.further.joined ∙ ap (λ z. x.bytes ++ z) (x.ends.0) ∙ append-nil x.bytes in
    subst (λ z. ListsBytes context.levels context.mode context.in_string p.offset z x.lines) (sym e) x.lists

-- an input was visited, from its first place on
pub reported_input : (context : Context) (m : BERMode) (p q : Place) (s : List ℕ) (a b : List Line → Type 0) → context.mode ≡ m → context.levels ≡ 101 →
    context.in_string ≡ false → p.left.now ≡ s → p.offset ≡ 0 → (x : ContentsVisited context p true q a b) → ListsBytes 101 m false 0 s x.lines
reported_input context m p q s a b is_mode is_levels is_outside is_left is_first x =
    let one = subst (λ z. ListsBytes context.levels z context.in_string p.offset p.left.now x.lines) is_mode (reported_whole context p q a b x) in
    let two = subst (λ z. ListsBytes z m context.in_string p.offset p.left.now x.lines) is_levels one in
    let three = subst (λ z. ListsBytes 101 m z p.offset p.left.now x.lines) is_outside two in
    let four = subst (λ z. ListsBytes 101 m false z p.left.now x.lines) is_first three in
    subst (λ z. ListsBytes 101 m false 0 z x.lines) is_left four

-- what follows holds of a result too
pub if_ok : {A E : Type 0} (r : Result A E) (P Q : A → Type 0) → ((x : A) → P x → Q x) → IfOk r P → IfOk r Q
if_ok (Ok x) P Q f p = f x p
if_ok (Err e) P Q f p = tt

-- an element of definite length was visited, and the elements in it
pub element_counted : (context : Context) (p q : Place) (o : OpenedItem) (a b d : List Line → Type 0) (r : List ℕ) → OpensItem context p o →
    end_found o.end ≡ definite_end r → VisitsLines a b (line_of o.item ∷ []) → BelowVisited context o.item b d → q.left.now ≡ r →
    q.offset + length r ≡ p.offset + length p.left.now → ElementVisited context p q a d
element_counted context p q o a b d r x e h y i j =
    let opens = subst (λ z. OpensAt context.mode o.item.tag o.item.bit p.left.now o.item.contents.now z) e x.opens in
    let fits : o.item.header + (length o.item.contents.now + length r) ≡ length p.left.now =
    subst (λ z. o.item.header + (length o.item.contents.now + length (following z)) ≡ length p.left.now) e x.header in
    let counts : o.item.size ≡ Some (length o.item.contents.now) = x.counts ∙ ap (λ z. counted_length z (length o.item.contents.now)) e in
    let t = counted_reported context.mode context.levels y.levels context.in_string (line_of o.item) p.left.now o.item.contents.now r y.lines y.deeper x.depth
    x.in_string x.not_end opens fits counts refl y.below in
    record {
      bytes = t.bytes;
      lines = line_of o.item ∷ y.lines;
      some = t.some;
      further = record {
        joined = t.joined ∙ ap (λ z. t.bytes ++ z) (sym i);
        offset = omega (arith, j, ap length t.joined ∙ length-append t.bytes r);
      };
      visits = visits_more a b d (line_of o.item ∷ []) y.lines h y.visits;
      lists = subst (λ z. ListsOne context.levels context.mode context.in_string z t.bytes (line_of o.item ∷ y.lines)) x.offset t.one;
    }

-- an element of indefinite length was visited, and the elements in it
pub element_uncounted : (context inner : Context) (p i q : Place) (o : OpenedItem) (a b d : List Line → Type 0) → OpensItem context p o →
    end_found o.end ≡ indefinite_end → VisitsLines a b (line_of o.item ∷ []) → inner.mode ≡ context.mode → inner.levels + 1 ≡ context.levels →
    inner.in_string ≡ context.in_string → i.left.now ≡ o.item.contents.now → i.offset ≡ o.item.offset + o.item.header →
    ContentsVisited inner i false q b d → ElementVisited context p q a d
element_uncounted context inner p i q o a b d x e h f g j k l y =
    let opens = subst (λ z. OpensAt context.mode o.item.tag o.item.bit p.left.now o.item.contents.now z) e x.opens in
    let fits : o.item.header + (length o.item.contents.now + 0) ≡ length p.left.now =
    subst (λ z. o.item.header + (length o.item.contents.now + length (following z)) ≡ length p.left.now) e x.header in
    let counts : o.item.size ≡ None = x.counts ∙ ap (λ z. counted_length z (length o.item.contents.now)) e in
    let ends : o.item.contents.now ≡ y.bytes ++ (0 ∷ 0 ∷ q.left.now) = sym k ∙ y.further.joined ∙ ap (λ z. y.bytes ++ z) y.ends.joined in
    let lists = subst (λ z. ListsBytes inner.levels inner.mode context.in_string z y.bytes y.lines) l
    (subst (λ z. ListsBytes inner.levels inner.mode z i.offset y.bytes y.lines) j y.lists) in
    let same = subst (λ z. ListsBytes inner.levels z context.in_string (o.item.offset + o.item.header) y.bytes y.lines) f lists in
    let t = uncounted_reported context.mode context.levels inner.levels context.in_string (line_of o.item) p.left.now o.item.contents.now y.bytes q.left.now y.lines g
    x.depth x.in_string x.not_end opens (omega (arith, fits)) counts ends refl same in
    record {
      bytes = t.bytes;
      lines = line_of o.item ∷ y.lines;
      some = t.some;
      further = record {
        joined = t.joined;
        offset = omega (
          arith,
          x.offset,
          y.further.offset,
          y.ends.offset,
          l,
          fits,
          ap length ends ∙ length-append y.bytes (0 ∷ 0 ∷ q.left.now),
          ap length t.joined ∙ length-append t.bytes q.left.now,
        );
      };
      visits = visits_more a b d (line_of o.item ∷ []) y.lines h y.visits;
      lists = subst (λ z. ListsOne context.levels context.mode context.in_string z t.bytes (line_of o.item ∷ y.lines)) x.offset t.one;
    }

-- nothing in a primitive element was visited
pub nothing_reported : (context : Context) (i : Item) (a : List Line → Type 0) → 1 ≤ context.levels → i.bit ≡ Primitive → BelowVisited context i a a
nothing_reported context i a l e = record {
  lines = [];
  visits = visits_none a;
  levels = context.levels - 1;
  deeper = omega (arith, l);
  below = subst (λ z. Below (λ v. ListsBytes (context.levels - 1) context.mode v) context.in_string i.tag z (i.offset + i.header) i.contents.now []) (sym e)
      (inl refl);
}

string_lists : (I : ℕ → List ℕ → List Line → Type 0) (i : Item) (p : Place) (ls : List Line) → IsInString i p → I p.offset p.left.now ls →
    InString I i.tag (i.offset + i.header) i.contents.now ls
string_lists I i p ls (in_octets t c o) x = octets t (subst (λ z. I z i.contents.now ls) o (subst (λ z. I p.offset z ls) c x))
string_lists I i p ls (in_bits t c o) x = bits p.left.now t c (subst (λ z. I z p.left.now ls) o x)

-- the elements in a string were visited
pub string_reported : (context inner : Context) (i : Item) (p q : Place) (a b : List Line → Type 0) → i.bit ≡ Primitive → inner.mode ≡ context.mode →
    inner.levels + 1 ≡ context.levels → inner.in_string ≡ true → IsInString i p → ContentsVisited inner p true q a b → BelowVisited context i a b
string_reported context inner i p q a b e f g w s y =
    let one = subst (λ z. ListsBytes inner.levels z inner.in_string p.offset p.left.now y.lines) f (reported_whole inner p q a b y) in
    let two = subst (λ z. ListsBytes inner.levels context.mode z p.offset p.left.now y.lines) w one in
    let three = string_lists (ListsBytes inner.levels context.mode true) i p y.lines s two in
    record {
      lines = y.lines;
      visits = y.visits;
      levels = inner.levels;
      deeper = g;
      below = subst (λ z. Below (λ v. ListsBytes inner.levels context.mode v) context.in_string i.tag z (i.offset + i.header) i.contents.now y.lines) (sym e)
          (inr three);
    }
