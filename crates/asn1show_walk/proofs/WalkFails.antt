-- Why elements weren't visited: at the first place where no well-formed element is.
use Rattle.std.proofs.Common.{◌≡◌, ◌+◌, ℕ, zero, suc, Bool, true, false, List, ◌∷◌, ◌++◌, length, Ok, Err, inl, inr, refl, sym, ap, ◌∙◌, subst, arith}
use Rattle.std.specs.Prelude.{Option, Result, IfErr}
use Rattle.yasna_base.specs.declared.error.ASN1ErrorKind.{ASN1ErrorKind}
use Rattle.yasna_base.specs.declared.error.ASN1ErrorKind.TheVariants.{Eof}
use Rattle.yasna_base.specs.declared.mode.BERMode.{BERMode}
use Rattle.yasna_base.specs.declared.tag.PCBit.TheVariants.{Constructed}
use Rattle.yasna_base.specs.Header.{definite_end, indefinite_end, OpensAt}
use Rattle.yasna_base.specs.Raw.{RawValue, IsJoining}
use Rattle.yasna_base.proofs.Lists.{append_same, empty_is}
use Rattle.yasna_base.proofs.Pieces.{starts_not_end}
use Rattle.yasna_base.proofs.Raw.{raw_exact}
use Rattle.yasna_bytes.specs.Prefix.{HasPrefix}
use Rattle.yasna_bytes.specs.Opening.{end_found}
use Rattle.yasna_bytes.specs.Walk.{following}
use Rattle.yasna_bytes.proofs.WalkSteps.{First, before_first, here, further, no_raw}
use Rattle.asn1show_walk.specs.Errors.{IsMalformed, WalkFails}
use Rattle.asn1show_walk.specs.Listing.{Line}
use Rattle.asn1show_walk.specs.Reading.{OpensItem, NoItem, ElementBefore, NoElement, NotClosed, NoneBelow, NoElements, ElementVisited}
use Rattle.asn1show_walk.specs.Stops.{HeaderMissing, StopsInside, at_header, inside, StopsOne, StopsIn}
use Rattle.asn1show_walk.specs.WellFormed.{WellFormedOver, IsWellFormed, AreElements, EndsHere, ClosesWell}
use Rattle.asn1show_walk.specs.declared.error.WalkError.{WalkError}
use Rattle.asn1show_walk.specs.declared.error.WalkError.TheVariants.{Malformed, Memory, Output, ClosedOutput}
use Rattle.asn1show_walk.specs.declared.listing.item.Item.{Item}
use Rattle.asn1show_walk.specs.declared.listing.item.OpenedItem.{OpenedItem}
use Rattle.asn1show_walk.specs.declared.listing.place.Place.{Place}
use Rattle.asn1show_walk.specs.declared.listing.place.Context.{Context}
use Rattle.asn1show_walk.proofs.Reading.{Reached}
use Rattle.asn1show_walk.proofs.Stops.{ends_at_end, joining_closes, counted_inside, uncounted_inside, stops_once}
use Rattle.asn1show_walk.proofs.WellFormed.{takes_constructed, lists_formed, none_raw, formed_zero, formed_into, formed_raw, formed_starts, one_formed}

-- what follows holds of an error too
malformed_by : {P Q : ℕ → ASN1ErrorKind → Type 0} (f : WalkError) → ((o : ℕ) (k : ASN1ErrorKind) → P o k → Q o k) → IsMalformed P f → IsMalformed Q f
malformed_by (Malformed o k e) g x = g o k x
malformed_by Memory g x = x
malformed_by Output g x = x
malformed_by ClosedOutput g x = x

pub fails_by : (R : WalkError → Type 0) {P Q : ℕ → ASN1ErrorKind → Type 0} (f : WalkError) → ((o : ℕ) (k : ASN1ErrorKind) → P o k → Q o k) →
    WalkFails R P f → WalkFails R Q f
fails_by R f g (inl x) = inl x
fails_by R f g (inr x) = inr (malformed_by f g x)

-- where what wasn't there was promised, the visitor rejected
pub rejected_by : (R : WalkError → Type 0) {P : ℕ → ASN1ErrorKind → Type 0} (Q : ℕ → ASN1ErrorKind → Type 0) (f : WalkError) →
    ((o : ℕ) (k : ASN1ErrorKind) → P o k → ⊥) → WalkFails R P f → WalkFails R Q f
rejected_by R Q f g x = fails_by R f (λ o k n. absurd (g o k n)) x

pub if_err : {A E : Type 0} (r : Result A E) (P Q : E → Type 0) → ((x : E) → P x → Q x) → IfErr r P → IfErr r Q
if_err (Ok x) P Q f p = tt
if_err (Err e) P Q f p = f e p

-- an element that was visited is well formed
pub visited_element : (context : Context) (p q : Place) (a b : List Line → Type 0) → ElementVisited context p q a b → ElementBefore context p q
visited_element context p q a b x =
    let v = one_formed context.levels context.mode context.in_string p.offset x.bytes x.lines x.lists in
    (v.0, record { prefix = x.bytes; joined = x.further.joined; member = v.1 })

closes_first : (n : ℕ) (m : BERMode) (w : Bool) (v : RawValue) (b r s : List ℕ) → IsWellFormed n m v b → s ≡ b ++ r → First (IsWellFormed n m) (EndsHere w) s →
    ClosesWell n m w r
closes_first n m w v b r s x e (here d) = absurd (starts_not_end b r s (formed_starts n m v b x) (ends_at_end w s d) e)
closes_first n m w v b r s x e (further u c q y f z) =
    let g : b ++ r ≡ c ++ q = sym e ∙ f in
    let i = (raw_exact n n m v u b c r q (formed_raw n m v b x) (formed_raw n m u c y) g).1 in
    subst (λ k. ClosesWell n m w k) (sym (append_same c r q (ap (λ k. k ++ r) (sym i) ∙ g))) z

-- where the contents end that begin at p, they go on at q
abbrev pub GoesOn : Context → Place → Place → Bool → Type 0
GoesOn context p q w = ClosesWell context.levels context.mode w p.left.now → ClosesWell context.levels context.mode w q.left.now

-- contents that end after an element end from there on too
pub closes_after : (context : Context) (p q : Place) (w : Bool) (a b : List Line → Type 0) → ElementVisited context p q a b → GoesOn context p q w
closes_after context p q w a b x y =
    let v = one_formed context.levels context.mode context.in_string p.offset x.bytes x.lines x.lists in
    closes_first context.levels context.mode w v.0 x.bytes q.left.now p.left.now v.1 x.further.joined (before_first p.left.now y)

first_is_there : (n : ℕ) (m : BERMode) (w : Bool) (s : List ℕ) → (EndsHere w s → ⊥) → First (IsWellFormed n m) (EndsHere w) s → HasPrefix (IsWellFormed n m) s
first_is_there n m w s none (here d) = absurd (none d)
first_is_there n m w s none (further v b r x e y) = (v, r, record { prefix = b; joined = e; member = x })

-- where they neither end nor go on they don't end
pub not_closed : (context : Context) (p q : Place) (w : Bool) (a b : List Line → Type 0) (o : ℕ) (k : ASN1ErrorKind) → Reached context p q a b →
    GoesOn context p q w → (EndsHere w q.left.now → ⊥) → NoElement context q o k → NotClosed context p w o k
not_closed context p q w a b o k x f none y =
    let j = lists_formed context.levels context.mode context.in_string p.offset x.bytes x.lines x.lists in
    record {
      none = λ z. y.none (first_is_there context.levels context.mode w q.left.now none (before_first q.left.now (f z)));
      at = length x.bytes + y.at;
      place = omega (arith, x.further.offset, y.place);
      stops = record {
        values = j.0;
        prefix = x.bytes;
        rest = q.left.now;
        pieces = j.1;
        joined = x.further.joined;
        goes_on = none;
        further = y.at;
        place = refl;
        next = y.stops;
      };
    }

-- an element stops at its header
stops_header : (n : ℕ) (m : BERMode) (k : ASN1ErrorKind) (s : List ℕ) → HeaderMissing m n k s → StopsOne n m k s 0
unfolding StopsOne
stops_header zero m k s x = at_header refl x
stops_header (suc n) m k s x = at_header refl x

-- or in its contents, with a level less
stops_inside : (n j : ℕ) (m : BERMode) (k : ASN1ErrorKind) (s : List ℕ) (at : ℕ) → j + 1 ≡ n → StopsInside (StopsIn j m k) m s at → StopsOne n m k s at
unfolding StopsOne
stops_inside zero j m k s at e x = absurd (omega (arith, e))
stops_inside (suc n) j m k s at e x =
    let i : j ≡ n = omega (arith, e) in
    inside (subst (λ z. StopsInside (StopsIn z m k) m s at) i x)

-- no element is where no header is
pub item_not_element : (context : Context) (p : Place) (o : ℕ) (k : ASN1ErrorKind) → NoItem context p o k → NoElement context p o k
item_not_element context p o k x = record {
  none = λ y. let w = y.2 in
      no_raw context.mode context.levels p.left.now x.header_missing.none y.0 w.prefix y.1 (formed_raw context.levels context.mode y.0 w.prefix w.member) w.joined;
  at = 0;
  place = omega (arith, x.here);
  stops = stops_header context.levels context.mode k p.left.now x.header_missing;
}

pub item_fails : (R : WalkError → Type 0) (context : Context) (p : Place) (f : WalkError) → IsMalformed (NoItem context p) f → WalkFails R (NoElement context p) f
item_fails R context p f x = inr (malformed_by f (item_not_element context p) x)

-- an element within some levels is over those with one less
over_less : (n k : ℕ) (m : BERMode) (v : RawValue) (b : List ℕ) → k + 1 ≡ n → IsWellFormed n m v b → WellFormedOver (IsWellFormed k m) m v b
over_less zero k m v b e x = absurd (formed_zero m v b x)
over_less (suc n) k m v b e x =
    let i : n ≡ k = omega (arith, e) in
    subst (λ j. WellFormedOver (IsWellFormed j m) m v b) i (formed_into n m v b x)

-- no element is where a header does whose contents aren't elements
pub below_not_element : (context : Context) (p : Place) (x : OpenedItem) (r : List ℕ) → OpensItem context p x → end_found x.end ≡ definite_end r → (o : ℕ)
    (k : ASN1ErrorKind) → NoneBelow context x.item o k → NoElement context p o k
below_not_element context p x r i e o k y =
    let t = x.item.tag in
    let c = x.item.contents.now in
    let opens = subst (λ f. OpensAt context.mode t x.item.bit p.left.now c f) e i.opens in
    let fits = subst (λ z. x.item.header + (length c + length (following z)) ≡ length p.left.now) e i.header in
    record {
      none = λ z. let w = z.2 in
          let over = over_less context.levels y.levels context.mode z.0 w.prefix y.deeper w.member in
          y.none (counted_inside context.mode t x.item.bit p.left.now c r z.0 w.prefix z.1 opens over.framed w.joined y.bit);
      at = x.item.header + y.at;
      place = omega (arith, i.offset, y.place);
      stops = stops_inside context.levels y.levels context.mode k p.left.now (x.item.header + y.at) y.deeper (record {
        tag = t;
        not_end = i.not_end;
        contents = c;
        end = definite_end r;
        opens = subst (λ b. OpensAt context.mode t b p.left.now c (definite_end r)) y.bit opens;
        header = x.item.header;
        counts = fits;
        further = y.at;
        place = refl;
        inner = y.stops;
      });
    }

-- nor one whose contents no two zeros end
pub uncounted_not_element : (context inner : Context) (p q : Place) (x : OpenedItem) → OpensItem context p x → end_found x.end ≡ indefinite_end →
    inner.mode ≡ context.mode → inner.levels + 1 ≡ context.levels → q.left.now ≡ x.item.contents.now → q.offset ≡ x.item.offset + x.item.header → (o : ℕ)
    (k : ASN1ErrorKind) → NotClosed inner q false o k → NoElement context p o k
uncounted_not_element context inner p q x i e f g j l o k y =
    let t = x.item.tag in
    let c = x.item.contents.now in
    let opens = subst (λ z. OpensAt context.mode t x.item.bit p.left.now c z) e i.opens in
    let fits = subst (λ z. x.item.header + (length c + length (following z)) ≡ length p.left.now) e i.header in
    let stops = subst (λ z. StopsIn inner.levels context.mode k false z y.at) j (subst (λ m. StopsIn inner.levels m k false q.left.now y.at) f y.stops) in
    record {
      none = λ z. let w = z.2 in
          let over = over_less context.levels inner.levels context.mode z.0 w.prefix g w.member in
          let d = uncounted_inside context.mode t x.item.bit p.left.now c z.0 w.prefix z.1 opens over.framed w.joined in
          let closes : ClosesWell inner.levels context.mode false c =
          record { values = d.1.0; prefix = d.0; rest = 0 ∷ 0 ∷ z.1; pieces = d.1.1; more = tt; joined = d.2; deep = (z.1, refl) } in
          y.none (subst (λ m. ClosesWell inner.levels m false q.left.now) (sym f) (subst (λ u. ClosesWell inner.levels context.mode false u) (sym j) closes));
      at = x.item.header + y.at;
      place = omega (arith, i.offset, l, y.place);
      stops = stops_inside context.levels inner.levels context.mode k p.left.now (x.item.header + y.at) g (record {
        tag = t;
        not_end = i.not_end;
        contents = c;
        end = indefinite_end;
        opens = subst (λ b. OpensAt context.mode t b p.left.now c indefinite_end) (takes_constructed context.mode x.item.bit opens.taken) opens;
        header = x.item.header;
        counts = fits;
        further = y.at;
        place = refl;
        inner = stops;
      });
    }

-- the contents of a constructed element aren't elements
pub none_below : (context inner : Context) (i : Item) (p : Place) → i.bit ≡ Constructed → inner.mode ≡ context.mode → inner.levels + 1 ≡ context.levels →
    p.left.now ≡ i.contents.now → p.offset ≡ i.offset + i.header → (o : ℕ) (k : ASN1ErrorKind) → NotClosed inner p true o k → NoneBelow context i o k
none_below context inner i p e f g h l o k x = record {
  bit = e;
  levels = inner.levels;
  deeper = g;
  none = λ y. x.none (subst (λ c. ClosesWell inner.levels inner.mode true c) (sym h) (joining_closes inner.levels inner.mode i.contents.now
      (subst (λ m. IsJoining (IsWellFormed inner.levels m) i.contents.now) (sym f) y)));
  at = x.at;
  place = omega (arith, l, x.place);
  stops = subst (λ c. StopsIn inner.levels context.mode k true c x.at) h (subst (λ m. StopsIn inner.levels m k true p.left.now x.at) f x.stops);
}

-- where the contents of a string were promised to be elements they end
pub promised_closed : (context one two : Context) (p : Place) → one.mode ≡ context.mode → one.levels + 1 ≡ context.levels → two.mode ≡ context.mode →
    two.levels + 1 ≡ context.levels → IsJoining (IsWellFormed one.levels one.mode) p.left.now → (o : ℕ) (k : ASN1ErrorKind) → NotClosed two p true o k → ⊥
promised_closed context one two p e f g h x o k y =
    let i : one.levels ≡ two.levels = omega (arith, f, h) in
    let z = subst (λ m. IsJoining (IsWellFormed one.levels m) p.left.now) (e ∙ sym g) x in
    y.none (joining_closes two.levels two.mode p.left.now (subst (λ n. IsJoining (IsWellFormed n two.mode) p.left.now) i z))

-- where nothing is left there are no elements
pub none_in_nothing : (n : ℕ) (m : BERMode) (s : List ℕ) → length s ≡ 0 → NoElements n m s 0 Eof
none_in_nothing n m s e =
    let none : AreElements n m s → ⊥ = λ x. omega (arith, e, x.some) in
    record { none = none; not_raw = none_raw n m s none; stops = inl (empty_is s e, refl, refl) }

-- nor where an input doesn't end from its first place on
pub none_in_input : (context : Context) (m : BERMode) (p : Place) (s : List ℕ) → context.mode ≡ m → context.levels ≡ 101 → p.left.now ≡ s → p.offset ≡ 0 →
    (o : ℕ) (k : ASN1ErrorKind) → NotClosed context p true o k → NoElements 101 m s o k
none_in_input context m p s e f g h o k y =
    let one = subst (λ z. StopsIn context.levels z k true p.left.now y.at) e y.stops in
    let two = subst (λ z. StopsIn z m k true p.left.now y.at) f one in
    let three = subst (λ z. StopsIn 101 m k true z y.at) g two in
    let same : y.at ≡ o = omega (arith, h, y.place) in
    let none : AreElements 101 m s → ⊥ = λ x. (
    let i = subst (λ z. IsJoining (IsWellFormed 101 m) z) (sym g) x.joining in
    let j = subst (λ z. IsJoining (IsWellFormed z m) p.left.now) (sym f) i in
    y.none (joining_closes context.levels context.mode p.left.now (subst (λ z. IsJoining (IsWellFormed context.levels z) p.left.now) (sym e) j))) in
    let here = subst (λ z. StopsIn 101 m k true s z) same three in
    record {
      none = none;
      not_raw = none_raw 101 m s none;
      stops = inr (record { here = here; once = λ j q x. stops_once 101 m j k true s q o x here });
    }
