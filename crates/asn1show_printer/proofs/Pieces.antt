-- The elements that contents begin with are known one by one.
use Rattle.std.proofs.Common.{subst, ◌≡◌, ◌↔◌, ◌<◌, ◌≤◌, ℕ, List, [], ◌∷◌, length, true, false, inl, inr, refl, sym, ap, ◌∙◌, arith, length-append}
use Rattle.std.specs.Prelude.{Bool, IsTrue, ◌⊎◌}
use Rattle.yasna_base.specs.declared.mode.BERMode.TheVariants.{Ber}
use Rattle.yasna_base.specs.Grammar.{max_depth}
use Rattle.yasna_base.proofs.Identifier.{begins_some}
use Rattle.yasna_base.proofs.Raw.{raw_exact, raw_starts}
use Rattle.yasna_base.proofs.Lists.{prefixes_same}
use Rattle.asn1show_printer.specs.declared.sets.SetOrder.{SetOrder}
use Rattle.asn1show_printer.specs.Pieces.{RawPiece, Begins, BeginsNone, ArePieces, no_more, one_more, Ascend, may_follow, AreSegments, AreCerSegments, IsFullSegment, IsLastSegment}

-- the pieces after the first one
pub record Continue (p : RawPiece) (r : List ℕ) (ps : List RawPiece) : Type 0 where
  pub others : List RawPiece
  pub is : ps ≡ p ∷ others
  pub are : ArePieces r others

begins_once : (s r t : List ℕ) (p q : RawPiece) → Begins s p r → Begins s q t → (p ≡ q) × (r ≡ t)
begins_once s r t p q x y =
    let same = raw_exact max_depth max_depth Ber p.value q.value p.octets q.octets r t x.raw y.raw (sym x.joined ∙ y.joined) in
    let rest = prefixes_same p.octets q.octets r t (ap length same.1) (sym x.joined ∙ y.joined) in
    (same_piece p q same.0 same.1, rest.1)
  where
    same_piece : (v w : RawPiece) → v.value ≡ w.value → v.octets ≡ w.octets → v ≡ w
    same_piece v w e f i = record { value = e i; octets = f i }

-- where a first element is known, it is the first of the pieces
pub pieces_begin : (s r : List ℕ) (p : RawPiece) (ps : List RawPiece) → Begins s p r → ArePieces s ps → Continue p r ps
pieces_begin s r p ps x (no_more none) = absurd (none (p.value, r, record { prefix = p.octets; joined = x.joined; member = x.raw }))
pieces_begin s r p ps x (one_more {r = t} {p = q} {ps = others} y are) =
    let same = begins_once s r t p q x y in
    record { others = others; is = ap (λ z. z ∷ others) (sym same.0); are = subst (λ z. ArePieces z others) (sym same.1) are }

-- where no element is first, there are none
pub pieces_end : (s : List ℕ) (ps : List RawPiece) → BeginsNone s → ArePieces s ps → ps ≡ []
pieces_end s ps none (no_more more) = refl
pieces_end s ps none (one_more {r = r} {p = p} x are) = absurd (none (p.value, r, record { prefix = p.octets; joined = x.joined; member = x.raw }))

-- what is after a first element is shorter
pub piece_shorter : (s r : List ℕ) (p : RawPiece) → Begins s p r → length r < length s
piece_shorter s r p x =
    let y = raw_starts max_depth Ber p.value p.octets x.raw in
    let l = begins_some y.tag p.octets y.begins in
    omega (arith, l, ap length x.joined, length-append p.octets r)

-- all pieces ascend exactly if those from one on do, after which these are left
abbrev pub AscendsFrom : SetOrder → List ℕ → RawPiece → List ℕ → Type 0
AscendsFrom o c last left = (ps : List RawPiece) → ArePieces c ps → (qs : List RawPiece) × (are : ArePieces left qs) × (Ascend o ps ↔ Ascend o (last ∷ qs))

pub ascends_first : (o : SetOrder) (c r : List ℕ) (p : RawPiece) → Begins c p r → AscendsFrom o c p r
ascends_first o c r p x ps are =
    let k = pieces_begin c r p ps x are in
    (k.others, k.are, (λ h. subst (Ascend o) k.is h, λ h. subst (Ascend o) (sym k.is) h))

pub ascends_next : (o : SetOrder) (c left r : List ℕ) (p q : RawPiece) → AscendsFrom o c p left → Begins left q r → may_follow o p q ≡ true →
    AscendsFrom o c q r
ascends_next o c left r p q from x follows ps are =
    let f = from ps are in
    let k = pieces_begin left r q f.0 x f.1 in
    let P : List RawPiece → Type 0 = λ z. Ascend o (p ∷ z) in
    (k.others, k.are, (λ h. (subst P k.is (f.2.0 h)).1, λ h. f.2.1 (subst P (sym k.is) (follows, h))))

pub ascends_not : (o : SetOrder) (c left r : List ℕ) (p q : RawPiece) → AscendsFrom o c p left → Begins left q r → may_follow o p q ≡ false →
    (ps : List RawPiece) → ArePieces c ps → IsTrue false ↔ Ascend o ps
ascends_not o c left r p q from x other ps are =
    let f = from ps are in
    let k = pieces_begin left r q f.0 x f.1 in
    let P : List RawPiece → Type 0 = λ z. Ascend o (p ∷ z) in
    (λ no. absurd (cc), λ h. let e = sym other ∙ (subst P k.is (f.2.0 h)).0 in absurd (cc))

pub ascends_end : (o : SetOrder) (c left : List ℕ) (p : RawPiece) → AscendsFrom o c p left → BeginsNone left → (ps : List RawPiece) → ArePieces c ps →
    IsTrue true ↔ Ascend o ps
ascends_end o c left p from none ps are =
    let f = from ps are in
    let P : List RawPiece → Type 0 = λ z. Ascend o (p ∷ z) in
    (λ e. f.2.1 (subst P (sym (pieces_end left f.0 none f.1)) tt), λ h. refl)

-- contents are segments exactly if the last piece and those after it are, of which these are left, and there are two or more
abbrev pub CutFrom : List ℕ → RawPiece → List ℕ → Bool → Type 0
CutFrom c last left is_cut = (ps : List RawPiece) → ArePieces c ps →
    (qs : List RawPiece) × (are : ArePieces left qs) × (AreCerSegments ps ↔ ((IsTrue is_cut ⊎ (1 ≤ length qs)) × AreSegments (last ∷ qs)))

pub cut_first : (c r : List ℕ) (p : RawPiece) → Begins c p r → CutFrom c p r false
cut_first c r p x ps are =
    let k = pieces_begin c r p ps x are in (
      k.others,
      k.are,
      (
        λ h. let g = subst AreCerSegments k.is h in (inr (omega (arith, g.several)), g.segments),
        λ h. subst AreCerSegments (sym k.is) (record { several = two k.others h.0; segments = h.1 }),
      ),
    )
  where
    two : (qs : List RawPiece) → (IsTrue false ⊎ (1 ≤ length qs)) → 2 ≤ length (p ∷ qs)
    two qs (inl never) = absurd (cc)
    two qs (inr some) = omega (arith, some)

pub cut_next : (c left r : List ℕ) (p q : RawPiece) (is_cut : Bool) → CutFrom c p left is_cut → Begins left q r → IsFullSegment p → CutFrom c q r true
cut_next c left r p q is_cut from x full ps are =
    let f = from ps are in
    let k = pieces_begin left r q f.0 x f.1 in
    let P : List RawPiece → Type 0 = λ z. (IsTrue is_cut ⊎ (1 ≤ length z)) × AreSegments (p ∷ z) in (
      k.others,
      k.are,
      (
        λ h. (inl refl, (subst P k.is (f.2.0 h)).1.1),
        λ h. f.2.1 (subst P (sym k.is) (inr (omega arith), (full, h.1))),
      ),
    )

pub cut_not : (c left r : List ℕ) (p q : RawPiece) (is_cut : Bool) → CutFrom c p left is_cut → Begins left q r → (IsFullSegment p → ⊥) →
    (ps : List RawPiece) → ArePieces c ps → IsTrue false ↔ AreCerSegments ps
cut_not c left r p q is_cut from x other ps are =
    let f = from ps are in
    let k = pieces_begin left r q f.0 x f.1 in
    let P : List RawPiece → Type 0 = λ z. (IsTrue is_cut ⊎ (1 ≤ length z)) × AreSegments (p ∷ z) in
    (λ no. absurd (cc), λ h. absurd (other (subst P k.is (f.2.0 h)).1.0))

pub cut_end : (c left : List ℕ) (p : RawPiece) (is_cut result : Bool) → CutFrom c p left is_cut → BeginsNone left → is_cut ≡ true →
    IsTrue result ↔ IsLastSegment p → (ps : List RawPiece) → ArePieces c ps → IsTrue result ↔ AreCerSegments ps
cut_end c left p is_cut result from none cut last ps are =
    let f = from ps are in
    let P : List RawPiece → Type 0 = λ z. (IsTrue is_cut ⊎ (1 ≤ length z)) × AreSegments (p ∷ z) in
    let is = pieces_end left f.0 none f.1 in
    (λ e. f.2.1 (subst P (sym is) (inl cut, last.0 e)), λ h. last.1 (subst P is (f.2.0 h)).1)

pub cut_once : (c left : List ℕ) (p : RawPiece) (is_cut : Bool) → CutFrom c p left is_cut → BeginsNone left → is_cut ≡ false →
    (ps : List RawPiece) → ArePieces c ps → IsTrue false ↔ AreCerSegments ps
cut_once c left p is_cut from none whole ps are =
    let f = from ps are in
    let P : List RawPiece → Type 0 = λ z. (IsTrue is_cut ⊎ (1 ≤ length z)) × AreSegments (p ∷ z) in
    (λ no. absurd (cc), λ h. absurd (none_cut (subst P (pieces_end left f.0 none f.1) (f.2.0 h)).0))
  where
    none_cut : (IsTrue is_cut ⊎ (1 ≤ 0)) → ⊥
    none_cut (inl yes_cut) = absurd (cc)
    none_cut (inr some) = absurd (omega (arith, some))

pub cut_none : (c : List ℕ) → BeginsNone c → (ps : List RawPiece) → ArePieces c ps → IsTrue false ↔ AreCerSegments ps
cut_none c none ps are = (λ no. absurd (cc), λ h. let g = subst AreCerSegments (pieces_end c ps none are) h in absurd (omega (arith, g.several)))
