-- Where well-formed elements stop: none is there, and they stop nowhere else.
use Rattle.std.proofs.Common.{◌≡◌, ◌≤◌, ℕ, zero, suc, Bool, true, false, List, [], ◌∷◌, ◌++◌, length, refl, sym, ap, ◌∙◌, subst, append-nil, length-append, arith}
use Rattle.yasna_base.specs.declared.error.ASN1ErrorKind.{ASN1ErrorKind}
use Rattle.yasna_base.specs.declared.mode.BERMode.{BERMode}
use Rattle.yasna_base.specs.declared.tag.PCBit.{PCBit}
use Rattle.yasna_base.specs.declared.tag.PCBit.TheVariants.{Constructed}
use Rattle.yasna_base.specs.declared.tag.Tag.{Tag}
use Rattle.yasna_base.specs.Element.{definite, indefinite}
use Rattle.yasna_base.specs.Header.{ContentsEnd, definite_end, indefinite_end, OpensAt}
use Rattle.yasna_base.specs.Identifier.{AtEnd, nothing}
use Rattle.yasna_base.specs.Raw.{RawValue, IsJoining}
use Rattle.yasna_base.proofs.Element.{counted_header, uncounted_header, definite_not_indefinite}
use Rattle.yasna_base.proofs.Header.{header_once}
use Rattle.yasna_base.proofs.Identifier.{zeros_at_end}
use Rattle.yasna_base.proofs.Lists.{prefixes_same}
use Rattle.yasna_base.proofs.Pieces.{NoPrefix, no_prefix_at_end, pieces_once}
use Rattle.yasna_base.proofs.Raw.{raw_exact}
use Rattle.yasna_bytes.specs.Walk.{following}
use Rattle.yasna_bytes.proofs.RawHeader.{opens_header, opens_range}
use Rattle.yasna_bytes.proofs.WalkSteps.{no_raw}
use Rattle.asn1show_walk.specs.Stops.{HeaderMissing, is_counted, StopsInside, StopsElement, at_header, inside, StopsAfter, StopsOne, StopsIn}
use Rattle.asn1show_walk.specs.WellFormed.{with_length, with_zeros, WellFramed, WellFormedOver, IsWellFormed, EndsHere, ClosesWell}
use Rattle.asn1show_walk.proofs.WellFormed.{formed_zero, formed_into, formed_raw, formed_starts}

-- an end of contents is no element
pub ends_at_end : (w : Bool) (s : List ℕ) → EndsHere w s → AtEnd s
ends_at_end true s x = nothing x
ends_at_end false s x = subst AtEnd (sym x.1) (zeros_at_end (0 ∷ x.0))

-- elements one after the other are counted contents
pub joining_closes : (n : ℕ) (m : BERMode) (s : List ℕ) → IsJoining (IsWellFormed n m) s → ClosesWell n m true s
joining_closes n m s x = record { values = x.0; prefix = s; rest = []; pieces = x.1; more = tt; joined = sym (append-nil s); deep = refl }

-- contents of definite length after the header of a constructed element are elements, where one begins there
pub counted_inside : {R : RawValue → List ℕ → Type 0} (m : BERMode) (t : Tag) (p : PCBit) (s c z : List ℕ) (v : RawValue) (b r : List ℕ) →
    OpensAt m t p s c (definite_end z) → WellFramed R m v b → s ≡ b ++ r → p ≡ Constructed → IsJoining R c
counted_inside {R} m t p s c z v b r x (with_length d j) f e =
    let i = counted_header m m t v.tag p v.bit (length c) x.l v.payload b (c ++ z) r x.spelled (definite d) (sym x.joined ∙ f) in
    let k = prefixes_same c v.payload z r i.count i.after in
    subst (λ y. IsJoining R y) (sym k.0) (j (sym i.bit ∙ e))
counted_inside m t p s c z v b r x (with_zeros y d j g) f e =
    let i = counted_header m m t v.tag p v.bit (length c) x.l y b (c ++ z) r x.spelled (indefinite d) (sym x.joined ∙ f) in
    absurd (definite_not_indefinite m m v.tag v.tag v.bit v.bit y y b b r r i.element d refl)

-- contents of indefinite length after the header of an element are elements and two zeros, where one begins there
pub uncounted_inside : {R : RawValue → List ℕ → Type 0} (m : BERMode) (t : Tag) (p : PCBit) (s c : List ℕ) (v : RawValue) (b r : List ℕ) →
    OpensAt m t p s c indefinite_end → WellFramed R m v b → s ≡ b ++ r → (d : List ℕ) × IsJoining R d × (c ≡ d ++ (0 ∷ 0 ∷ r))
uncounted_inside m t p s c v b r x (with_length d j) f =
    let i = uncounted_header m t v.tag p v.bit v.payload b c r (definite d) (sym x.joined ∙ f) in
    absurd (definite_not_indefinite m m v.tag v.tag v.bit v.bit v.payload v.payload b b r r d i.element refl)
uncounted_inside m t p s c v b r x (with_zeros y d j g) f =
    let i = uncounted_header m t v.tag p v.bit y b c r (indefinite d) (sym x.joined ∙ f) in
    (y, j, i.after)

-- of two elements neither begins the other
prefix_free : (n : ℕ) (m : BERMode) (v w : RawValue) (b c r s : List ℕ) → IsWellFormed n m v b → IsWellFormed n m w c → b ++ r ≡ c ++ s → b ≡ c
prefix_free n m v w b c r s x y e = (raw_exact n n m v w b c r s (formed_raw n m v b x) (formed_raw n m w c y) e).1

-- contents in which elements stop don't end
after_open : (n : ℕ) (m : BERMode) (Next : List ℕ → ℕ → Type 0) → ((s : List ℕ) (at : ℕ) → Next s at → NoPrefix (IsWellFormed n m) s) → (w : Bool) (s : List ℕ)
    (at : ℕ) → StopsAfter (IsWellFormed n m) Next w s at → ClosesWell n m w s → ⊥
after_open n m Next f w s at x y =
    let i = pieces_once (prefix_free n m) x.values y.values x.prefix y.prefix x.rest y.rest x.pieces y.pieces (f x.rest x.further x.next)
    (no_prefix_at_end (formed_starts n m) y.rest (ends_at_end w y.rest y.deep)) (sym x.joined ∙ y.joined) in
    x.goes_on (subst (EndsHere w) (sym (i.1)) y.deep)

inside_by : (n : ℕ) (m : BERMode) (Next : List ℕ → ℕ → Type 0) → ((s : List ℕ) (at : ℕ) → Next s at → NoPrefix (IsWellFormed n m) s) → (t : Tag)
    (s c : List ℕ) (e : ContentsEnd) (at : ℕ) → OpensAt m t Constructed s c e → StopsAfter (IsWellFormed n m) Next (is_counted e) c at → (v : RawValue)
    (b r : List ℕ) → WellFormedOver (IsWellFormed n m) m v b → s ≡ b ++ r → ⊥
inside_by n m Next f t s c (definite_end z) at o x v b r y g =
    after_open n m Next f true c at x (joining_closes n m c (counted_inside m t Constructed s c z v b r o y.framed g refl))
inside_by n m Next f t s c indefinite_end at o x v b r y g =
    let d = uncounted_inside m t Constructed s c v b r o y.framed g in
    after_open n m Next f false c at x
    (record { values = d.1.0; prefix = d.0; rest = 0 ∷ 0 ∷ r; pieces = d.1.1; more = tt; joined = d.2; deep = (r, refl) })

element_none : (n : ℕ) (m : BERMode) (k : ASN1ErrorKind) (Next : List ℕ → ℕ → Type 0) → ((s : List ℕ) (at : ℕ) → Next s at → NoPrefix (IsWellFormed n m) s) →
    (s : List ℕ) (at : ℕ) → StopsElement (StopsAfter (IsWellFormed n m) Next) m (suc n) k s at → NoPrefix (IsWellFormed (suc n) m) s
element_none n m k Next f s at (at_header e x) v b r y g = no_raw m (suc n) s x.none v b r (formed_raw (suc n) m v b y) g
element_none n m k Next f s at (inside x) v b r y g =
    inside_by n m Next f x.tag s x.contents x.end x.further x.opens x.inner v b r (formed_into n m v b y) g

-- where one stops none is there
one_none : (n : ℕ) (m : BERMode) (k : ASN1ErrorKind) (s : List ℕ) (at : ℕ) → StopsOne n m k s at → NoPrefix (IsWellFormed n m) s
unfolding StopsOne
one_none zero m k s at x v b r y g = formed_zero m v b y
one_none (suc n) m k s at x v b r y g = element_none n m k (StopsOne n m k) (one_none n m k) s at x v b r y g

-- two places where elements stop are one if those are where the next one does
after_once : (n : ℕ) (m : BERMode) (P Q : List ℕ → ℕ → Type 0) → ((s : List ℕ) (a : ℕ) → P s a → NoPrefix (IsWellFormed n m) s) →
    ((s : List ℕ) (a : ℕ) → Q s a → NoPrefix (IsWellFormed n m) s) → ((s : List ℕ) (a b : ℕ) → P s a → Q s b → a ≡ b) → (w : Bool) (s : List ℕ) (a b : ℕ) →
    StopsAfter (IsWellFormed n m) P w s a → StopsAfter (IsWellFormed n m) Q w s b → a ≡ b
after_once n m P Q f g h w s a b x y =
    let i = pieces_once (prefix_free n m) x.values y.values x.prefix y.prefix x.rest y.rest x.pieces y.pieces (f x.rest x.further x.next)
    (g y.rest y.further y.next) (sym x.joined ∙ y.joined) in
    let j = h y.rest x.further y.further (subst (λ z. P z x.further) (i.1) x.next) y.next in
    let k = ap length (sym x.joined ∙ y.joined) in
    omega (arith, x.place, y.place, j, ap length (i.1), k, length-append x.prefix x.rest, length-append y.prefix y.rest)

inside_once : (I J : Bool → List ℕ → ℕ → Type 0) (m : BERMode) (s : List ℕ) (a b : ℕ) →
    ((w : Bool) (c : List ℕ) (a b : ℕ) → I w c a → J w c b → a ≡ b) → StopsInside I m s a → StopsInside J m s b → a ≡ b
inside_once I J m s a b h x y =
    let i = header_once m x.tag y.tag Constructed Constructed s x.contents y.contents x.end y.end x.opens y.opens in
    let p = subst (λ e. I (is_counted e) y.contents x.further) i.end (subst (λ c. I (is_counted x.end) c x.further) i.contents x.inner) in
    let j = h (is_counted y.end) y.contents x.further y.further p y.inner in
    omega (arith, x.place, y.place, j, x.counts, y.counts, ap length i.contents, ap (λ e. length (following e)) i.end)

-- where a header is none is lacking
inside_header : (I : Bool → List ℕ → ℕ → Type 0) (m : BERMode) (n : ℕ) (k : ASN1ErrorKind) (s : List ℕ) (at : ℕ) → 1 ≤ n → StopsInside I m s at →
    HeaderMissing m n k s → ⊥
inside_header I m n k s at l x y =
    y.none x.tag (opens_range m x.tag Constructed s x.contents x.end x.opens) x.not_end
    (opens_header m n x.tag Constructed s x.contents x.end l x.opens)

element_once : (I J : Bool → List ℕ → ℕ → Type 0) (m : BERMode) (n : ℕ) (j k : ASN1ErrorKind) (s : List ℕ) (a b : ℕ) → 1 ≤ n →
    ((w : Bool) (c : List ℕ) (a b : ℕ) → I w c a → J w c b → a ≡ b) → StopsElement I m n j s a → StopsElement J m n k s b → a ≡ b
element_once I J m n j k s a b l h (at_header e x) (at_header f y) = e ∙ sym f
element_once I J m n j k s a b l h (at_header e x) (inside y) = absurd (inside_header J m n j s b l y x)
element_once I J m n j k s a b l h (inside x) (at_header f y) = absurd (inside_header I m n k s a l x y)
element_once I J m n j k s a b l h (inside x) (inside y) = inside_once I J m s a b h x y

last_once : (m : BERMode) (j k : ASN1ErrorKind) (s : List ℕ) (a b : ℕ) → StopsElement (λ w c d. ⊥) m zero j s a →
    StopsElement (λ w c d. ⊥) m zero k s b → a ≡ b
last_once m j k s a b (at_header e x) (at_header f y) = e ∙ sym f
last_once m j k s a b (inside x) y = absurd x.inner
last_once m j k s a b (at_header e x) (inside y) = absurd y.inner

-- an element stops at one place
one_once : (n : ℕ) (m : BERMode) (j k : ASN1ErrorKind) (s : List ℕ) (a b : ℕ) → StopsOne n m j s a → StopsOne n m k s b → a ≡ b
unfolding StopsOne
one_once zero m j k s a b x y = last_once m j k s a b x y
one_once (suc n) m j k s a b x y =
    element_once (StopsAfter (IsWellFormed n m) (StopsOne n m j)) (StopsAfter (IsWellFormed n m) (StopsOne n m k)) m (suc n) j k s a b (omega arith)
    (λ w c d e. after_once n m (StopsOne n m j) (StopsOne n m k) (one_none n m j) (one_none n m k) (one_once n m j k) w c d e) x y

-- elements one after the other stop at one place
pub stops_once : (n : ℕ) (m : BERMode) (j k : ASN1ErrorKind) (w : Bool) (s : List ℕ) (a b : ℕ) → StopsIn n m j w s a → StopsIn n m k w s b → a ≡ b
stops_once n m j k w s a b x y =
    after_once n m (StopsOne n m j) (StopsOne n m k) (one_none n m j) (one_none n m k) (one_once n m j k) w s a b x y
