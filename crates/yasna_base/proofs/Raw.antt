-- The laws of reading of raw elements.
use Rattle.std.proofs.Common.{◌≡◌, ℕ, ◌≤◌, List, [], ◌∷◌, ◌++◌, length, refl, ap, ap₂, ◌∙◌, sym, arith, zero, suc, subst, append-nil, append_assoc}
use Rattle.yasna_base.specs.declared.mode.BERMode.{BERMode}
use Rattle.yasna_base.specs.declared.tag.PCBit.{PCBit}
use Rattle.yasna_base.specs.declared.tag.Tag.{Tag}
use Rattle.yasna_base.specs.Coding.{IsCoding, Any}
use Rattle.yasna_base.specs.Digits.{IsBytes}
use Rattle.yasna_base.specs.Element.{Element, definite, indefinite, end_of_contents}
use Rattle.yasna_base.specs.Header.{ContentsEnd, definite_end, indefinite_end, OpensAt}
use Rattle.yasna_base.specs.Identifier.{identifier, end_tag, begins, StartsElement, AtEnd, nothing}
use Rattle.yasna_base.specs.Pieces.{Pieces}
use Rattle.yasna_base.specs.Raw.{RawValue, DescendsInto, DescendsUpTo, IsJoining, RawFramed, with_length, with_zeros, RawOver, IsRaw, JoiningBefore, DeepRaw, IsDeepRaw, ContentsTo, IsPayload}
use Rattle.yasna_base.proofs.Coding.{equal_same}
use Rattle.yasna_base.proofs.Digits.{bytes_prefix}
use Rattle.yasna_base.proofs.Element.{definite_exact, definite_not_indefinite, indefinite_exact, counted_header, uncounted_header, element_starts}
use Rattle.yasna_base.specs.Length.{SpellsLength}
use Rattle.yasna_base.proofs.Identifier.{zeros_at_end}
use Rattle.yasna_base.proofs.Lists.{prefixes_same, append_before}
use Rattle.yasna_base.proofs.Pieces.{NoPrefix, no_prefix_at_end, starts_not_end, pieces_end, pieces_once, pieces_wider}

-- no level holds a raw element
pub raw_zero : (m : BERMode) (v : RawValue) (b : List ℕ) → IsRaw m zero v b → ⊥
unfolding IsRaw
raw_zero m v b x = x

-- an element over the levels below is raw with one more level
pub raw_of : (n : ℕ) (m : BERMode) (v : RawValue) (b : List ℕ) → RawOver (IsRaw m n) m v b → IsRaw m (suc n) v b
unfolding IsRaw
raw_of n m v b x = x

-- a raw element with one more level is over the levels below
pub raw_into : (n : ℕ) (m : BERMode) (v : RawValue) (b : List ℕ) → IsRaw m (suc n) v b → RawOver (IsRaw m n) m v b
unfolding IsRaw
raw_into n m v b x = x

-- where no level is left any element is too deep
pub deep_at_zero : (m : BERMode) (s : List ℕ) → StartsElement s → IsDeepRaw m zero s
unfolding IsDeepRaw
deep_at_zero m s x = x

pub deep_zero_into : (m : BERMode) (s : List ℕ) → IsDeepRaw m zero s → StartsElement s
unfolding IsDeepRaw
deep_zero_into m s x = x

-- where one is left, an element within is
pub deep_of : (n : ℕ) (m : BERMode) (s : List ℕ) → DeepRaw (IsRaw m n) (IsDeepRaw m n) m s → IsDeepRaw m (suc n) s
unfolding IsDeepRaw
deep_of n m s x = x

pub deep_into : (n : ℕ) (m : BERMode) (s : List ℕ) → IsDeepRaw m (suc n) s → DeepRaw (IsRaw m n) (IsDeepRaw m n) m s
unfolding IsDeepRaw
deep_into n m s x = x

-- the element with its contents, which the payload is or begins with
pub record RawElement (R : RawValue → List ℕ → Type 0) (m : BERMode) (v : RawValue) (b : List ℕ) : Type 0 where
  pub contents : List ℕ
  pub element : Element m v.tag v.bit contents b

element_framed : {R : RawValue → List ℕ → Type 0} {m : BERMode} (v : RawValue) (b : List ℕ) → RawOver R m v b → RawFramed R m v b → RawElement R m v b
element_framed v b x (with_length d j) =
    record { contents = v.payload; element = record { in_range = x.in_range; in_bytes = x.in_bytes; framed = definite d } }
element_framed v b x (with_zeros c i j e) =
    let b = bytes_prefix c end_of_contents (subst IsBytes e x.in_bytes) in
    record { contents = c; element = record { in_range = x.in_range; in_bytes = b; framed = indefinite i } }

-- a raw element is an element
pub raw_element : {R : RawValue → List ℕ → Type 0} {m : BERMode} (v : RawValue) (b : List ℕ) → RawOver R m v b → RawElement R m v b
raw_element v b x = element_framed v b x x.framed

over_starts : {R : RawValue → List ℕ → Type 0} {m : BERMode} (v : RawValue) (b : List ℕ) → RawOver R m v b → StartsElement b
over_starts {R} {m} v b x = let y = raw_element v b x in element_starts m v.tag v.bit y.contents b x.not_end y.element

-- it begins with an identifier, which isn't that of the end of contents
pub raw_starts : (n : ℕ) (m : BERMode) (v : RawValue) (b : List ℕ) → IsRaw m n v b → StartsElement b
raw_starts zero m v b x = absurd (raw_zero m v b x)
raw_starts (suc n) m v b x = over_starts v b (raw_into n m v b x)

framed_wider : {R S : RawValue → List ℕ → Type 0} (m : BERMode) → ((v : RawValue) (b : List ℕ) → R v b → S v b) → (v : RawValue) (b : List ℕ) →
    RawFramed R m v b → RawFramed S m v b
framed_wider m f v b (with_length d j) = with_length d (λ l. let p = j l in (p.0, pieces_wider f p.0 v.payload p.1))
framed_wider m f v b (with_zeros c i p e) = with_zeros c i (p.0, pieces_wider f p.0 c p.1) e

over_wider : {R S : RawValue → List ℕ → Type 0} (m : BERMode) → ((v : RawValue) (b : List ℕ) → R v b → S v b) → (v : RawValue) (b : List ℕ) →
    RawOver R m v b → RawOver S m v b
over_wider m f v b x = record { not_end = x.not_end; in_range = x.in_range; in_bytes = x.in_bytes; framed = framed_wider m f v b x.framed }

-- a raw element within some levels is one within more
pub raw_deeper : (n j : ℕ) (m : BERMode) (v : RawValue) (b : List ℕ) → n ≤ j → IsRaw m n v b → IsRaw m j v b
raw_deeper zero j m v b below x = absurd (raw_zero m v b x)
raw_deeper (suc n) zero m v b below x = absurd (omega (arith, below))
raw_deeper (suc n) (suc j) m v b below x =
    raw_of j m v b (over_wider m (λ w c. raw_deeper n j m w c (omega (arith, below))) v b (raw_into n m v b x))

-- equal tags, bits and payloads are equal values
pub same_raw : (v w : RawValue) → v.tag ≡ w.tag → v.bit ≡ w.bit → v.payload ≡ w.payload → v ≡ w
same_raw v w e f g =
    ap₂ (λ t p. record { tag = t; bit = p; payload = v.payload }) e f ∙ ap (λ c. record { tag = w.tag; bit = w.bit; payload = c }) g

framed_exact : {R S : RawValue → List ℕ → Type 0} (m : BERMode) → ((v w : RawValue) (b c r s : List ℕ) → R v b → S w c → b ++ r ≡ c ++ s → b ≡ c) →
    ((v : RawValue) (b : List ℕ) → R v b → StartsElement b) → ((v : RawValue) (b : List ℕ) → S v b → StartsElement b) →
    (v w : RawValue) (b c r s : List ℕ) → RawFramed R m v b → RawFramed S m w c → b ++ r ≡ c ++ s → (v ≡ w) × (b ≡ c)
framed_exact m prefix_free left right v w b c r s (with_length d j) (with_length e k) f =
    let i = definite_exact m m v.tag w.tag v.bit w.bit v.payload w.payload b c r s d e f in
    (same_raw v w i.tag i.bit i.contents, i.bytes)
framed_exact m prefix_free left right v w b c r s (with_length d j) (with_zeros y e k g) f =
    absurd (definite_not_indefinite m m v.tag w.tag v.bit w.bit v.payload y b c r s d e f)
framed_exact m prefix_free left right v w b c r s (with_zeros x d j h) (with_length e k) f =
    absurd (definite_not_indefinite m m w.tag v.tag w.bit v.bit w.payload x c b s r e d (sym f))
framed_exact m prefix_free left right v w b c r s (with_zeros x d j h) (with_zeros y e k g) f =
    let i = indefinite_exact m m v.tag w.tag v.bit w.bit x y b c r s d e
    (λ p q. pieces_end prefix_free left right j.0 k.0 x y _ _ j.1 k.1 (zeros_at_end (0 ∷ p)) (zeros_at_end (0 ∷ q))) f in
    (same_raw v w i.tag i.bit (h ∙ ap (λ z. z ++ end_of_contents) i.contents ∙ sym g), i.bytes)

-- of two raw elements neither begins the other, and equal bytes are equal elements
pub raw_exact : (n j : ℕ) (m : BERMode) (v w : RawValue) (b c r s : List ℕ) → IsRaw m n v b → IsRaw m j w c → b ++ r ≡ c ++ s → (v ≡ w) × (b ≡ c)
raw_exact zero j m v w b c r s x y e = absurd (raw_zero m v b x)
raw_exact (suc n) zero m v w b c r s x y e = absurd (raw_zero m w c y)
raw_exact (suc n) (suc j) m v w b c r s x y e =
    framed_exact m (λ v w b c r s x y e. (raw_exact n j m v w b c r s x y e).1) (raw_starts n m) (raw_starts j m) v w b c r s
    (raw_into n m v b x).framed (raw_into j m w c y).framed e

-- raw elements satisfy the laws of reading
pub raw_coding : IsCoding (λ v w. v ≡ w) IsRaw (Any IsRaw)
raw_coding = record {
  meaning = record {
    equal = equal_same;
    among = λ m n v b x. (v, x);
    exact = λ m n j v w b x y. (raw_exact n j m v w b b [] [] x y refl).0;
    deeper = λ m n j v b below. raw_deeper n j m v b below;
  };
  opens = λ m n b x. raw_starts n m x.0 b x.1;
  prefix_free = λ m n j b c r s x y e. (raw_exact n j m x.0 y.0 b c r s x.1 y.1 e).1;
}

-- a header with the contents c and this end is that of the raw element b, which ends before r
pub record OpensRaw (R : RawValue → List ℕ → Type 0) (m : BERMode) (t : Tag) (p : PCBit) (c : List ℕ) (e : ContentsEnd) (v : RawValue)
    (r : List ℕ) : Type 0 where
  pub tag : t ≡ v.tag
  pub bit : p ≡ v.bit
  pub inside : ContentsTo R m p c e r

opens_framed : {R : RawValue → List ℕ → Type 0} (m : BERMode) (t : Tag) (p : PCBit) (s c : List ℕ) (e : ContentsEnd) (v : RawValue) (b r : List ℕ) →
    OpensAt m t p s c e → RawFramed R m v b → s ≡ b ++ r → OpensRaw R m t p c e v r
opens_framed {R} m t p s c (definite_end z) v b r x (with_length d j) f =
    let i = counted_header m m t v.tag p v.bit (length c) x.l v.payload b (c ++ z) r x.spelled (definite d) (sym x.joined ∙ f) in
    let k = prefixes_same c v.payload z r i.count i.after in
    record { tag = i.tag; bit = i.bit; inside = (sym k.1, λ l. subst (λ y. IsJoining R y) (sym k.0) (j (subst (λ q. DescendsInto m q) i.bit l))) }
opens_framed m t p s c (definite_end z) v b r x (with_zeros y d j g) f =
    let i = counted_header m m t v.tag p v.bit (length c) x.l y b (c ++ z) r x.spelled (indefinite d) (sym x.joined ∙ f) in
    absurd (definite_not_indefinite m m v.tag v.tag v.bit v.bit y y b b r r i.element d refl)
opens_framed m t p s c indefinite_end v b r x (with_length d j) f =
    let i = uncounted_header m t v.tag p v.bit v.payload b c r (definite d) (sym x.joined ∙ f) in
    absurd (definite_not_indefinite m m v.tag v.tag v.bit v.bit v.payload v.payload b b r r d i.element refl)
opens_framed m t p s c indefinite_end v b r x (with_zeros y d j g) f =
    let i = uncounted_header m t v.tag p v.bit y b c r (indefinite d) (sym x.joined ∙ f) in
    record { tag = i.tag; bit = i.bit; inside = (y, j, i.after) }

-- where a raw element begins, a header is its own, and its contents end where it does
pub opens_raw : {R : RawValue → List ℕ → Type 0} (m : BERMode) (t : Tag) (p : PCBit) (s c : List ℕ) (e : ContentsEnd) (v : RawValue) (b r : List ℕ) →
    OpensAt m t p s c e → RawOver R m v b → s ≡ b ++ r → OpensRaw R m t p c e v r
opens_raw m t p s c e v b r x y f = opens_framed m t p s c e v b r x y.framed f

-- b is a raw element at the start of s, and r follows
pub record RawAt (R : RawValue → List ℕ → Type 0) (m : BERMode) (v : RawValue) (s r : List ℕ) : Type 0 where
  pub bytes : List ℕ
  pub raw : RawOver R m v bytes
  pub joined : s ≡ bytes ++ r

-- a header whose contents end before r begins a raw element that does
pub raw_ends : {R : RawValue → List ℕ → Type 0} (m : BERMode) (t : Tag) (p : PCBit) (s c : List ℕ) (e : ContentsEnd) (r y : List ℕ) → (t ≡ end_tag → ⊥) →
    OpensAt m t p s c e → ContentsTo R m p c e r → IsPayload c e r y → RawAt R m (record { tag = t; bit = p; payload = y }) s r
raw_ends {R} m t p s c (definite_end z) r y n x w f = record {
  bytes = identifier t p ++ (x.l ++ y);
  raw = record {
    not_end = n;
    in_range = x.in_range;
    in_bytes = subst IsBytes (sym f) x.in_bytes;
    framed = with_length (record { taken = x.taken; l = x.l; spelled = subst (λ k. SpellsLength m (length k) x.l) (sym f) x.spelled; joined = refl })
        (λ l. subst (λ k. IsJoining R k) (sym f) (w.1 l));
  };
  joined = x.joined ∙ ap₂ (λ a k. identifier t p ++ (x.l ++ (a ++ k))) (sym f) (sym w.0) ∙ simp append_assoc;
}
raw_ends m t p s c indefinite_end r y n x w f =
    let g : y ++ r ≡ (w.0 ++ end_of_contents) ++ r = sym f ∙ w.2 ∙ simp append_assoc in
    let e = (append_before y (w.0 ++ end_of_contents) r g) in
    record {
      bytes = identifier t p ++ (128 ∷ (w.0 ++ end_of_contents));
      raw = record {
        not_end = n;
        in_range = x.in_range;
        in_bytes = bytes_prefix y r (subst IsBytes f x.in_bytes);
        framed = with_zeros w.0 (record { taken = x.taken; joined = refl }) w.1 e;
      };
      joined = x.joined ∙ ap (λ k. identifier t p ++ (128 ∷ k)) w.2 ∙ simp append_assoc;
    }

-- a header begins with its identifier
pub opens_starts : (m : BERMode) (t : Tag) (p : PCBit) (s c : List ℕ) (e : ContentsEnd) → (t ≡ end_tag → ⊥) → OpensAt m t p s c e → StartsElement s
opens_starts m t p s c (definite_end z) n x = record { tag = t; in_range = x.in_range; not_end = n; begins = begins p _ x.joined }
opens_starts m t p s c indefinite_end n x = record { tag = t; in_range = x.in_range; not_end = n; begins = begins p _ x.joined }

-- what starts an element is nowhere but after all pieces
deep_inside : {R : RawValue → List ℕ → Type 0} {D : List ℕ → Type 0} (m : BERMode) →
    ((v w : RawValue) (b c r s : List ℕ) → R v b → R w c → b ++ r ≡ c ++ s → b ≡ c) → ((v : RawValue) (b : List ℕ) → R v b → StartsElement b) →
    ((x : List ℕ) → D x → StartsElement x) → ((x : List ℕ) → D x → NoPrefix R x) → (vs : List RawValue) (d c r : List ℕ) → Pieces R vs d → AtEnd r →
    JoiningBefore R D c → c ≡ d ++ r → ⊥
deep_inside m prefix_free starts first unambiguous vs d c r p i x e =
    let f = pieces_once prefix_free x.values vs x.prefix d x.rest r x.pieces p (unambiguous x.rest x.deep) (no_prefix_at_end starts r i) (sym x.joined ∙ e) in
    starts_not_end x.rest [] r (first x.rest x.deep) i (sym f.1 ∙ sym (append-nil x.rest))

-- contents with something too deep inside don't end
deep_not_to : {R : RawValue → List ℕ → Type 0} {D : List ℕ → Type 0} (m : BERMode) →
    ((v w : RawValue) (b c r s : List ℕ) → R v b → R w c → b ++ r ≡ c ++ s → b ≡ c) → ((v : RawValue) (b : List ℕ) → R v b → StartsElement b) →
    ((x : List ℕ) → D x → StartsElement x) → ((x : List ℕ) → D x → NoPrefix R x) → (p : PCBit) (c : List ℕ) (e : ContentsEnd) (r : List ℕ) →
    DescendsUpTo m p e → JoiningBefore R D c → ContentsTo R m p c e r → ⊥
deep_not_to m prefix_free starts first unambiguous p c (definite_end z) r l x w =
    let j = w.1 l in deep_inside m prefix_free starts first unambiguous j.0 c c [] j.1 (nothing refl) x (sym (append-nil c))
deep_not_to m prefix_free starts first unambiguous p c indefinite_end r l x w =
    deep_inside m prefix_free starts first unambiguous w.1.0 w.0 c (0 ∷ 0 ∷ r) w.1.1 (zeros_at_end (0 ∷ r)) x w.2

-- what is too deep begins with an identifier, which isn't that of the end of contents
pub deep_starts : (n : ℕ) (m : BERMode) (s : List ℕ) → IsDeepRaw m n s → StartsElement s
deep_starts zero m s x = deep_zero_into m s x
deep_starts (suc n) m s x =
    let y = deep_into n m s x in
    opens_starts m y.tag y.bit s y.contents y.end y.not_end y.opens

-- where it is too deep no front is a raw element
pub deep_not_raw : (n : ℕ) (m : BERMode) (s : List ℕ) → IsDeepRaw m n s → NoPrefix (IsRaw m n) s
deep_not_raw zero m s d v b r x e = raw_zero m v b x
deep_not_raw (suc n) m s d v b r x e =
    let y = deep_into n m s d in
    let i = opens_raw m y.tag y.bit s y.contents y.end v b r y.opens (raw_into n m v b x) e in
    deep_not_to m (λ u w c g y z p q i. (raw_exact n n m u w c g y z p q i).1) (raw_starts n m) (deep_starts n m) (deep_not_raw n m)
    y.bit y.contents y.end r y.descends y.inside i.inside
