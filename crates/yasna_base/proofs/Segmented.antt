-- The laws of strings, however they are cut.
use Rattle.std.proofs.Common.{◌≡◌, ℕ, ◌≤◌, List, [], ◌++◌, length, refl, ap, ◌∙◌, sym, arith, zero, suc, subst, ◌∷◌}
use Rattle.yasna_base.specs.declared.mode.BERMode.{BERMode}
use Rattle.yasna_base.specs.declared.tag.PCBit.TheVariants.{Primitive, Constructed}
use Rattle.yasna_base.specs.declared.tag.Tag.{Tag}
use Rattle.yasna_base.specs.Coding.{IsCoding, Any}
use Rattle.yasna_base.specs.Segmented.{Segmentation, Segmented, whole, in_segments, IsSegmented, DeepSegmented, IsDeepSegmented, segment_mode, StaysWhole}
use Rattle.yasna_base.specs.Identifier.{end_tag, BeginsWithTag, StartsElement, AtEnd, nothing}
use Rattle.yasna_base.specs.Pieces.{Each, Pieces}
use Rattle.yasna_base.proofs.Coding.{equal_same}
use Rattle.yasna_base.proofs.Element.{element_exact, primitive_exact, element_begins, element_starts}
use Rattle.yasna_base.proofs.Header.{opens_begins, header_of, end_after}
use Rattle.yasna_base.proofs.Pieces.{NoPrefix, no_prefix_at_end, tag_not_end, pieces_end, pieces_once, each_same, each_equal, pieces_wider}
use Rattle.std.specs.List.{AllByRecursion}
use Rattle.yasna_base.specs.Digits.{IsBytes}
use Rattle.yasna_base.specs.Element.{Element}

-- contents say one value, segments make one, and a segment has not the tag of the end of contents
pub record SegmentsOnce {A : Type 0} (k : Segmentation A) : Type 0 where
  pub whole : (m : BERMode) (v w : A) (c : List ℕ) → k.whole m v c → k.whole m w c → v ≡ w
  pub join : (m : BERMode) (vs : List A) (v w : A) → k.join m vs v → k.join m vs w → v ≡ w
  pub segment : k.segment ≡ end_tag → ⊥

-- no level holds a string
pub segmented_zero : {A : Type 0} (k : Segmentation A) (m : BERMode) (t : Tag) (v : A) (b : List ℕ) → IsSegmented k t m zero v b → ⊥
unfolding IsSegmented
segmented_zero k m t v b x = x

-- a string that is whole or in segments of the levels below is a string with one more level
pub segmented_of : {A : Type 0} (k : Segmentation A) (n : ℕ) (m : BERMode) (t : Tag) (v : A) (b : List ℕ) →
    Segmented k (IsSegmented k k.segment (segment_mode m) n) m t v b →
    IsSegmented k t m (suc n) v b
unfolding IsSegmented
segmented_of k n m t v b x = x

-- a string with one more level is whole or in segments of the levels below
pub segmented_into : {A : Type 0} (k : Segmentation A) (n : ℕ) (m : BERMode) (t : Tag) (v : A) (b : List ℕ) → IsSegmented k t m (suc n) v b →
    Segmented k (IsSegmented k k.segment (segment_mode m) n) m t v b
unfolding IsSegmented
segmented_into k n m t v b x = x

-- where no level is left the wanted tag is too deep
pub deep_at_zero : {A : Type 0} (k : Segmentation A) (m : BERMode) (t : Tag) (s : List ℕ) → BeginsWithTag t s → IsDeepSegmented k t m zero s
unfolding IsDeepSegmented
deep_at_zero k m t s x = x

pub deep_zero_into : {A : Type 0} (k : Segmentation A) (m : BERMode) (t : Tag) (s : List ℕ) → IsDeepSegmented k t m zero s → BeginsWithTag t s
unfolding IsDeepSegmented
deep_zero_into k m t s x = x

-- where one is left, a segment within is
pub deep_of : {A : Type 0} (k : Segmentation A) (n : ℕ) (m : BERMode) (t : Tag) (s : List ℕ) →
    DeepSegmented k (IsSegmented k k.segment (segment_mode m) n) (IsDeepSegmented k k.segment (segment_mode m) n) m t s → IsDeepSegmented k t m (suc n) s
unfolding IsDeepSegmented
deep_of k n m t s x = x

pub deep_into : {A : Type 0} (k : Segmentation A) (n : ℕ) (m : BERMode) (t : Tag) (s : List ℕ) → IsDeepSegmented k t m (suc n) s →
    DeepSegmented k (IsSegmented k k.segment (segment_mode m) n) (IsDeepSegmented k k.segment (segment_mode m) n) m t s
unfolding IsDeepSegmented
deep_into k n m t s x = x

-- a string begins with its tag
segmented_first : {A : Type 0} (k : Segmentation A) {R : A → List ℕ → Type 0} (m : BERMode) (t : Tag) (v : A) (b : List ℕ) → Segmented k R m t v b →
    BeginsWithTag t b
segmented_first k m t v b (whole c x p a) = element_begins m t Primitive c b x
segmented_first k m t v b (in_segments h c vs x p j a) = element_begins m t Constructed c b x

pub segmented_begins : {A : Type 0} (k : Segmentation A) (n : ℕ) (m : BERMode) (t : Tag) (v : A) (b : List ℕ) → IsSegmented k t m n v b → BeginsWithTag t b
segmented_begins k zero m t v b x = absurd (segmented_zero k m t v b x)
segmented_begins k (suc n) m t v b x = segmented_first k m t v b (segmented_into k n m t v b x)

segmented_opens : {A : Type 0} (k : Segmentation A) {R : A → List ℕ → Type 0} (m : BERMode) (t : Tag) (v : A) (b : List ℕ) → (t ≡ end_tag → ⊥) →
    Segmented k R m t v b → StartsElement b
segmented_opens k m t v b not_end (whole c x p a) = element_starts m t Primitive c b not_end x
segmented_opens k m t v b not_end (in_segments h c vs x p j a) = element_starts m t Constructed c b not_end x

-- a string doesn't begin with the end of contents
pub segmented_starts : {A : Type 0} (k : Segmentation A) (n : ℕ) (m : BERMode) (t : Tag) (v : A) (b : List ℕ) → (t ≡ end_tag → ⊥) → IsSegmented k t m n v b →
    StartsElement b
segmented_starts k zero m t v b not_end x = absurd (segmented_zero k m t v b x)
segmented_starts k (suc n) m t v b not_end x = segmented_opens k m t v b not_end (segmented_into k n m t v b x)

segmented_wider : {A : Type 0} (k : Segmentation A) {R S : A → List ℕ → Type 0} (m : BERMode) (t : Tag) → ((v : A) (b : List ℕ) → R v b → S v b) →
    (v : A) (b : List ℕ) → Segmented k R m t v b → Segmented k S m t v b
segmented_wider k m t f v b (whole c x p a) = whole c x p a
segmented_wider k m t f v b (in_segments h c vs x p j a) = in_segments h c vs x (pieces_wider f vs c p) j a

-- a string within some levels is one within more
pub segmented_deeper : {A : Type 0} (k : Segmentation A) (n j : ℕ) (m : BERMode) (t : Tag) (v : A) (b : List ℕ) → n ≤ j → IsSegmented k t m n v b →
    IsSegmented k t m j v b
segmented_deeper k zero j m t v b below x = absurd (segmented_zero k m t v b x)
segmented_deeper k (suc n) zero m t v b below x = absurd (omega (arith, below))
segmented_deeper k (suc n) (suc j) m t v b below x =
    segmented_of k j m t v b (segmented_wider k m t (λ w c. segmented_deeper k n j (segment_mode m) k.segment w c (omega (arith, below))) v b
    (segmented_into k n m t v b x))

-- what is too deep begins with the wanted tag
pub deep_begins : {A : Type 0} (k : Segmentation A) (n : ℕ) (m : BERMode) (t : Tag) (s : List ℕ) → IsDeepSegmented k t m n s → BeginsWithTag t s
deep_begins k zero m t s x = deep_zero_into k m t s x
deep_begins k (suc n) m t s x = let y = deep_into k n m t s x in opens_begins m t Constructed s y.contents y.end y.opens

-- constructed elements of segments that begin alike are the same, and so are the values of their segments
pub pieces_same : {A : Type 0} {R S : A → List ℕ → Type 0} (m : BERMode) (t : Tag) →
    ((v w : A) (b c r s : List ℕ) → R v b → S w c → b ++ r ≡ c ++ s → (v ≡ w) × (b ≡ c)) →
    ((v : A) (b : List ℕ) → R v b → StartsElement b) → ((v : A) (b : List ℕ) → S v b → StartsElement b) →
    (vs ws : List A) (d e b c r s : List ℕ) → Element m t Constructed d b → Element m t Constructed e c → Pieces R vs d → Pieces S ws e →
    b ++ r ≡ c ++ s → (vs ≡ ws) × (b ≡ c)
pieces_same {A} {R} {S} m t exact left right vs ws d e b c r s x y p q f =
    let prefix_free : (v w : A) (b c r s : List ℕ) → R v b → S w c → b ++ r ≡ c ++ s → b ≡ c = λ v w b c r s i j g. (exact v w b c r s i j g).1 in
    let i = element_exact m m t t Constructed Constructed d e b c r s x y (λ y z. pieces_end prefix_free left right vs ws d e y z p q) f in
    let nothing_left : AtEnd [] = nothing refl in
    let same = (pieces_once prefix_free vs ws d e [] [] p q (no_prefix_at_end right [] nothing_left) (no_prefix_at_end left [] nothing_left)
    (ap (λ z. z ++ []) i.contents)).0 in
    let each = each_same {E = λ v w. v ≡ w} (λ v w b x y. (exact v w b b [] [] x y refl).0) vs ws q.pieces (subst (λ z. Each R vs z) same p.each) q.each in
    (each_equal vs ws each, i.bytes)

module _ {A : Type 0} {k : Segmentation A} (once : SegmentsOnce k) where
  segmented_same : {R S : A → List ℕ → Type 0} (m : BERMode) (t : Tag) →
      ((v w : A) (b c r s : List ℕ) → R v b → S w c → b ++ r ≡ c ++ s → (v ≡ w) × (b ≡ c)) →
      ((v : A) (b : List ℕ) → R v b → StartsElement b) → ((v : A) (b : List ℕ) → S v b → StartsElement b) →
      (v w : A) (b c r s : List ℕ) → Segmented k R m t v b → Segmented k S m t w c → b ++ r ≡ c ++ s → (v ≡ w) × (b ≡ c)
  segmented_same m t exact left right v w b c r s (whole d x p a) (whole e y q z) f =
      let i = primitive_exact m m t t Primitive d e b c r s x y f in
      (once.whole m v w e (subst (λ z. k.whole m v z) i.contents p) q, i.bytes)
  segmented_same m t exact left right v w b c r s (whole d x p a) (in_segments h e ws y q j z) f =
      let i = (primitive_exact m m t t Constructed d e b c r s x y f).bit in absurd (cc)
  segmented_same m t exact left right v w b c r s (in_segments h d vs x p j a) (whole e y q z) f =
      let i = (primitive_exact m m t t Constructed e d c b s r y x (sym f)).bit in absurd (cc)
  segmented_same m t exact left right v w b c r s (in_segments h d vs x p j a) (in_segments g e ws y q l z) f =
      let same = pieces_same m t exact left right vs ws d e b c r s x y p q f in
      (once.join (segment_mode m) ws v w (subst (λ us. k.join (segment_mode m) us v) same.0 j) l, same.1)

  -- of two strings neither begins the other, and equal bytes are equal strings
  pub segmented_exact : (n j : ℕ) (m : BERMode) (t : Tag) (v w : A) (b c r s : List ℕ) → IsSegmented k t m n v b → IsSegmented k t m j w c → b ++ r ≡ c ++ s →
      (v ≡ w) × (b ≡ c)
  segmented_exact zero j m t v w b c r s x y e = absurd (segmented_zero k m t v b x)
  segmented_exact (suc n) zero m t v w b c r s x y e = absurd (segmented_zero k m t w c y)
  segmented_exact (suc n) (suc j) m t v w b c r s x y e =
      segmented_same m t (segmented_exact n j (segment_mode m) k.segment) (λ u d. segmented_starts k n (segment_mode m) k.segment u d once.segment)
      (λ u d. segmented_starts k j (segment_mode m) k.segment u d once.segment)
      v w b c r s (segmented_into k n m t v b x) (segmented_into k j m t w c y) e

  -- a string satisfies the laws of reading, however it is cut
  pub segmented_coding : (t : Tag) → (t ≡ end_tag → ⊥) → IsCoding (λ v w. v ≡ w) (IsSegmented k t) (Any (IsSegmented k t))
  segmented_coding t not_end = record {
    meaning = record {
      equal = equal_same;
      among = λ m n v b x. (v, x);
      exact = λ m n j v w b x y. (segmented_exact n j m t v w b b [] [] x y refl).0;
      deeper = λ m n j v b below. segmented_deeper k n j m t v b below;
    };
    opens = λ m n b x. segmented_starts k n m t x.0 b not_end x.1;
    prefix_free = λ m n j b c r s x y e. (segmented_exact n j m t x.0 y.0 b c r s x.1 y.1 e).1;
  }

  deep_not_in : {R : A → List ℕ → Type 0} {D : List ℕ → Type 0} (m : BERMode) (t : Tag) →
      ((v w : A) (b c r s : List ℕ) → R v b → R w c → b ++ r ≡ c ++ s → b ≡ c) → ((v : A) (b : List ℕ) → R v b → StartsElement b) →
      ((x : List ℕ) → D x → BeginsWithTag k.segment x) → ((x : List ℕ) → D x → NoPrefix R x) →
      (v : A) (s b r : List ℕ) → DeepSegmented k R D m t s → Segmented k R m t v b → s ≡ b ++ r → ⊥
  deep_not_in m t prefix_free starts first unambiguous v s b r d (whole c x p a) e =
      let i = (header_of m t t Constructed Primitive s d.contents c b r d.end d.opens x e).bit in absurd (cc)
  deep_not_in m t prefix_free starts first unambiguous v s b r d (in_segments h c vs x p j a) e =
      let i = header_of m t t Constructed Constructed s d.contents c b r d.end d.opens x e in
      let ended = end_after d.end i.after r i.ends in
      let f = pieces_once prefix_free d.inside.values vs d.inside.prefix c d.inside.rest i.after d.inside.pieces p (unambiguous d.inside.rest d.inside.deep)
      (no_prefix_at_end starts i.after ended) (sym d.inside.joined ∙ i.joined) in
      tag_not_end k.segment i.after once.segment (subst (λ z. BeginsWithTag k.segment z) f.1 (first d.inside.rest d.inside.deep)) ended

  -- where it is too deep no front is a string
  pub deep_not_segmented : (n : ℕ) (m : BERMode) (t : Tag) (s : List ℕ) → IsDeepSegmented k t m n s → NoPrefix (IsSegmented k t m n) s
  deep_not_segmented zero m t s d v b r x e = segmented_zero k m t v b x
  deep_not_segmented (suc n) m t s d v b r x e =
      deep_not_in m t (λ u w c g y z p q i. (segmented_exact n n (segment_mode m) k.segment u w c g y z p q i).1)
      (λ u c. segmented_starts k n (segment_mode m) k.segment u c once.segment)
      (λ y. deep_begins k n (segment_mode m) k.segment y) (λ y. deep_not_segmented n (segment_mode m) k.segment y)
      v s b r (deep_into k n m t s d) (segmented_into k n m t v b x) e

-- what holds of contents and of what is joined holds of strings
module _ {A : Type 0} (k : Segmentation A) (P : A → Type 0) (of_whole : (m : BERMode) (v : A) (c : List ℕ) → IsBytes c → k.whole m v c → P v)
    (of_join : (m : BERMode) (vs : List A) (v : A) → AllByRecursion P vs → k.join m vs v → P v) where
  each_keeps : {R : A → List ℕ → Type 0} → ((v : A) (b : List ℕ) → R v b → P v) → (vs : List A) (bs : List (List ℕ)) → Each R vs bs → AllByRecursion P vs
  each_keeps f [] bs p = tt
  each_keeps f (v ∷ vs) [] p = absurd p
  each_keeps f (v ∷ vs) (b ∷ bs) p = (f v b p.0, each_keeps f vs bs p.1)

  keeps_of : {R : A → List ℕ → Type 0} → ((v : A) (b : List ℕ) → R v b → P v) → (m : BERMode) (t : Tag) (v : A) (b : List ℕ) → Segmented k R m t v b → P v
  keeps_of f m t v b (whole c x p a) = of_whole m v c x.in_bytes p
  keeps_of f m t v b (in_segments h c vs x p j a) = of_join (segment_mode m) vs v (each_keeps f vs p.pieces p.each) j

  pub segmented_keeps : (n : ℕ) (m : BERMode) (t : Tag) (v : A) (b : List ℕ) → IsSegmented k t m n v b → P v
  segmented_keeps zero m t v b x = absurd (segmented_zero k m t v b x)
  segmented_keeps (suc n) m t v b x = keeps_of (segmented_keeps n (segment_mode m) k.segment) m t v b (segmented_into k n m t v b x)

-- a string takes a level
pub segmented_level : {A : Type 0} (k : Segmentation A) (n : ℕ) (m : BERMode) (t : Tag) (v : A) (b : List ℕ) → IsSegmented k t m n v b → 1 ≤ n
segmented_level k zero m t v b x = absurd (segmented_zero k m t v b x)
segmented_level k (suc n) m t v b x = omega arith

-- the contents of a primitive element are a string where a level is left
pub segmented_whole : {A : Type 0} (k : Segmentation A) (n : ℕ) (m : BERMode) (t : Tag) (v : A) (c b : List ℕ) → 1 ≤ n → Element m t Primitive c b →
    k.whole m v c →
    StaysWhole m k.full (length (k.bytes v)) → IsSegmented k t m n v b
segmented_whole k zero m t v c b level x p a = absurd (omega (arith, level))
segmented_whole k (suc n) m t v c b level x p a = segmented_of k n m t v b (whole c x p a)
