-- The laws of writing of strings, however a canonical mode cuts them.
use Rattle.std.proofs.Common.{◌≡◌, ◌⊎◌, inl, inr, ℕ, zero, suc, ◌<◌, ◌≤◌, ◌^◌, List, [], ◌∷◌, ◌++◌, length, map, refl, ap, ap₂, ◌∙◌, sym, arith, subst, lt-ltb, le-ltb, length-append}
use Rattle.std.proofs.lemmas.Bool.{cases_lt}
use Rattle.std.proofs.lemmas.List.{length-map}
use Rattle.std.specs.List.{AllByRecursion, concat, flat_map}
use Rattle.yasna_base.specs.declared.mode.BERMode.{BERMode}
use Rattle.yasna_base.specs.declared.mode.BERMode.TheVariants.{Ber, Der, Cer}
use Rattle.yasna_base.specs.declared.tag.PCBit.TheVariants.{Primitive, Constructed}
use Rattle.yasna_base.specs.declared.tag.Tag.{Tag}
use Rattle.yasna_base.specs.Canonical.{IsCanonicalMode, HoldsEncoding, canonical_element, HasEncoding}
use Rattle.yasna_base.specs.Segmented.{Segmentation, MaySegment, segment_mode, StaysWhole, FallsInto, Segmented, whole, in_segments, IsSegmented, segmented_encoding, segmented_depth}
use Rattle.yasna_base.specs.Digits.{IsBytes}
use Rattle.yasna_base.specs.Pieces.{Each, Pieces}
use Rattle.yasna_base.proofs.Canonical.{canonical_element_is, canonical_element_only, canonical_element_bytes, short_contents}
use Rattle.yasna_base.proofs.Segmented.{segmented_zero, segmented_of, segmented_into, segmented_whole}
use Rattle.yasna_base.proofs.Digits.{bytes_append}

-- what a kind of string shows to have an encoding: its contents, and the segments that it is cut into
pub record HasSegments {A : Type 0} (k : Segmentation A) (Can : A → Type 0) (contents : A → List ℕ) (segments : A → List A) : Type 0 where
  pub bytes : (v : A) → Can v → IsBytes (contents v)
  pub means : (m : BERMode) (v : A) → Can v → k.whole m v (contents v)
  pub one : (m : BERMode) (v : A) (c : List ℕ) → IsCanonicalMode m → IsBytes c → k.whole m v c → (c ≡ contents v) × Can v
  pub cut : (v : A) → Can v → k.full < length (k.bytes v) → FallsInto Cer k.full (map k.bytes (segments v)) × AllByRecursion Can (segments v)
  pub join : (m : BERMode) (v : A) → Can v → k.full < length (k.bytes v) → k.join m (segments v) v
  -- a string is cut in one way
  pub cut_once : (vs : List A) (v : A) → AllByRecursion Can vs → k.join Der vs v → FallsInto Cer k.full (map k.bytes vs) →
      (vs ≡ segments v) × Can v × (k.full < length (k.bytes v))

-- n bytes stay whole, or are more than CER takes so
pub stays_or_not : (m : BERMode) (k n : ℕ) → StaysWhole m k n ⊎ ((m ≡ Cer) × (k < n))
stays_or_not Ber k n = inl tt
stays_or_not Der k n = inl tt
stays_or_not Cer k n = elim (cases_lt k n) [ inl i ↦ inr (refl, i) | inr i ↦ inl i ]

-- what stays whole does so wherever the mode's encodings hold
stays_where : (m o : BERMode) (k n : ℕ) → HoldsEncoding m o → StaysWhole m k n → StaysWhole o k n
stays_where Ber o k n h x = absurd h
stays_where Der Ber k n h x = tt
stays_where Der Der k n h x = tt
stays_where Der Cer k n h x = absurd h
stays_where Cer Ber k n h x = tt
stays_where Cer Der k n h x = absurd h
stays_where Cer Cer k n h x = x

-- CER's segments are taken, and are strings of DER there
record TakesSegmented (o : BERMode) : Type 0 where
  may : MaySegment o
  segment : HoldsEncoding Der (segment_mode o)
  whole : (k n : ℕ) → StaysWhole (segment_mode o) k n
  into : (k : ℕ) (bs : List (List ℕ)) → FallsInto Cer k bs → FallsInto o k bs

takes_segmented : (o : BERMode) → HoldsEncoding Cer o → TakesSegmented o
takes_segmented Ber h = record { may = tt; segment = tt; whole = λ k n. tt; into = λ k bs x. tt }
takes_segmented Der h = absurd h
takes_segmented Cer h = record { may = tt; segment = tt; whole = λ k n. tt; into = λ k bs x. x }

-- encodings one after the other, each of which is a string
encodings_each : {A : Type 0} {R : A → List ℕ → Type 0} {Can : A → Type 0} (encoding : A → List ℕ) →
    ((w : A) → Can w → length (encoding w) < 2 ^ 64 → R w (encoding w)) → (vs : List A) → AllByRecursion Can vs → length (flat_map encoding vs) < 2 ^ 64 →
    Pieces R vs (flat_map encoding vs)
encodings_each encoding f [] can short = record { pieces = []; each = tt; joined = refl }
encodings_each encoding f (v ∷ vs) can short =
    let n = length-append (encoding v) (flat_map encoding vs) in
    let first : length (encoding v) < 2 ^ 64 = omega (arith, n, short) in
    let after : length (flat_map encoding vs) < 2 ^ 64 = omega (arith, n, short) in
    let rest = encodings_each encoding f vs can.1 after in
    record {
      pieces = encoding v ∷ rest.pieces;
      each = (f v can.0 first, rest.each);
      joined = ap (λ z. encoding v ++ z) rest.joined;
    }

encodings_bytes : {A : Type 0} {Can : A → Type 0} (encoding : A → List ℕ) → ((w : A) → Can w → length (encoding w) < 2 ^ 64 → IsBytes (encoding w)) →
    (vs : List A) → AllByRecursion Can vs → length (flat_map encoding vs) < 2 ^ 64 → IsBytes (flat_map encoding vs)
encodings_bytes encoding f [] can short = tt
encodings_bytes encoding f (v ∷ vs) can short =
    let n = length-append (encoding v) (flat_map encoding vs) in
    bytes_append (encoding v) (flat_map encoding vs) (f v can.0 (omega (arith, n, short))) (encodings_bytes encoding f vs can.1 (omega (arith, n, short)))

module _ {A : Type 0} {k : Segmentation A} {Can : A → Type 0} {contents : A → List ℕ} {segments : A → List A} (x : HasSegments k Can contents segments) where
  -- DER takes a string in its encoding alone
  der_only : {R : A → List ℕ → Type 0} (t : Tag) (v : A) (b : List ℕ) → Segmented k R Der t v b → (b ≡ canonical_element Der t Primitive (contents v)) × Can v
  der_only t v b (whole c e p a) =
      let same = x.one Der v c tt e.in_bytes p in
      (canonical_element_only Der t Primitive c b tt e ∙ ap (canonical_element Der t Primitive) same.0, same.1)
  der_only t v b (in_segments h c vs e p j a) = absurd h

  pieces_only : (n : ℕ) (vs : List A) (bs : List (List ℕ)) → Each (IsSegmented k k.segment Der n) vs bs →
      (concat bs ≡ flat_map (λ w. canonical_element Der k.segment Primitive (contents w)) vs) × AllByRecursion Can vs × (1 ≤ length vs → 1 ≤ n)
  pieces_only n [] [] p = (refl, tt, λ h. omega (arith, h))
  pieces_only n [] (b ∷ bs) p = absurd p
  pieces_only n (v ∷ vs) [] p = absurd p
  pieces_only zero (v ∷ vs) (b ∷ bs) p = absurd (segmented_zero k Der k.segment v b p.0)
  pieces_only (suc n) (v ∷ vs) (b ∷ bs) p =
      let first = der_only k.segment v b (segmented_into k n Der k.segment v b p.0) in
      let rest = pieces_only (suc n) vs bs p.1 in
      (ap₂ (λ y z. y ++ z) first.0 rest.0, (first.1, rest.1), λ h. omega arith)

  module _ (piece_range : k.segment.tag_number < 2 ^ 64) (t : Tag) (range : t.tag_number < 2 ^ 64) where
    encoding_whole : (m : BERMode) (v : A) → StaysWhole m k.full (length (k.bytes v)) →
        (segmented_encoding k contents segments t m v ≡ canonical_element m t Primitive (contents v)) × (segmented_depth k m v ≡ 1)
    encoding_whole Ber v h = (refl, refl)
    encoding_whole Der v h = (refl, refl)
    encoding_whole Cer v h = rw (le-ltb k.full (length (k.bytes v)) h) (refl, refl)

    encoding_segmented : (v : A) → k.full < length (k.bytes v) →
        (segmented_encoding k contents segments t Cer v
        ≡ canonical_element Cer t Constructed (flat_map (λ w. canonical_element Der k.segment Primitive (contents w)) (segments v)))
        × (segmented_depth k Cer v ≡ 2)
    encoding_segmented v h = rw (lt-ltb k.full (length (k.bytes v)) h) (refl, refl)

    inside_bytes : (vs : List A) → AllByRecursion Can vs → length (flat_map (λ w. canonical_element Der k.segment Primitive (contents w)) vs) < 2 ^ 64 →
        IsBytes (flat_map (λ w. canonical_element Der k.segment Primitive (contents w)) vs)
    inside_bytes vs can short = encodings_bytes (λ w. canonical_element Der k.segment Primitive (contents w))
        (λ w c s. canonical_element_bytes Der k.segment Primitive (contents w) (x.bytes w c) s) vs can short

    -- the segments of a string that CER cuts
    abbrev inside : A → List ℕ
    inside v = flat_map (λ w. canonical_element Der k.segment Primitive (contents w)) (segments v)

    long_bytes : (v : A) → Can v → k.full < length (k.bytes v) → length (canonical_element Cer t Constructed (inside v)) < 2 ^ 64 →
        IsBytes (canonical_element Cer t Constructed (inside v))
    long_bytes v can long short =
        canonical_element_bytes Cer t Constructed (inside v)
        (inside_bytes (segments v) (x.cut v can long).1 (short_contents Cer t Constructed (inside v) short)) short

    encoding_bytes : (m : BERMode) (v : A) → Can v → length (segmented_encoding k contents segments t m v) < 2 ^ 64 → IsBytes (segmented_encoding k contents segments t m v)
    encoding_bytes m v can short = elim (stays_or_not m k.full (length (k.bytes v))) [
      | inl i ↦
          let e = (encoding_whole m v i).0 in
          subst IsBytes (sym e) (canonical_element_bytes m t Primitive (contents v) (x.bytes v can) (subst (λ b. length b < 2 ^ 64) e short))
      | inr i ↦ subst (λ o. length (segmented_encoding k contents segments t o v) < 2 ^ 64 → IsBytes (segmented_encoding k contents segments t o v)) (sym i.0)
          (λ s. let e = (encoding_segmented v i.1).0 in subst IsBytes (sym e) (long_bytes v can i.1 (subst (λ b. length b < 2 ^ 64) e s))) short
    ]

    long_holds : (o : BERMode) (n : ℕ) (v : A) → HoldsEncoding Cer o → Can v → k.full < length (k.bytes v) → 2 ≤ n →
        length (canonical_element Cer t Constructed (inside v)) < 2 ^ 64 → IsSegmented k t o n v (canonical_element Cer t Constructed (inside v))
    long_holds o zero v h can long level short = absurd (omega (arith, level))
    long_holds o (suc zero) v h can long level short = absurd (omega (arith, level))
    long_holds o (suc (suc n)) v h can long level short =
        let taken = takes_segmented o h in
        let fits = short_contents Cer t Constructed (inside v) short in
        let cut = x.cut v can long in
        segmented_of k (suc n) o t v (canonical_element Cer t Constructed (inside v)) (in_segments taken.may (inside v) (segments v)
        (canonical_element_is Cer o t Constructed (inside v) h range (inside_bytes (segments v) cut.1 fits) short)
        (encodings_each (λ w. canonical_element Der k.segment Primitive (contents w)) (λ w c s.
        segmented_whole k (suc n) (segment_mode o) k.segment w (contents w) (canonical_element Der k.segment Primitive (contents w)) (omega arith)
        (canonical_element_is Der (segment_mode o) k.segment Primitive (contents w) taken.segment piece_range (x.bytes w c) s)
        (x.means (segment_mode o) w c) (taken.whole k.full (length (k.bytes w)))) (segments v) cut.1 fits)
        (x.join (segment_mode o) v can long) (taken.into k.full (map k.bytes (segments v)) cut.0))

    encoding_holds : (m o : BERMode) (n : ℕ) (v : A) → HoldsEncoding m o → Can v → segmented_depth k m v ≤ n →
        length (segmented_encoding k contents segments t m v) < 2 ^ 64 →
        IsSegmented k t o n v (segmented_encoding k contents segments t m v)
    encoding_holds m o n v h can level short = elim (stays_or_not m k.full (length (k.bytes v))) [
      | inl i ↦
          let e = encoding_whole m v i in
          subst (IsSegmented k t o n v) (sym e.0)
          (segmented_whole k n o t v (contents v) (canonical_element m t Primitive (contents v)) (subst (λ j. j ≤ n) e.1 level)
          (canonical_element_is m o t Primitive (contents v) h range (x.bytes v can) (subst (λ b. length b < 2 ^ 64) e.0 short))
          (x.means o v can) (stays_where m o k.full (length (k.bytes v)) h i))
      | inr i ↦
          let e = encoding_segmented v i.1 in
          subst (λ q. HoldsEncoding q o → segmented_depth k q v ≤ n → length (segmented_encoding k contents segments t q v) < 2 ^ 64 →
          IsSegmented k t o n v (segmented_encoding k contents segments t q v))
          (sym i.0) (λ g l s. subst (IsSegmented k t o n v) (sym e.0)
          (long_holds o n v g can i.1 (subst (λ j. j ≤ n) e.1 l) (subst (λ b. length b < 2 ^ 64) e.0 s))) h level short
    ]

    segmented_only : (m : BERMode) (n : ℕ) (v : A) (b : List ℕ) → IsCanonicalMode m → Segmented k (IsSegmented k k.segment (segment_mode m) n) m t v b →
        (b ≡ segmented_encoding k contents segments t m v) × Can v × (segmented_depth k m v ≤ suc n)
    segmented_only m n v b h (whole c e p a) =
        let same = x.one m v c h e.in_bytes p in
        let f = encoding_whole m v a in (
          canonical_element_only m t Primitive c b h e ∙ ap (canonical_element m t Primitive) same.0 ∙ sym f.0,
          same.1,
          subst (λ j. j ≤ suc n) (sym f.1) (omega arith),
        )
    segmented_only Ber n v b h (in_segments i c vs e p j a) = absurd h
    segmented_only Der n v b h (in_segments i c vs e p j a) = absurd i
    segmented_only Cer n v b h (in_segments i c vs e p j a) =
        let each = pieces_only n vs p.pieces p.each in
        let one = x.cut_once vs v each.1 j a in
        let f = encoding_segmented v one.2 in
        let two : 1 ≤ length vs = let l = a.1 in let k = length-map vs k.bytes in omega (arith, l, k) in (
          canonical_element_only Cer t Constructed c b tt e
              ∙ ap (canonical_element Cer t Constructed) (p.joined ∙ each.0 ∙ ap (flat_map (λ w. canonical_element Der k.segment Primitive (contents w))) one.0)
              ∙ sym f.0,
          one.1,
          subst (λ l. l ≤ suc n) (sym f.1) (let l = each.2 two in omega (arith, l)),
        )

    encoding_only : (m : BERMode) (n : ℕ) (v : A) (b : List ℕ) → IsCanonicalMode m → IsSegmented k t m n v b →
        (b ≡ segmented_encoding k contents segments t m v) × Can v × (segmented_depth k m v ≤ n)
    encoding_only m zero v b h y = absurd (segmented_zero k m t v b y)
    encoding_only m (suc n) v b h y = segmented_only m n v b h (segmented_into k n m t v b y)

    -- a string that can be written has one encoding in each canonical mode
    pub segmented_has : HasEncoding (IsSegmented k t) (segmented_encoding k contents segments t) (segmented_depth k) (λ m. Can)
    segmented_has = record { in_bytes = encoding_bytes; holds = encoding_holds; only = encoding_only }
