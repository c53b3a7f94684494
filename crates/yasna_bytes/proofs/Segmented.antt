-- Strings, whole or in segments: what the header and the contents after it say of them.
use Rattle.std.proofs.Common.{◌≡◌, ◌⊎◌, inl, inr, ℕ, zero, suc, ◌-◌, ◌≤◌, List, [], ◌++◌, length, map, Bool, true, false, refl, sym, subst, ◌∙◌, arith}
use Rattle.yasna_base.specs.declared.error.ASN1ErrorKind.TheVariants.{OutOfMemory}
use Rattle.yasna_base.specs.declared.mode.BERMode.{BERMode}
use Rattle.yasna_base.specs.declared.tag.Tag.{Tag}
use Rattle.yasna_base.specs.declared.tag.PCBit.TheVariants.{Primitive, Constructed}
use Rattle.yasna_base.specs.Segmented.{MaySegment, segment_mode, StaysWhole, FallsInto, Segmentation, whole, in_segments, IsSegmented, IsDeepSegmented}
use Rattle.yasna_base.specs.Element.{IsPrimitive}
use Rattle.yasna_base.specs.Header.{ContentsEnd, OpensAt}
use Rattle.yasna_base.specs.Identifier.{BeginsWithTag}
use Rattle.yasna_base.proofs.Segmented.{segmented_zero, segmented_of, segmented_into, deep_at_zero, deep_of, deep_into, deep_zero_into}
use Rattle.yasna_base.proofs.Element.{primitive_exact}
use Rattle.yasna_base.proofs.Header.{opens_begins, header_of, header_once, end_after}
use Rattle.yasna_base.proofs.Lists.{empty_is}
use Rattle.yasna_bytes.specs.declared.bytes.header.Rejection.{Rejection}
use Rattle.yasna_bytes.specs.Prefix.{Takes, HasPrefix}
use Rattle.yasna_bytes.specs.Header.{AnyBit, AreContents, HasHeader, RejectsHeader, EndsBefore, NoEnd}
use Rattle.yasna_bytes.specs.Rejection.{BlamesBytes, IsTooDeep}
use Rattle.yasna_bytes.specs.declared.bytes.segments.cuts.Cuts.{Cuts}
use Rattle.yasna_bytes.specs.Segments.{MakeUpTo, IsDeepWithin, AcceptsCuts, SegmentsRead, TakesSegments, Appends, RejectsSegments, TakesString, RejectsString}
use Rattle.yasna_bytes.proofs.Contents.{takes_begins, copy_may_allocate, opens_may_allocate}
use Rattle.yasna_bytes.proofs.Cuts.{accepted_cut}
use Rattle.yasna_bytes.proofs.Header.{element_header}
use Rattle.yasna_bytes.proofs.RawHeader.{opens_header}
use Rattle.yasna_bytes.proofs.Rejection.{blames_not_depth, blames_not_memory, begins_not_elsewhere}
use Rattle.yasna_bytes.proofs.Ending.{closed}

-- the wanted tag is there, no string is, and it isn't too deep
there_rejects : {A : Type 0} (k : Segmentation A) (n : ℕ) (m : BERMode) (t : Tag) (s : List ℕ) (e : Rejection) → BeginsWithTag t s → BlamesBytes e.kind → e.consumed ≡ true →
    (HasPrefix (IsSegmented k t m n) s → ⊥) → (IsDeepSegmented k t m n s → ⊥) → RejectsString k n m t s e
there_rejects k n m t s e b p o none deep = record {
  none = λ _. none;
  consumed = (λ f. absurd (cc), λ f. absurd (begins_not_elsewhere b f));
  too_deep = λ f. absurd (blames_not_depth p f);
  deep = λ _ d. absurd (deep d);
  memory = λ f. absurd (blames_not_memory p f);
}

-- a string has a header
segmented_header : {A : Type 0} (k : Segmentation A) (n : ℕ) (m : BERMode) (t : Tag) (v : A) (b s r : List ℕ) → IsSegmented k t m n v b → s ≡ b ++ r →
    HasHeader AnyBit m n t s
segmented_header k zero m t v b s r x e = absurd (segmented_zero k m t v b x)
segmented_header k (suc n) m t v b s r x e = elim (segmented_into k n m t v b x) [
  | whole c y w a ↦ element_header AnyBit m (suc n) t Primitive c b s r (omega arith) tt y e
  | in_segments h c vs y p j a ↦ element_header AnyBit m (suc n) t Constructed c b s r (omega arith) tt y e
]

deep_header : {A : Type 0} (k : Segmentation A) (n : ℕ) (m : BERMode) (t : Tag) (s : List ℕ) → IsDeepSegmented k t m n s →
    IsTooDeep n t s ⊎ HasHeader AnyBit m n t s
deep_header k zero m t s d = inl (refl, deep_zero_into k m t s d)
deep_header k (suc n) m t s d = let x = deep_into k n m t s d in inr (opens_header m (suc n) t Constructed s x.contents x.end (omega arith) x.opens)

too_deep_segmented : {A : Type 0} (k : Segmentation A) (n : ℕ) (m : BERMode) (t : Tag) (s : List ℕ) → IsTooDeep n t s → IsDeepSegmented k t m n s
too_deep_segmented k zero m t s d = deep_at_zero k m t s d.1
too_deep_segmented k (suc n) m t s d = let e = d.0 in absurd (omega arith)

-- where no header is there, no string is
pub header_rejected : {A : Type 0} (k : Segmentation A) (n : ℕ) (m : BERMode) (t : Tag) (s : List ℕ) (e : Rejection) → RejectsHeader AnyBit m n t s e →
    RejectsString k n m t s e
header_rejected k n m t s e x = record {
  none = λ q w. x.none q (segmented_header k n m t w.0 w.2.prefix s w.1 w.2.member w.2.joined);
  consumed = x.consumed;
  too_deep = λ f. too_deep_segmented k n m t s (x.too_deep f);
  deep = λ q d. elim (deep_header k n m t s d) [ inl f ↦ x.deep q f | inr h ↦ absurd (x.none q h) ];
  memory = λ f. absurd (x.memory f);
}

-- the contents of a primitive element say a value
pub whole_taken : {A : Type 0} (k : Segmentation A) (n : ℕ) (m : BERMode) (t : Tag) (s c r : List ℕ) (v : A) → Takes (IsPrimitive AreContents t m n) s c r →
    k.whole m v c → StaysWhole m k.full (length (k.bytes v)) → Takes (IsSegmented k t m n) s v r
whole_taken k zero m t s c r v x w a = let l = x.member.level in absurd (omega arith)
whole_taken k (suc n) m t s c r v x w a = record {
  prefix = x.prefix;
  joined = x.joined;
  member = segmented_of k n m t v x.prefix (whole x.member.contents x.member.element (subst (k.whole m v) x.member.meaning w) a);
}

-- or say none
whole_none : {A : Type 0} (k : Segmentation A) (n : ℕ) (m : BERMode) (t : Tag) (s c r : List ℕ) → Takes (IsPrimitive AreContents t m n) s c r →
    ((v : A) → k.whole m v c → StaysWhole m k.full (length (k.bytes v)) → ⊥) → HasPrefix (IsSegmented k t m n) s → ⊥
whole_none k zero m t s c r x h w = segmented_zero k m t w.0 w.2.prefix w.2.member
whole_none {A} k (suc n) m t s c r x h w =
    let y = x.member in
    let f = sym x.joined ∙ w.2.joined in
    elim (segmented_into k n m t w.0 w.2.prefix w.2.member) [
      | whole d z q a ↦
          let i = (primitive_exact m m t t Primitive y.contents d x.prefix w.2.prefix r w.1 y.element z f).contents in
          h w.0 (subst (k.whole m w.0) (sym (y.meaning ∙ i)) q) a
      | in_segments g d vs z p j a ↦ let i = (primitive_exact m m t t Constructed y.contents d x.prefix w.2.prefix r w.1 y.element z f).bit in absurd (cc)
    ]

-- a primitive element isn't too deep
whole_not_deep : {A : Type 0} (k : Segmentation A) (n : ℕ) (m : BERMode) (t : Tag) (s c r : List ℕ) → Takes (IsPrimitive AreContents t m n) s c r →
    IsDeepSegmented k t m n s → ⊥
whole_not_deep k zero m t s c r x d = let l = x.member.level in omega arith
whole_not_deep k (suc n) m t s c r x d =
    let y = deep_into k n m t s d in
    let i = (header_of m t t Constructed Primitive s y.contents x.member.contents x.prefix r y.end y.opens x.member.element x.joined).bit in
    absurd (cc)

-- the contents of a primitive element were rejected
pub whole_rejected : {A : Type 0} (k : Segmentation A) (n : ℕ) (m : BERMode) (t : Tag) (s c r : List ℕ) (e : Rejection) →
    Takes (IsPrimitive AreContents t m n) s c r →
    ((e.kind ≡ OutOfMemory) × (c ≡ [] → ⊥)) ⊎ (BlamesBytes e.kind × ((v : A) → k.whole m v c → StaysWhole m k.full (length (k.bytes v)) → ⊥)) →
    e.consumed ≡ true → RejectsString k n m t s e
whole_rejected k n m t s c r e x (inl h) o = record {
  none = λ q. absurd (q h.0);
  consumed = (λ f. absurd (cc), λ f. absurd (begins_not_elsewhere (takes_begins m n t s c r x) f));
  too_deep = λ f. let g = h.0 in absurd (cc);
  deep = λ q. absurd (q h.0);
  memory = λ _. copy_may_allocate c (let f : length c ≡ 0 → ⊥ = λ f. h.1 (empty_is c f) in omega (arith, f)) n m t s r x;
}
whole_rejected k n m t s c r e x (inr h) o =
    there_rejects k n m t s e (takes_begins m n t s c r x) h.0 o (whole_none k n m t s c r x h.1) (whole_not_deep k n m t s c r x)

module _ {A : Type 0} (k : Segmentation A) (n j : ℕ) (more : 1 ≤ n) (less : j ≡ n - 1) (m : BERMode) (t : Tag) (s c : List ℕ) (end : ContentsEnd)
    (o : OpensAt m t Constructed s c end) (e : Rejection) (consumed : e.consumed ≡ true) where
  level : suc j ≡ n
  level = omega arith

  begun : BeginsWithTag t s
  begun = opens_begins m t Constructed s c end o

  -- what segments are there, where a string does
  record InSegments (v : A) (r : List ℕ) : Type 0 where
    taken : MaySegment m
    place : List ℕ
    ends : EndsBefore end place r
    made : MakeUpTo k j (segment_mode m) c place
    cut : FallsInto m k.full (map k.bytes made.values)

  as_segments : (v : A) (r : List ℕ) → Takes (IsSegmented k t m n) s v r → InSegments v r
  as_segments v r w = elim (segmented_into k j m t v w.prefix (subst (λ z. IsSegmented k t m z v w.prefix) (sym level) w.member)) [
    | whole d z q a ↦ let i = (header_of m t t Constructed Primitive s c d w.prefix r end o z w.joined).bit in absurd (cc)
    | in_segments h d vs z p q a ↦
        let b = header_of m t t Constructed Constructed s c d w.prefix r end o z w.joined in
        record {
          taken = h;
          place = b.after;
          ends = b.ends;
          made = record {
            values = vs;
            value = v;
            lead = record { prefix = d; pieces = p; joined = b.joined };
            join = q;
            at_end = end_after end b.after r b.ends;
          };
          cut = a;
        }
  ]

  deep_within : IsDeepSegmented k t m n s → MaySegment m × IsDeepWithin k j (segment_mode m) c
  deep_within d =
      let y = deep_into k j m t s (subst (λ z. IsDeepSegmented k t m z s) (sym level) d) in
      let i = (header_once m t t Constructed Constructed s y.contents c y.end end y.opens o).contents in
      (y.taken, subst (IsDeepWithin k j (segment_mode m)) i y.inside)

  -- segments are in a mode that takes none
  pub uncut_rejected : (MaySegment m → ⊥) → BlamesBytes e.kind → RejectsString k n m t s e
  uncut_rejected h p = there_rejects k n m t s e begun p consumed (λ w. h (as_segments w.0 w.1 w.2).taken) (λ d. h (deep_within d).0)

  -- segments were rejected
  pub segments_rejected : MaySegment m → RejectsSegments k j (segment_mode m) c e → RejectsString k n m t s e
  segments_rejected h x = record {
    none = λ q w. let y = as_segments w.0 w.1 w.2 in x.none q y.place y.made;
    consumed = (λ f. absurd (cc), λ f. absurd (begins_not_elsewhere begun f));
    too_deep = λ f. subst (λ z. IsDeepSegmented k t m z s) level
        (deep_of k j m t s (record { taken = h; contents = c; end = end; opens = o; inside = x.too_deep f }));
    deep = λ q d. x.deep q (deep_within d).1;
    memory = λ _. opens_may_allocate n m t Constructed s c end more x.not_empty o;
  }

  module _ {T : Type 0} {value : List ℕ → T → A} {y : List ℕ} {x : SegmentsRead A T} (h : TakesSegments k value j (segment_mode m) c x y)
      (p : BlamesBytes e.kind) where
    -- segments were read that the mode doesn't take as they are cut
    pub cuts_rejected : (AcceptsCuts m x.cuts → ⊥) → RejectsString k n m t s e
    cuts_rejected f = there_rejects k n m t s e begun p consumed
        (λ w.
        let z = as_segments w.0 w.1 w.2 in
        let same = (h.only z.place z.made).1 in
        f ((accepted_cut k m x.values x.cuts h.read.cut).1 (subst (λ vs. FallsInto m k.full (map k.bytes vs)) same z.cut)))
        (λ d. h.not_deep (deep_within d).1)

    -- segments were read, and don't end where contents may
    pub unclosed_rejected : NoEnd end y → RejectsString k n m t s e
    unclosed_rejected f = there_rejects k n m t s e begun p consumed
        (λ w. let z = as_segments w.0 w.1 w.2 in f w.1 (subst (λ q. EndsBefore end q w.1) (h.only z.place z.made).0 z.ends))
        (λ d. h.not_deep (deep_within d).1)

-- segments were read, are cut as the mode asks, and end where contents may
pub closed_taken : {A T : Type 0} (k : Segmentation A) (value : List ℕ → T → A) (n j : ℕ) → 1 ≤ n → j ≡ n - 1 → (m : BERMode) (t : Tag) (s c : List ℕ)
    (end : ContentsEnd) → OpensAt m t Constructed s c end → MaySegment m → (x : T) (u : Cuts) (y r out out' : List ℕ) →
    Appends (λ q. TakesSegments k value j (segment_mode m) c q y) x u out out' → AcceptsCuts m u → EndsBefore end y r → TakesString k value n m t s out x r out'
closed_taken k value n j l f m t s c end o h x u y r out out' z a e =
    let i = z.holds.read in
    let b = closed m t Constructed s c end o i.lead.prefix y r i.lead.joined e in
    record {
      bytes = z.bytes;
      takes = record {
        prefix = b.bytes;
        joined = b.joined;
        member = let g : suc j ≡ n = omega arith in
            subst (λ q. IsSegmented k t m q (value z.bytes x) b.bytes) g
            (segmented_of k j m t (value z.bytes x) b.bytes
            (in_segments h i.lead.prefix z.values b.element i.lead.pieces i.join ((accepted_cut k m z.values u i.cut).0 a)));
      };
      added = z.added;
    }

-- what holds of three things holds of what equals them
pub as_well : {X Y Z : Type 0} {r x : X} {s y : Y} {t z : Z} (B : X → Y → Z → Type 0) → r ≡ x → s ≡ y → t ≡ z → B r s t → B x y z
as_well {r} {x} {s} {y} {t} B e f g h = subst (λ u. B x y u) g (subst (λ u. B x u t) f (subst (λ u. B u s t) e h))

-- segments that were read where the contents of an element begin, by the rules of its segments
pub taken_inside : {A T : Type 0} {k : Segmentation A} {value : List ℕ → T → A} {n j : ℕ} {o : BERMode} {c s out y out' : List ℕ} {x : T} {u : Cuts} →
    (m : BERMode) → j ≡ n → o ≡ segment_mode m → s ≡ c → Appends (λ q. TakesSegments k value j o s q y) x u out out' →
    Appends (λ q. TakesSegments k value n (segment_mode m) c q y) x u out out'
taken_inside {k = k} {value = value} {n = n} {c = c} {out = out} {y = y} {out' = out'} {x = x} {u = u} m e f g h =
    as_well {x = n} {y = segment_mode m} {z = c} (λ i o d. Appends (λ q. TakesSegments k value i o d q y) x u out out') e f g h

-- what holds where an error didn't move holds of one that did
pub rejected_consumed : {R : Type 0} {b : Bool} {o p : List ℕ} → R → b ≡ true → R × (b ≡ false → o ≡ p)
rejected_consumed r h = (r, λ f. absurd (cc))
