-- What reading a string of bytes does, whole or in segments (X.690, 8.6, 8.7, 8.23 and 9.2).
use Rattle.std.specs.Borrow.{Bor}
use Rattle.std.specs.Global.{Global}
use Rattle.std.specs.List.{AllByRecursion}
use Rattle.std.specs.Prelude.{◌≡◌, ◌⊎◌, ◌↔◌, ℕ, ◌≤◌, List, [], ◌∷◌, ◌++◌, length, map, false, true, ◌&&◌, nat_eq, nat_le, IsTrue, Option, Some, None, Result, Ok, Err, Vec}
use Rattle.yasna_base.specs.Bits.{BitString, IsBits, IsDeepBits}
use Rattle.yasna_base.specs.Segmented.{Segmentation, StaysWhole, FallsInto, IsSegmented, IsDeepSegmented, PiecesBefore}
use Rattle.yasna_base.specs.Header.{ContentsEnd, OpensAt}
use Rattle.yasna_base.specs.Identifier.{AtEnd}
use Rattle.yasna_base.specs.Octets.{octets_segmentation, IsOctets, IsDeepOctets}
use Rattle.yasna_base.specs.Pieces.{Pieces}
use Rattle.yasna_base.specs.declared.error.ASN1ErrorKind.{ASN1ErrorKind}
use Rattle.yasna_base.specs.declared.error.ASN1ErrorKind.TheVariants.{OutOfMemory, StackOverflow}
use Rattle.yasna_base.specs.declared.mode.BERMode.{BERMode}
use Rattle.yasna_base.specs.declared.mode.BERMode.TheVariants.{Ber, Der, Cer}
use Rattle.yasna_base.specs.declared.tag.PCBit.TheVariants.{Constructed}
use Rattle.yasna_base.specs.declared.tag.Tag.{Tag}
use Rattle.yasna_bytes.specs.Contents.{MayAllocate}
use Rattle.yasna_bytes.specs.Prefix.{Takes, HasPrefix, SeenAt}
use Rattle.yasna_bytes.specs.Rejection.{BlamesBytes, Rejects, IsElsewhere}
use Rattle.yasna_bytes.specs.declared.bytes.header.Rejection.{Rejection}
use Rattle.yasna_bytes.specs.declared.bytes.segments.cuts.Cuts.{Cuts}

-- where segments of such strings go on, they may
pub record GoOn {A : Type 0} (k : Segmentation A) : Type 0 where
  pub joined : (m : BERMode) (vs ws : List A) (w v : A) → k.join m (vs ++ (w ∷ ws)) v → k.more vs
  pub more : (vs ws : List A) (w : A) → k.more (vs ++ (w ∷ ws)) → k.more vs

-- The contents of a primitive element are taken exactly where they say a value. value b x is the value of the bytes b of
-- which x is known besides
abbrev pub EncodesWhole : {A T : Type 0} → Segmentation A → (List ℕ → T → A) → BERMode → List ℕ → Result (T × Bor (List ℕ)) ASN1ErrorKind → Type 0
EncodesWhole {A} k value m c (Ok x) = k.whole m (value x.1.now x.0) c × (length x.1.now ≤ length c)
EncodesWhole {A} k value m c (Err e) = BlamesBytes e × ((v : A) → k.whole m v c → ⊥)

-- the bytes of a value are those that it was made of
abbrev pub HoldsBytes : {A T : Type 0} → Segmentation A → (List ℕ → T → A) → Type 0
HoldsBytes {A} {T} k value = (b : List ℕ) (x : T) → k.bytes (value b x) ≡ b

-- x is known of no segments
abbrev pub IsOfNone : {A T : Type 0} → Segmentation A → (List ℕ → T → A) → T → Type 0
IsOfNone k value x = (m : BERMode) → k.join m [] (value [] x)

-- What is known of segments of which x is known and one more of which y is, or that such segments neither make a value nor
-- go on
abbrev pub Adds : {A T : Type 0} → Segmentation A → (List ℕ → T → A) → T → T → Result T ASN1ErrorKind → Type 0
Adds {A} k value x y (Ok z) =
    (m : BERMode) (vs : List A) (b c : List ℕ) → k.join m vs (value b x) → k.more vs → k.join m (vs ++ (value c y ∷ [])) (value (b ++ c) z)
Adds {A} k value x y (Err e) =
    BlamesBytes e × ((m : BERMode) (vs ws : List A) (b c : List ℕ) → k.join m vs (value b x) →
    ((v : A) → k.join m (vs ++ (value c y ∷ ws)) v → ⊥) × (k.more (vs ++ (value c y ∷ ws)) → ⊥))

-- the result says whether a further segment may follow those of which x is known
abbrev pub DecidesWhetherMore : {A T : Type 0} → Segmentation A → (List ℕ → T → A) → T → Type 0 → Type 0
DecidesWhetherMore {A} k value x may_follow =
    (n : ℕ) (m : BERMode) (vs : List A) (b c : List ℕ) → Pieces (IsSegmented k k.segment m n) vs c → k.join m vs (value b x) → may_follow ↔ k.more vs

-- the contents of a primitive element, whose bytes were appended to out, or why not
abbrev pub WholeAt : {A T : Type 0} → Segmentation A → (List ℕ → T → A) → BERMode → List ℕ → List ℕ → Result T ASN1ErrorKind → List ℕ → Type 0
WholeAt k value m c out (Ok x) out' =
    (b : List ℕ) × k.whole m (value b x) c × StaysWhole m k.full (length (k.bytes (value b x))) × (out' ≡ out ++ b)
WholeAt {A} k value m c out (Err e) out' =
    ((e ≡ OutOfMemory) × (c ≡ [] → ⊥)) ⊎ (BlamesBytes e × ((v : A) → k.whole m v c → StaysWhole m k.full (length (k.bytes v)) → ⊥))

-- segments at the start of c say vs, and y is after them
pub record LeadTo {A : Type 0} (R : A → List ℕ → Type 0) (c : List ℕ) (vs : List A) (y : List ℕ) : Type 0 where
  pub prefix : List ℕ
  pub pieces : Pieces R vs prefix
  pub joined : c ≡ prefix ++ y

-- segments make up c as far as y, where nothing or an end of contents is there
pub record MakeUpTo {A : Type 0} (k : Segmentation A) (n : ℕ) (m : BERMode) (c y : List ℕ) : Type 0 where
  pub values : List A
  pub value : A
  pub lead : LeadTo (IsSegmented k k.segment m n) c values y
  pub join : k.join m values value
  pub at_end : AtEnd y

-- reading segments from c meets one that no level is left for
abbrev pub IsDeepWithin : {A : Type 0} → Segmentation A → ℕ → BERMode → List ℕ → Type 0
IsDeepWithin k n m c = PiecesBefore (IsSegmented k k.segment m n) k.more (IsDeepSegmented k k.segment m n) c

-- how segments are cut that were cut as c says, and one of n bytes more, if k of them fill one
abbrev pub further_cut : Cuts → ℕ → ℕ → Cuts
further_cut c k n = record { some = true; full = c.full && nat_eq n k; even = c.some && (c.full && (nat_le 1 n && nat_le n k)) }

-- whether a mode accepts segments that are cut so
abbrev pub AcceptsCuts : BERMode → Cuts → Type 0
AcceptsCuts Ber c = Unit {0}
AcceptsCuts Der c = Unit {0}
AcceptsCuts Cer c = IsTrue c.even

-- c says how the segments of these values are cut
pub record AreCut {A : Type 0} (k : Segmentation A) (vs : List A) (c : Cuts) : Type 0 where
  pub some : IsTrue c.some ↔ (1 ≤ length vs)
  pub full : IsTrue c.full ↔ AllByRecursion (λ b. length b ≡ k.full) (map k.bytes vs)
  pub even : IsTrue c.even ↔ FallsInto Cer k.full (map k.bytes vs)

-- Segments of a constructed string, read one after the other (X.690, 8.6.4 and 8.7.3). values: what the contents octets of
-- each segment say. bytes: the octets of the values, one after the other. known: what is known besides of the value that the
-- segments make up. cuts: how long they are
pub record SegmentsRead (A T : Type 0) : Type 0 where
  pub values : List A
  pub bytes : List ℕ
  pub known : T
  pub cuts : Cuts

-- Such segments are at the start of c, and y is after them. lead: they are encodings of the segment's type. join: their
-- contents octets, joined in order, say a value. cut: they are as long as is said
pub record ReadsUpTo {A T : Type 0} (k : Segmentation A) (value : List ℕ → T → A) (n : ℕ) (m : BERMode) (c : List ℕ) (x : SegmentsRead A T)
    (y : List ℕ) : Type 0 where
  pub lead : LeadTo (IsSegmented k k.segment m n) c x.values y
  pub join : k.join m x.values (value x.bytes x.known)
  pub cut : AreCut k x.values x.cuts

-- Segments of a string, after which none follows. only: no other segments make up c. not_deep: none is too deep
pub record TakesSegments {A T : Type 0} (k : Segmentation A) (value : List ℕ → T → A) (n : ℕ) (m : BERMode) (c : List ℕ) (x : SegmentsRead A T)
    (y : List ℕ) : Type 0 where
  pub read : ReadsUpTo k value n m c x y
  pub only : (z : List ℕ) (e : MakeUpTo k n m c z) → (z ≡ y) × (e.values ≡ x.values)
  pub not_deep : IsDeepWithin k n m c → ⊥

-- P holds of segments of which x and u are what is known and how they are cut, and their bytes were appended to out
pub record Appends {A T : Type 0} (P : SegmentsRead A T → Type 0) (x : T) (u : Cuts) (out out' : List ℕ) : Type 0 where
  pub values : List A
  pub bytes : List ℕ
  pub holds : P (record { values = values; bytes = bytes; known = x; cuts = u })
  pub added : out' ≡ out ++ bytes

-- no segments make up c
pub record RejectsSegments {A : Type 0} (k : Segmentation A) (n : ℕ) (m : BERMode) (c : List ℕ) (e : Rejection) : Type 0 where
  pub none : (e.kind ≡ OutOfMemory → ⊥) → (z : List ℕ) → MakeUpTo k n m c z → ⊥
  pub consumed : e.consumed ≡ true
  pub too_deep : e.kind ≡ StackOverflow → IsDeepWithin k n m c
  pub deep : (e.kind ≡ OutOfMemory → ⊥) → IsDeepWithin k n m c → e.kind ≡ StackOverflow
  pub not_empty : c ≡ [] → ⊥

-- what reading segments returns, by its case
abbrev pub SegmentsAt : {A T : Type 0} → Segmentation A → (List ℕ → T → A) → ℕ → BERMode → List ℕ → List ℕ →
    Result ((T × Cuts) × Bor (List ℕ)) Rejection → List ℕ → Type 0
SegmentsAt k value n m c out (Ok x) out' = Appends (λ s. TakesSegments k value n m c s x.1.now) x.0.0 x.0.1 out out'
SegmentsAt k value n m c out (Err e) out' = RejectsSegments k n m c e

-- a string is at the start of s, its bytes were appended to out, and x is known of it besides
pub record TakesString {A T : Type 0} (k : Segmentation A) (value : List ℕ → T → A) (n : ℕ) (m : BERMode) (t : Tag) (s out : List ℕ) (x : T)
    (r out' : List ℕ) : Type 0 where
  pub bytes : List ℕ
  pub takes : Takes (IsSegmented k t m n) s (value bytes x) r
  pub added : out' ≡ out ++ bytes

-- no string does
abbrev pub RejectsString : {A : Type 0} → Segmentation A → ℕ → BERMode → Tag → List ℕ → Rejection → Type 0
RejectsString k n m t s e = Rejects (HasPrefix (IsSegmented k t m n) s) (IsDeepSegmented k t m n s) (MayAllocate n t s) (IsElsewhere t s) e

-- what reading a string returns, by its case; where it consumed nothing, nothing was appended
abbrev pub StringAt : {A T : Type 0} → Segmentation A → (List ℕ → T → A) → ℕ → BERMode → Tag → List ℕ → List ℕ → Result (T × Bor (List ℕ)) Rejection →
    List ℕ → Type 0
StringAt k value n m t s out (Ok x) out' = TakesString k value n m t s out x.0 x.1.now out'
StringAt k value n m t s out (Err e) out' = RejectsString k n m t s e × (e.consumed ≡ false → out' ≡ out)

-- as `StringAt`, where the bytes are put in a new vector
abbrev pub WithVecAt : {A T : Type 0} → Segmentation A → (List ℕ → T → A) → ℕ → BERMode → Tag → List ℕ →
    Result ((Vec ℕ Global × T) × Bor (List ℕ)) Rejection → Type 0
WithVecAt k value n m t s r = SeenAt (IsSegmented k t m n) (λ v. value v.0.items v.1) (IsDeepSegmented k t m n s) (MayAllocate n t s) (IsElsewhere t s) s r

-- the octet string in a vector's bytes, and the rest, or an error
abbrev pub OctetsAt : ℕ → BERMode → Tag → List ℕ → Result (Vec ℕ Global × Bor (List ℕ)) Rejection → Type 0
OctetsAt n m t s r = SeenAt (IsOctets t m n) (λ v. v.items) (IsDeepOctets t m n s) (MayAllocate n t s) (IsElsewhere t s) s r

-- the octets of a string in one primitive element where they are, and the rest, or the header of a constructed one
abbrev pub WholeOctetsAt : ℕ → BERMode → Tag → List ℕ → Result (Option (Bor (List ℕ) × Bor (List ℕ))) Rejection → Type 0
WholeOctetsAt n m t s (Ok (Some x)) = Takes (IsOctets t m n) s x.0.now x.1.now
WholeOctetsAt n m t s (Ok None) = (c : List ℕ) × (e : ContentsEnd) × OpensAt m t Constructed s c e
WholeOctetsAt n m t s (Err e) = RejectsString octets_segmentation n m t s e

-- the bit string in a vector's bytes and the count of its bits
abbrev pub bits_in : Vec ℕ Global × ℕ → BitString
bits_in v = record { bytes = v.0.items; count = v.1 }

-- what reading a bit string returns
abbrev pub BitsAt : ℕ → BERMode → Tag → List ℕ → Result ((Vec ℕ Global × ℕ) × Bor (List ℕ)) Rejection → Type 0
BitsAt n m t s r = SeenAt (IsBits t m n) bits_in (IsDeepBits t m n s) (MayAllocate n t s) (IsElsewhere t s) s r
