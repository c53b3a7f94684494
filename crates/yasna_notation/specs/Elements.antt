-- Types each of whose encodings is one element (X.690, 8.1.1), and contents that are elements: those of a SET are found before they are read.
use Rattle.std.proofs.Common.{◌≡◌, ◌∷◌, ◌++◌, [], ◌<◌, ◌^◌, ℕ, zero, suc, List, inl, inr, refl, sym, ap, ◌∙◌, append-nil, arith}
use Rattle.std.specs.List.{concat}
use Rattle.yasna_base.specs.declared.mode.BERMode.{BERMode}
use Rattle.yasna_base.specs.declared.mode.BERMode.TheVariants.{Ber, Der, Cer}
use Rattle.yasna_base.specs.declared.tag.PCBit.TheVariants.{Primitive, Constructed}
use Rattle.yasna_base.specs.declared.tag.Tag.{Tag}
use Rattle.yasna_base.specs.Bits.{IsBits, bits_segmentation}
use Rattle.yasna_base.specs.Choice.{AnyEither}
use Rattle.yasna_base.specs.Coding.{Any}
use Rattle.yasna_base.specs.Digits.{IsBytes}
use Rattle.yasna_base.specs.Element.{Primitively, AnyEnclosed, Element, Framed, definite, indefinite, TakesIndefinite, end_of_contents}
use Rattle.yasna_base.specs.Grammar.{Members}
use Rattle.yasna_base.specs.Identifier.{AnyTag, end_tag}
use Rattle.yasna_base.specs.Octets.{IsOctets, octets_segmentation}
use Rattle.yasna_base.specs.Optional.{AnyOption}
use Rattle.yasna_base.specs.Pieces.{Each}
use Rattle.yasna_base.specs.Raw.{RawValue, IsRaw, IsJoining, DescendsInto, RawFramed, with_length, with_zeros}
use Rattle.yasna_base.specs.Segmented.{Segmentation, Segmented, IsSegmented, MaySegment, segment_mode, whole, in_segments}
use Rattle.yasna_base.specs.Sequence.{AnyPart, AnyNothing}
use Rattle.yasna_base.specs.SequenceOf.{AnyElements}
use Rattle.yasna_base.specs.Set.{AnySetOfElements}
use Rattle.yasna_base.specs.Text.{IsStringOf}
use Rattle.yasna_base.proofs.Digits.{bytes_append}
use Rattle.yasna_base.proofs.Identifier.{not_end}
use Rattle.yasna_base.proofs.Raw.{raw_of}
use Rattle.yasna_base.proofs.Segmented.{segmented_zero, segmented_into}

-- each encoding is one element
abbrev pub AreSingleElements : Members → Type 0
AreSingleElements S = (m : BERMode) (n : ℕ) (b : List ℕ) → S m n b → (v : RawValue) × IsRaw m n v b

no_descent : (m : BERMode) → DescendsInto m Primitive → ⊥
no_descent Ber l = l
no_descent Der l = l
no_descent Cer l = l

no_zeros : (m : BERMode) → TakesIndefinite m Primitive → ⊥
no_zeros Ber i = i
no_zeros Der i = i
no_zeros Cer i = i

-- primitive types
pub primitive_elements : {A : Type 0} (W : BERMode → A → List ℕ → Type 0) → AnyTag (λ t. AreSingleElements (Any (Primitively W t)))
primitive_elements W t not_end range m zero b p = absurd (omega (arith, p.1.level))
primitive_elements W t not_end range m (suc n) b p = (
  record { tag = t; bit = Primitive; payload = p.1.contents },
  raw_of n m (record { tag = t; bit = Primitive; payload = p.1.contents }) b
      (record { not_end = not_end; in_range = range; in_bytes = p.1.element.in_bytes; framed = frame p.1.element.framed }),
)
  where
    frame : Framed m t Primitive p.1.contents b → RawFramed (IsRaw m n) m (record { tag = t; bit = Primitive; payload = p.1.contents }) b
    frame (definite d) = with_length d (λ l. absurd (no_descent m l))
    frame (indefinite i) = absurd (no_zeros m i.taken)

zeros_bytes : IsBytes end_of_contents
zeros_bytes = (omega arith, (omega arith, tt))

-- elements whose contents are elements, one after the other
pub enclosed_elements : (S : Members) → ((m : BERMode) (n : ℕ) (c : List ℕ) → S m n c → IsJoining (IsRaw m n) c) → AnyTag (λ t. AreSingleElements (AnyEnclosed S t))
enclosed_elements S join t not_end range m zero b p = absurd p
enclosed_elements S join t not_end range m (suc n) b p = frame p.element.framed
  where
    frame : Framed m t Constructed p.contents b → (v : RawValue) × IsRaw m (suc n) v b
    frame (definite d) = (
      record { tag = t; bit = Constructed; payload = p.contents },
      raw_of n m (record { tag = t; bit = Constructed; payload = p.contents }) b (record {
        not_end = not_end;
        in_range = range;
        in_bytes = p.element.in_bytes;
        framed = with_length d (λ l. join m n p.contents p.meaning);
      }),
    )
    frame (indefinite i) = (
      record { tag = t; bit = Constructed; payload = p.contents ++ end_of_contents },
      raw_of n m (record { tag = t; bit = Constructed; payload = p.contents ++ end_of_contents }) b (record {
        not_end = not_end;
        in_range = range;
        in_bytes = bytes_append p.contents end_of_contents p.element.in_bytes zeros_bytes;
        framed = with_zeros p.contents i (join m n p.contents p.meaning) refl;
      }),
    )

-- one element is such contents
pub one_joined : {S : Members} → AreSingleElements S → (m : BERMode) (n : ℕ) (c : List ℕ) → S m n c → IsJoining (IsRaw m n) c
one_joined x m n c p =
    let v = x m n c p in
    (v.0 ∷ [], record { pieces = c ∷ []; each = (v.1, tt); joined = sym (append-nil c) })

-- an EXPLICIT tag
pub explicit_elements : {S : Members} → AreSingleElements S → AnyTag (λ t. AreSingleElements (AnyEnclosed S t))
explicit_elements {S} x = enclosed_elements S (one_joined x)

-- strings, whole or in segments
module _ {A : Type 0} (k : Segmentation A) (other : k.segment ≡ end_tag → ⊥) (in_range : k.segment.tag_number < 2 ^ 64) where
  whole_raw : (m o : BERMode) (n : ℕ) (t : Tag) → (t ≡ end_tag → ⊥) → t.tag_number < 2 ^ 64 → (c b : List ℕ) → Element m t Primitive c b →
      (Framed m t Primitive c b → RawFramed (IsRaw o n) o (record { tag = t; bit = Primitive; payload = c }) b) → (v : RawValue) × IsRaw o (suc n) v b
  whole_raw m o n t not_end range c b e frame = (
    record { tag = t; bit = Primitive; payload = c },
    raw_of n o (record { tag = t; bit = Primitive; payload = c }) b
        (record { not_end = not_end; in_range = range; in_bytes = e.in_bytes; framed = frame e.framed }),
  )

  frame_as : (m : BERMode) (n : ℕ) (t : Tag) (c b : List ℕ) → Framed m t Primitive c b → RawFramed (IsRaw m n) m (record { tag = t; bit = Primitive; payload = c }) b
  frame_as m n t c b (definite d) = with_length d (λ l. absurd (no_descent m l))
  frame_as m n t c b (indefinite i) = absurd (no_zeros m i.taken)

  -- a primitive element of DER is one of CER
  frame_der : (n : ℕ) (t : Tag) (c b : List ℕ) → Framed Der t Primitive c b → RawFramed (IsRaw Cer n) Cer (record { tag = t; bit = Primitive; payload = c }) b
  frame_der n t c b (definite d) = with_length (record { taken = tt; l = d.l; spelled = d.spelled; joined = d.joined }) (λ l. absurd l)
  frame_der n t c b (indefinite i) = absurd (i.taken)

  segment_in_cer : (n : ℕ) (v : A) (b : List ℕ) → IsSegmented k k.segment Der n v b → (w : RawValue) × IsRaw Cer n w b
  segment_in_cer zero v b p = absurd (segmented_zero k Der k.segment v b p)
  segment_in_cer (suc n) v b p = by_kind (segmented_into k n Der k.segment v b p)
    where
      by_kind : Segmented k (IsSegmented k k.segment (segment_mode Der) n) Der k.segment v b → (w : RawValue) × IsRaw Cer (suc n) w b
      by_kind (whole c e w stays) = whole_raw Der Cer n k.segment other in_range c b e (frame_der n k.segment c b)
      by_kind (in_segments may c vs e q j f) = absurd may

  each_raw : (R : A → List ℕ → Type 0) (Q : RawValue → List ℕ → Type 0) → ((v : A) (b : List ℕ) → R v b → (w : RawValue) × Q w b) → (vs : List A)
      (bs : List (List ℕ)) → Each R vs bs → (ws : List RawValue) × Each Q ws bs
  each_raw R Q f [] [] e = ([], tt)
  each_raw R Q f [] (b ∷ bs) e = absurd e
  each_raw R Q f (v ∷ vs) [] e = absurd e
  each_raw R Q f (v ∷ vs) (b ∷ bs) e = let w = f v b e.0 in let ws = each_raw R Q f vs bs e.1 in (w.0 ∷ ws.0, (w.1, ws.1))

  -- a segment is an element, if one of BER is
  segment_raw : (n : ℕ) (o : BERMode) → ((u : A) (d : List ℕ) → IsSegmented k k.segment Ber n u d → (w : RawValue) × IsRaw Ber n w d) → (u : A) (d : List ℕ) →
      MaySegment o → IsSegmented k k.segment (segment_mode o) n u d → (w : RawValue) × IsRaw o n w d
  segment_raw n Ber lower u d may q = lower u d q
  segment_raw n Der lower u d may q = absurd may
  segment_raw n Cer lower u d may q = segment_in_cer n u d q

  no_into : (o : BERMode) → MaySegment o → DescendsInto o Constructed → ⊥
  no_into Ber may l = l
  no_into Der may l = may
  no_into Cer may l = l

  cut_raw : (n : ℕ) (m : BERMode) (t : Tag) → (t ≡ end_tag → ⊥) → t.tag_number < 2 ^ 64 → MaySegment m → (c b : List ℕ) (vs : List A) →
      Element m t Constructed c b → (ps : List (List ℕ)) (ws : List RawValue) → Each (IsRaw m n) ws ps → c ≡ concat ps → Framed m t Constructed c b →
      (w : RawValue) × IsRaw m (suc n) w b
  cut_raw n m t not_end range may c b vs e ps ws each j (definite d) = (
    record { tag = t; bit = Constructed; payload = c },
    raw_of n m (record { tag = t; bit = Constructed; payload = c }) b
        (record { not_end = not_end; in_range = range; in_bytes = e.in_bytes; framed = with_length d (λ l. absurd (no_into m may l)) }),
  )
  cut_raw n m t not_end range may c b vs e ps ws each j (indefinite i) = (
    record { tag = t; bit = Constructed; payload = c ++ end_of_contents },
    raw_of n m (record { tag = t; bit = Constructed; payload = c ++ end_of_contents }) b (record {
      not_end = not_end;
      in_range = range;
      in_bytes = bytes_append c end_of_contents e.in_bytes zeros_bytes;
      framed = with_zeros c i (ws, record { pieces = ps; each = each; joined = j }) refl;
    }),
  )

  level_raw : (n : ℕ) (m : BERMode) (t : Tag) → (t ≡ end_tag → ⊥) → t.tag_number < 2 ^ 64 →
      ((u : A) (d : List ℕ) → IsSegmented k k.segment Ber n u d → (w : RawValue) × IsRaw Ber n w d) → (v : A) (b : List ℕ) →
      Segmented k (IsSegmented k k.segment (segment_mode m) n) m t v b → (w : RawValue) × IsRaw m (suc n) w b
  level_raw n m t not_end range lower v b (whole c e w stays) = whole_raw m m n t not_end range c b e (frame_as m n t c b)
  level_raw n m t not_end range lower v b (in_segments may c vs e q j f) =
      let ws = each_raw (IsSegmented k k.segment (segment_mode m) n) (IsRaw m n) (λ u d x. segment_raw n m lower u d may x) vs q.pieces q.each in
      cut_raw n m t not_end range may c b vs e q.pieces ws.0 ws.1 q.joined e.framed

  string_raw : (n : ℕ) (m : BERMode) (t : Tag) → (t ≡ end_tag → ⊥) → t.tag_number < 2 ^ 64 → (v : A) (b : List ℕ) → IsSegmented k t m n v b →
      (w : RawValue) × IsRaw m n w b
  string_raw zero m t not_end range v b p = absurd (segmented_zero k m t v b p)
  string_raw (suc n) m t not_end range v b p =
      level_raw n m t not_end range (λ u d q. string_raw n Ber k.segment other in_range u d q) v b (segmented_into k n m t v b p)

  pub segmented_elements : AnyTag (λ t. AreSingleElements (Any (IsSegmented k t)))
  segmented_elements t not_end range m n b p = string_raw n m t not_end range p.0 b p.1

pub octets_elements : AnyTag (λ t. AreSingleElements (Any (IsOctets t)))
octets_elements = segmented_elements octets_segmentation (not_end 4 (λ e. omega arith)) (omega arith)

pub bits_elements : AnyTag (λ t. AreSingleElements (Any (IsBits t)))
bits_elements = segmented_elements bits_segmentation (not_end 3 (λ e. omega arith)) (omega arith)

pub string_elements : {A : Type 0} (K : BERMode → A → List ℕ → Type 0) → AnyTag (λ t. AreSingleElements (Any (IsStringOf K t)))
string_elements K t other range m n b p = octets_elements t other range m n b (p.1.octets, p.1.string)

-- contents that are elements, one after the other
abbrev pub AreJoined : Members → Type 0
AreJoined Q = (m : BERMode) (n : ℕ) (c : List ℕ) → Q m n c → IsJoining (IsRaw m n) c

pub nothing_joined : AreJoined AnyNothing
nothing_joined m n c p = ([], record { pieces = []; each = tt; joined = p })

pub part_joined : {S Q : Members} → AreSingleElements S → AreJoined Q → AreJoined (AnyPart S Q)
part_joined x y m n c p =
    let v = x m n p.prefix p.here in
    let w = y m n p.rest p.more in
    (v.0 ∷ w.0, record { pieces = p.prefix ∷ w.1.pieces; each = (v.1, w.1.each); joined = p.joined ∙ ap (λ r. p.prefix ++ r) w.1.joined })

pub option_joined : {S Q : Members} → AreSingleElements S → AreJoined Q → AreJoined (AnyPart (AnyOption S) Q)
option_joined {S} {Q} x y m n c p = by_prefix p.here
  where
    by_prefix : AnyOption S m n p.prefix → IsJoining (IsRaw m n) c
    by_prefix (inl k) = part_joined x y m n c (record { prefix = p.prefix; rest = p.rest; joined = p.joined; here = k; more = p.more })
    by_prefix (inr k) = let w = y m n p.rest p.more in
        (w.0, record { pieces = w.1.pieces; each = w.1.each; joined = p.joined ∙ ap (λ r. r ++ p.rest) k ∙ w.1.joined })

pub elements_joined : {S : Members} → AreSingleElements S → AreJoined (AnyElements S)
elements_joined {S} x m n c p = let w = all p.0 p.1.pieces p.1.each in (w.0, record { pieces = p.1.pieces; each = w.1; joined = p.1.joined })
  where
    all : (us : List (Unit {0})) (bs : List (List ℕ)) → Each (λ u. S m n) us bs → (ws : List RawValue) × Each (IsRaw m n) ws bs
    all [] [] e = ([], tt)
    all [] (b ∷ bs) e = absurd e
    all (u ∷ us) [] e = absurd e
    all (u ∷ us) (b ∷ bs) e = let v = x m n b e.0 in let ws = all us bs e.1 in (v.0 ∷ ws.0, (v.1, ws.1))

pub set_of_joined : {S : Members} → AreSingleElements S → AreJoined (AnySetOfElements S)
set_of_joined x m n c p = elements_joined x m n c (p.0, p.1.elements)

-- each encoding of either is one element
pub either_elements : {S Q : Members} → AreSingleElements S → AreSingleElements Q → AreSingleElements (AnyEither S Q)
either_elements x y m n b (inl p) = x m n b p
either_elements x y m n b (inr p) = y m n b p
