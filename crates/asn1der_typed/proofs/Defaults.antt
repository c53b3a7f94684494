-- Elements in DER that have the number that their part has if it is absent.
use Rattle.std.proofs.Common.{◌≡◌, ◌↔◌, ℕ, zero, suc, ◌<◌, ◌^◌, Bool, List, [], ◌++◌, length, take, drop, refl, sym, ap, ◌∙◌, subst, append-nil, arith}
use Rattle.std.proofs.lemmas.List.{take_at, drop_at}
use Rattle.std.specs.Prelude.{IsTrue}
use Rattle.yasna_base.specs.Canonical.{canonical_element, definite_element}
use Rattle.yasna_base.specs.Digits.{IsBytes}
use Rattle.yasna_base.specs.Element.{Element, IsPrimitive}
use Rattle.yasna_base.specs.Identifier.{BeginsWithTag, begins, identifier}
use Rattle.yasna_base.specs.Length.{shortest_length}
use Rattle.yasna_base.specs.Segmented.{Segmentation, IsSegmented, Segmented, whole as one, in_segments, segment_mode}
use Rattle.yasna_base.specs.declared.mode.BERMode.{BERMode}
use Rattle.yasna_base.specs.declared.mode.BERMode.TheVariants.{Ber, Der}
use Rattle.yasna_base.specs.declared.tag.PCBit.{PCBit}
use Rattle.yasna_base.specs.declared.tag.PCBit.TheVariants.{Primitive, Constructed}
use Rattle.yasna_base.specs.declared.tag.Tag.{Tag}
use Rattle.yasna_base.proofs.Canonical.{canonical_element_is}
use Rattle.yasna_base.proofs.Digits.{bytes_after}
use Rattle.yasna_base.proofs.Element.{primitive_exact, element_begins}
use Rattle.yasna_base.proofs.Identifier.{begins_once}
use Rattle.yasna_base.proofs.Segmented.{segmented_zero, segmented_into}
use Rattle.yasna_bytes.specs.Header.{AreContents}
use Rattle.yasna_bytes.specs.Prefix.{Takes, HasPrefix}
use Rattle.yasna_bytes.specs.Rejection.{Rejects}
use Rattle.yasna_bytes.specs.declared.bytes.header.Rejection.{Rejection}
use Rattle.asn1show_schema.specs.Values.{HasNumber}
use Rattle.asn1show_schema.specs.declared.schema.Number.{Number}
use Rattle.asn1show_schema.specs.declared.schema.ValueType.{ValueType}
use Rattle.asn1der_typed.specs.Appending.{HasDefault, HasDerContents, in_one, bit_string, octet_string, IsOfType, whole, around, AppendsSameTag, AppendsUnlessDefault, omitted}

contents_in_bytes : (t : Tag) (bit : PCBit) (c : List ℕ) → IsBytes (canonical_element Der t bit c) → IsBytes c
unfolding canonical_element definite_element
contents_in_bytes t Primitive c h = bytes_after (shortest_length (length c)) c (bytes_after (identifier t Primitive) (shortest_length (length c) ++ c) h)
contents_in_bytes t Constructed c h = bytes_after (shortest_length (length c)) c (bytes_after (identifier t Constructed) (shortest_length (length c) ++ c) h)

-- what was written is an element in DER
element_in_der : (t : Tag) (bit : PCBit) (c b : List ℕ) → t.tag_number < 2 ^ 64 → b ≡ canonical_element Der t bit c → IsBytes b → length b < 2 ^ 64 → Element Der t bit c b
element_in_der t bit c b small e bytes short =
    let in_bytes = contents_in_bytes t bit c (subst IsBytes e bytes) in
    subst (Element Der t bit c) (sym e) (canonical_element_is Der Der t bit c tt small in_bytes (subst (λ z. length z < 2 ^ 64) e short))

-- the contents that were read are those that were written
pub default_read : (value : ValueType) (n : Number) (u t : Tag) (bit : PCBit) (k : ℕ) (m : BERMode) (c d b s r : List ℕ) (found : Bool) → k ≡ 101 → m ≡ Der → s ≡ b →
    t.tag_number < 2 ^ 64 → b ≡ canonical_element Der t bit c → IsBytes b → length b < 2 ^ 64 → Takes (IsPrimitive AreContents u m k) s d r →
    IsTrue found ↔ HasNumber value d n → IsTrue found ↔ HasDefault value n bit c
default_read value n u t bit k m c d b s r found levels mode left small e bytes short taken h =
    let one = subst (λ z. Takes (IsPrimitive AreContents u m z) s d r) levels taken in
    let two = subst (λ (z : BERMode). Takes (IsPrimitive AreContents u z 101) s d r) mode one in
    let x = subst (λ z. Takes (IsPrimitive AreContents u Der 101) z d r) left two in
    let y = element_in_der t bit c b small e bytes short in
    let same = primitive_exact Der Der u t bit x.member.contents c x.prefix b r [] x.member.element y (sym x.joined ∙ sym (append-nil b)) in
    let contents : d ≡ c = x.member.meaning ∙ same.contents in
    (λ is. (sym same.bit, subst (λ z. HasNumber value z n) contents (h.0 is)), λ z. h.1 (subst (λ z. HasNumber value z n) (sym contents) z.1))

-- no contents were read, so the element is constructed
pub default_rejected : (value : ValueType) (n : Number) (u t : Tag) (bit found : PCBit) (k : ℕ) (m : BERMode) (c b s rest : List ℕ) (Deep Elsewhere : Type 0) (e : Rejection) →
    k ≡ 101 → m ≡ Der → s ≡ b → t.tag_number < 2 ^ 64 → b ≡ canonical_element Der t bit c → IsBytes b → length b < 2 ^ 64 → b ≡ identifier u found ++ rest →
    Rejects (HasPrefix (IsPrimitive AreContents u m k) s) Deep ⊥ Elsewhere e → HasDefault value n bit c → ⊥
default_rejected value n u t bit found k m c b s rest Deep Elsewhere e levels mode left small f bytes short i x h =
    let z = subst (λ (p : PCBit). Element Der t p c b) h.0 (element_in_der t bit c b small f bytes short) in
    let y = subst (λ (t : Tag). Element Der t Primitive c b) (begins_once t u b (element_begins Der t Primitive c b z) (begins found rest i)) z in
    let taken : HasPrefix (IsPrimitive AreContents u Der 101) b = (
      c,
      [],
      record { prefix = b; joined = sym (append-nil b); member = record { level = omega arith; contents = c; element = y; meaning = refl } },
    ) in
    x.none (λ o. x.memory o)
    (subst (λ z. HasPrefix (IsPrimitive AreContents u m z) s) (sym levels)
    (subst (λ (z : BERMode). HasPrefix (IsPrimitive AreContents u z 101) s) (sym mode) (subst (λ z. HasPrefix (IsPrimitive AreContents u Der 101) z) (sym left) taken)))

-- each element begins with an identifier
pub default_identified : (t : Tag) (bit : PCBit) (c b : List ℕ) → t.tag_number < 2 ^ 64 → b ≡ canonical_element Der t bit c → IsBytes b → length b < 2 ^ 64 →
    ((u : Tag) (found : PCBit) (r : List ℕ) → u.tag_number < 2 ^ 64 → b ≡ identifier u found ++ r → ⊥) → ⊥
default_identified t bit c b small e bytes short none = go (element_begins Der t bit c b (element_in_der t bit c b small e bytes short))
  where
    go : BeginsWithTag t b → ⊥
    go (begins found r f) = none t found r small f

segmented_small : {A : Type 0} (k : Segmentation A) (n : ℕ) (m : BERMode) (t : Tag) (v : A) (b : List ℕ) → IsSegmented k t m n v b → t.tag_number < 2 ^ 64
segmented_small k zero m t v b x = absurd (segmented_zero k m t v b x)
segmented_small {A} k (suc n) m t v b x = go (segmented_into k n m t v b x)
  where
    go : Segmented k (IsSegmented k k.segment (segment_mode m) n) m t v b → t.tag_number < 2 ^ 64
    go (one c e f g) = e.in_range
    go (in_segments f c vs e g h i) = e.in_range

contents_small : (value : ValueType) (t : Tag) (c b : List ℕ) → HasDerContents value t c b → t.tag_number < 2 ^ 64
contents_small value t c b (in_one x) = x.element.in_range
contents_small value t c b (bit_string e x) = segmented_small _ 101 Ber t x.bits b x.read
contents_small value t c b (octet_string e x) = segmented_small _ 101 Ber t x.octets b x.string

-- tag numbers have 64 bits
tag_small : (value : ValueType) (t : Tag) (s c : List ℕ) (bit : PCBit) → IsOfType value t s c bit → t.tag_number < 2 ^ 64
tag_small value t s c Primitive (whole x) = contents_small value t c x.1.prefix x.1.member
tag_small value t s c Constructed (around e x) = x.1.member.around.element.in_range

-- the test of what was appended
pub default_tested : (value : ValueType) (n : Number) (start : ℕ) (b out mid element : List ℕ) (found : Bool) → start ≡ length out → (x : AppendsSameTag value b out mid) →
    element ≡ drop start mid →
    ((t : Tag) (bit : PCBit) (c : List ℕ) → t.tag_number < 2 ^ 64 → element ≡ canonical_element Der t bit c → IsTrue found ↔ HasDefault value n bit c) →
    IsTrue found ↔ HasDefault value n x.element.bit x.element.contents
default_tested value n start b out mid element found begin x e h =
    let y = x.element in
    let last : drop start mid ≡ canonical_element Der x.tag y.bit y.contents =
    ap (drop start) y.bytes ∙ drop_at out (canonical_element Der x.tag y.bit y.contents) start (sym begin) in
    h x.tag y.bit y.contents (tag_small value x.tag b y.contents y.bit y.own) (e ∙ last)

-- it was omitted
pub default_omitted : (value : ValueType) (n : Number) (start : ℕ) (b out mid new : List ℕ) → start ≡ length out → (x : AppendsSameTag value b out mid) →
    HasDefault value n x.element.bit x.element.contents → new ≡ take start mid → AppendsUnlessDefault n value b out new
default_omitted value n start b out mid new begin x h e =
    omitted mid x h (e ∙ ap (take start) x.element.bytes ∙ take_at out (canonical_element Der x.tag x.element.bit x.element.contents) start (sym begin))
