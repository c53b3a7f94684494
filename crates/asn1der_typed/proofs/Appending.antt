-- Elements that are appended to an output.
use Rattle.std.proofs.Common.{◌≡◌, ℕ, zero, suc, not, eqb, get_or, ◌+◌, ◌-◌, ◌*◌, ◌/◌, ◌%◌, ◌<◌, ◌≤◌, List, [], ◌∷◌, ◌++◌, length, take, drop, refl, sym, ap, ap₂, ◌∙◌, subst, inl, inr, arith}
use Rattle.std.proofs.Math.Dec.{eqb-suc-zero}
use Rattle.std.specs.List.{concat}
use Rattle.std.proofs.lemmas.Bool.{cases_lt}
use Rattle.std.proofs.lemmas.List.{append_cancel_right, take_at, drop_at}
use Rattle.yasna_base.specs.Bits.{bits_tag}
use Rattle.yasna_base.specs.Boolean.{IsBoolean, encodes_false, encodes_true, boolean_byte, boolean_tag}
use Rattle.yasna_base.specs.Digits.{IsBytes, base128}
use Rattle.yasna_base.specs.Element.{IsPrimitive}
use Rattle.yasna_base.specs.Header.{ContentsEnd, OpensAt, EndsBefore}
use Rattle.yasna_base.specs.Identifier.{identifier, class_number, begins}
use Rattle.yasna_base.specs.Length.{shortest_length}
use Rattle.yasna_base.specs.Octets.{IsOctets}
use Rattle.yasna_base.specs.Set.{parts_bytes}
use Rattle.yasna_base.specs.Text.{IsStringOf}
use Rattle.yasna_base.specs.declared.mode.BERMode.{BERMode}
use Rattle.yasna_base.specs.declared.mode.BERMode.TheVariants.{Ber}
use Rattle.yasna_base.specs.declared.tag.PCBit.{PCBit}
use Rattle.yasna_base.specs.declared.tag.PCBit.TheVariants.{Primitive, Constructed}
use Rattle.yasna_base.specs.declared.tag.Tag.{Tag}
use Rattle.yasna_base.proofs.Identifier.{identifier_short, identifier_long}
use Rattle.yasna_bytes.specs.Header.{AreContents}
use Rattle.yasna_bytes.specs.Prefix.{Takes}
use Rattle.yasna_bytes.proofs.Ending.{closed}
use Rattle.asn1_contents.specs.Contents.{HasContents}
use Rattle.asn1_contents.specs.ContentsType.{type_with}
use Rattle.asn1_contents.specs.declared.contents_type.ContentsType.{ContentsType}
use Rattle.asn1der_convert.specs.Parts.{ArePartsOf, AppendsContents, AppendsParts}
use Rattle.asn1der_convert.specs.ContentsClass.{IsOfClass}
use Rattle.asn1der_convert.specs.Tags.{IsStringTag, IsConstructedTag, IsOtherConstructed}
use Rattle.asn1der_convert.specs.declared.contents_class.ContentsClass.{ContentsClass}
use Rattle.asn1der_convert.specs.declared.contents_class.ContentsClass.TheVariants.{EndOfContents, Boolean, Bits, Octets, Other}
use Rattle.asn1der_convert.proofs.Appends.{der_element}
use Rattle.asn1der_convert.proofs.Encodings.{string_small}
use Rattle.asn1show_schema.specs.declared.schema.ValueType.{ValueType}
use Rattle.asn1der_typed.specs.Appending.{universal_tag, IsBooleanOf, AreContentsOf, HasDerContents, HasDerElements, StartsWith, AppendsUnder, AppendsElement, AppendsSameTag}
use Rattle.asn1der_typed.specs.Appending.{other, in_one, whole, around}

-- bit 6 is cleared in the first byte
cleared : (class low : ℕ) → low < 32 → (64 * class + 32 * 1 + low) % 32 + (64 * class + 32 * 1 + low) / 64 * 64 ≡ 64 * class + 32 * 0 + low
cleared class low h = omega (arith, h)

primitive_short : (t : Tag) (first : ℕ) (others : List ℕ) → t.tag_number < 31 → first ∷ others ≡ identifier t Constructed →
    (first % 32 + first / 64 * 64) ∷ others ≡ identifier t Primitive
primitive_short t first others small e =
    let k = class_number t.tag_class in
    let f = e ∙ identifier_short t Constructed small in
    let one : first ≡ 64 * k + 32 * 1 + t.tag_number = cc in
    let none : others ≡ [] = cc in
    ap₂ (λ b bs. b ∷ bs) (ap (λ b. b % 32 + b / 64 * 64) one ∙ cleared k t.tag_number (omega (arith, small))) none ∙ sym (identifier_short t Primitive small)

primitive_long : (t : Tag) (first : ℕ) (others : List ℕ) → 31 ≤ t.tag_number → first ∷ others ≡ identifier t Constructed →
    (first % 32 + first / 64 * 64) ∷ others ≡ identifier t Primitive
primitive_long t first others large e =
    let k = class_number t.tag_class in
    let f = e ∙ identifier_long t Constructed large in
    let one : first ≡ 64 * k + 32 * 1 + 31 = cc in
    let rest : others ≡ base128 t.tag_number = cc in
    ap₂ (λ b bs. b ∷ bs) (ap (λ b. b % 32 + b / 64 * 64) one ∙ cleared k 31 (omega arith)) rest ∙ sym (identifier_long t Primitive large)

-- the identifier of a primitive element
pub primitive_is : (t : Tag) (first : ℕ) (others : List ℕ) → first ∷ others ≡ identifier t Constructed →
    (first % 32 + first / 64 * 64) ∷ others ≡ identifier t Primitive
primitive_is t first others e = elim (cases_lt t.tag_number 31) [
  | inl h ↦ primitive_short t first others h e
  | inr h ↦ primitive_long t first others h e
]

-- the identifier is what is before the other bytes
pub identifier_cut : (t : Tag) (bit : PCBit) (b i r : List ℕ) → b ≡ identifier t bit ++ r → b ≡ i ++ r → i ≡ identifier t bit
identifier_cut t bit b i r e f = append_cancel_right i (identifier t bit) r (sym f ∙ e)

-- what the contents are follows from what they were said to be
pub under_so : (P Q : List ℕ → Type 0) (i s s' : List ℕ) → ((c : List ℕ) → P c → Q c) → AppendsUnder P i s s' → AppendsUnder Q i s s'
under_so P Q i s s' f x = record { contents = x.contents; own = f x.contents x.own; bytes = x.bytes }

-- so does what an element at the start is
pub starts_so : (B C : List ℕ → List ℕ → Type 0) (s i o o' : List ℕ) → ((c b : List ℕ) → B c b → C c b) → AppendsUnder (StartsWith B s) i o o' →
    AppendsUnder (StartsWith C s) i o o'
starts_so B C s i o o' f x =
    under_so (StartsWith B s) (StartsWith C s) i o o'
    (λ c y. (y.0, record { prefix = y.1.prefix; joined = y.1.joined; member = f c y.1.prefix y.1.member })) x

-- a primitive element with the identifier of a tag was appended
pub element_of : (value : ValueType) (t : Tag) (b i s s' : List ℕ) → i ≡ identifier t Primitive → AppendsUnder (StartsWith (HasDerContents value t) b) i s s' →
    AppendsElement value t b s s'
element_of value t b i s s' e x = record {
  bit = Primitive;
  contents = x.contents;
  own = whole x.own;
  bytes = x.bytes ∙ ap (λ z. s ++ z) (der_element t Primitive i x.contents e);
}

-- a constructed element with the identifier of a tag was appended
pub element_around : (value : ValueType) (t : Tag) (b i s s' : List ℕ) → IsOtherConstructed (universal_tag value) → i ≡ identifier t Constructed →
    AppendsUnder (StartsWith (HasDerElements t) b) i s s' → AppendsElement value t b s s'
element_around value t b i s s' own e x = record {
  bit = Constructed;
  contents = x.contents;
  own = around own x.own;
  bytes = x.bytes ∙ ap (λ z. s ++ z) (der_element t Constructed i x.contents e);
}

-- it has the tag that b begins with
pub same_tag : (value : ValueType) (t : Tag) (bit : PCBit) (b r s s' : List ℕ) → b ≡ identifier t bit ++ r → AppendsElement value t b s s' → AppendsSameTag value b s s'
same_tag value t bit b r s s' e x = record { tag = t; begins = begins bit r e; element = x }

-- the primitive element that was read is that of its contents
pub contents_read : (value : ValueType) (t : Tag) (n : ℕ) (m : BERMode) (s c r i o o' : List ℕ) → n ≡ 101 → m ≡ Ber →
    Takes (IsPrimitive AreContents t m n) s c r → AppendsUnder (λ d. AreContentsOf value d c) i o o' → AppendsUnder (StartsWith (HasDerContents value t) s) i o o'
contents_read value t n m s c r i o o' e f x =
    let y = subst (λ k. Takes (IsPrimitive AreContents t Ber k) s c r) e (subst (λ (z : BERMode). Takes (IsPrimitive AreContents t z n) s c r) f x) in
    under_so (λ d. AreContentsOf value d c) (StartsWith (HasDerContents value t) s) i o o'
    (λ d h. (
      r,
      record {
        prefix = y.prefix;
        joined = y.joined;
        member = in_one (record {
          level = y.member.level;
          contents = y.member.contents;
          element = y.member.element;
          meaning = subst (AreContentsOf value d) y.member.meaning h;
        });
      },
    ))

-- contents of a type that is neither BOOLEAN nor BIT STRING were appended
pub contents_of : (value : ValueType) (k : ContentsType) (c i s s' : List ℕ) → (universal_tag value ≡ boolean_tag → ⊥) → (universal_tag value ≡ bits_tag → ⊥) →
    (IsConstructedTag (universal_tag value) → ⊥) → k ≡ type_with (universal_tag value) → AppendsContents k i c s s' → AppendsUnder (λ d. AreContentsOf value d c) i s s'
contents_of value k c i s s' f g h e x = record {
  contents = x.contents;
  own = other f g h (subst (λ (z : ContentsType). HasContents z Ber x.contents c) e x.meaning);
  bytes = x.bytes;
}

-- one octet is a truth
boolean_read : (c : List ℕ) → 1 ≤ length c → length c < 2 → IsBytes c → IsBoolean Ber (not (eqb (get_or c 0 0) 0)) c
boolean_read [] h l b = absurd (omega (arith, h))
boolean_read (zero ∷ []) h l b = encodes_false refl refl
boolean_read (suc x ∷ []) h l b = encodes_true (suc x) (λ e. absurd (omega (arith, e))) b (ap not (eqb-suc-zero x)) refl
boolean_read (x ∷ y ∷ c) h l b = absurd (omega (arith, l))

-- a BOOLEAN was appended
pub boolean_of : (c : List ℕ) (b : ℕ) (i s s' : List ℕ) → 1 ≤ length c → length c < 2 → IsBytes c → b ≡ boolean_byte (not (eqb (get_or c 0 0) 0)) →
    s' ≡ s ++ (i ++ (shortest_length (length (b ∷ [])) ++ (b ∷ []))) → AppendsUnder (λ d. IsBooleanOf d c) i s s'
boolean_of c b i s s' h l bytes e f =
    record { contents = b ∷ []; own = record { truth = not (eqb (get_or c 0 0) 0); read = boolean_read c h l bytes; written = ap (λ z. z ∷ []) e }; bytes = f }

-- the octets of segments were appended
pub octets_read : (k : ContentsType) (u t : Tag) (n : ℕ) (m : BERMode) (s c r i o o' : List ℕ) → n ≡ 101 → m ≡ Ber → k ≡ type_with u → Takes (IsOctets t m n) s c r →
    AppendsContents k i c o o' → AppendsUnder (StartsWith (IsStringOf (HasContents (type_with u)) t Ber 101) s) i o o'
octets_read k u t n m s c r i o o' e f g x y =
    let z = subst (λ j. Takes (IsOctets t Ber j) s c r) e (subst (λ (j : BERMode). Takes (IsOctets t j n) s c r) f x) in
    let meaning = subst (λ (j : ContentsType). HasContents j Ber y.contents c) g y.meaning in
    record {
      contents = y.contents;
      own = (r, record { prefix = z.prefix; joined = z.joined; member = record { octets = c; string = z.member; meaning = meaning } });
      bytes = y.bytes;
    }

-- a header was put before the elements in a constructed element
pub parts_enclosed : (t : Tag) (n k start : ℕ) (m m' : BERMode) (s d d' r i out mid out' : List ℕ) (end end' : ContentsEnd) → n ≡ 101 → m ≡ Ber → m' ≡ m → k ≡ n - 1 →
    d' ≡ d → end' ≡ end → start ≡ length out → OpensAt m t Constructed s d end → AppendsParts k m' d' end' r out mid →
    out' ≡ take start mid ++ (i ++ (shortest_length (length (drop start mid)) ++ drop start mid)) → AppendsUnder (StartsWith (HasDerElements t) s) i out out'
parts_enclosed t n k start m m' s d d' r i out mid out' end end' levels ber mode less h g begin opens x f =
    let at = subst (λ (z : BERMode). OpensAt z t Constructed s d end) ber opens in
    let end_same = subst (λ (z : ContentsEnd). EndsBefore z x.taken.rest r) g x.taken.ends in
    let y = closed Ber t Constructed s d end at x.taken.prefix x.taken.rest r (sym h ∙ x.taken.joined) end_same in
    let depth : k ≡ 100 = omega (arith, less, levels) in
    let parts = subst (λ j. ArePartsOf j Ber x.taken.prefix x.parts) depth (subst (λ (z : BERMode). ArePartsOf k z x.taken.prefix x.parts) (mode ∙ ber) x.taken.parts) in
    let c = concat (parts_bytes x.parts) in
    let first : take start mid ≡ out = ap (take start) x.added ∙ take_at out c start (sym begin) in
    let last : drop start mid ≡ c = ap (drop start) x.added ∙ drop_at out c start (sym begin) in
    record {
      contents = c;
      own = (
        r,
        record {
          prefix = y.bytes;
          joined = y.joined;
          member = record {
            parts = x.parts;
            around = record { contents = x.taken.prefix; element = y.element; inner = parts };
            written = refl;
          };
        },
      );
      bytes = f ∙ ap₂ (λ p q. p ++ (i ++ (shortest_length (length q) ++ q))) first last;
    }

-- a string is no BOOLEAN, and no BIT STRING
pub string_not_boolean : (u : Tag) → IsStringTag u → u ≡ boolean_tag → ⊥
string_not_boolean u h e = omega (arith, (string_small u h).0, ap (λ (t : Tag). t.tag_number) e)

pub string_not_bits : (u : Tag) → IsStringTag u → u ≡ bits_tag → ⊥
string_not_bits u h e = omega (arith, (string_small u h).0, ap (λ (t : Tag). t.tag_number) e)

-- nor is what is of another class
pub of_neither : (u : Tag) (k : ContentsClass) → IsOfClass k u → (k ≡ Boolean → ⊥) → (k ≡ Bits → ⊥) → (u ≡ boolean_tag → ⊥) × (u ≡ bits_tag → ⊥)
of_neither u EndOfContents h f g = (λ e. omega (arith, ap (λ (t : Tag). t.tag_number) (sym h ∙ e)), λ e. omega (arith, ap (λ (t : Tag). t.tag_number) (sym h ∙ e)))
of_neither u Boolean h f g = absurd (f refl)
of_neither u Bits h f g = absurd (g refl)
of_neither u Octets h f g = (string_not_boolean u h, string_not_bits u h)
of_neither u Other h f g = (h.not_boolean, h.not_bits)
