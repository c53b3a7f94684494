-- The bits that DER has of a BIT STRING.
use Rattle.std.proofs.Common.{◌≡◌, ℕ, ◌+◌, ◌-◌, ◌*◌, ◌/◌, ◌%◌, ◌≤◌, List, [], ◌∷◌, length, take, refl, sym, ap, ◌∙◌, subst, arith}
use Rattle.std.proofs.lemmas.List.{length-take-le}
use Rattle.yasna_base.specs.Bits.{BitString, AreTheBits, IsBits, padded, bits_contents}
use Rattle.yasna_base.specs.declared.mode.BERMode.{BERMode}
use Rattle.yasna_base.specs.declared.mode.BERMode.TheVariants.{Ber}
use Rattle.yasna_base.specs.declared.tag.Tag.{Tag}
use Rattle.yasna_base.proofs.Bits.{bits_can}
use Rattle.yasna_bytes.specs.Prefix.{Takes}
use Rattle.asn1der_convert.specs.Parts.{AppendsBits}
use Rattle.asn1der_convert.specs.WholeBits.{UnusedAndBytes, AreWholeBits}
use Rattle.asn1show_schema.specs.declared.schema.ValueType.{ValueType}
use Rattle.asn1show_schema.specs.declared.schema.ValueType.TheVariants.{Integer, Enumerated, BitString as AnyBits, NamedBits, OctetString, Text, Other}
use Rattle.asn1der_typed.specs.Appending.{HasDerCount, first_bits, AreBitsOf, AppendsUnder, StartsWith}

-- the contents of the first bits, which are those of the bytes that hold them
first_written : (octets first : List ℕ) (count u : ℕ) → count ≤ 8 * length octets → first ≡ take ((count + 7) / 8) octets → u ≡ (8 - count % 8) % 8 →
    u ∷ padded u first ≡ bits_contents (first_bits octets count)
first_written octets first count u enough e f =
    let size : length (take ((count + 7) / 8) octets) ≡ (count + 7) / 8 = length-take-le ((count + 7) / 8) octets (omega (arith, enough)) in
    let same : 8 * length (take ((count + 7) / 8) octets) - count ≡ u = omega (arith, size, f) in
    ap (λ z. u ∷ padded u z) e ∙ ap (λ k. k ∷ padded k (take ((count + 7) / 8) octets)) (sym same)

-- they were appended
pub first_appended : (octets first i s s' : List ℕ) (count u : ℕ) → count ≤ 8 * length octets → first ≡ take ((count + 7) / 8) octets →
    u ≡ (8 - count % 8) % 8 → AppendsBits u i first s s' → AppendsUnder (λ c. c ≡ bits_contents (first_bits octets count)) i s s'
first_appended octets first i s s' count u enough e f x =
    record { contents = u ∷ padded u first; own = first_written octets first count u enough e f; bytes = x }

-- no bytes hold no bits
pub none_unused : (octets first : List ℕ) (count : ℕ) → count ≤ 8 * length octets → first ≡ take ((count + 7) / 8) octets → length first ≡ 0 →
    0 ≡ (8 - count % 8) % 8
none_unused octets first count enough e none =
    let size : length (take ((count + 7) / 8) octets) ≡ (count + 7) / 8 = length-take-le ((count + 7) / 8) octets (omega (arith, enough)) in
    omega (arith, size, ap length e, none)

-- as many bits as DER has are there
pub der_few : (value : ValueType) (bytes : List ℕ) (n k : ℕ) → HasDerCount value bytes n k → k ≤ n
der_few (Integer bounds names) bytes n k h = omega (arith, h)
der_few (Enumerated items others) bytes n k h = omega (arith, h)
der_few (AnyBits size) bytes n k h = omega (arith, h)
der_few (NamedBits names) bytes n k h = h.few
der_few (OctetString size) bytes n k h = omega (arith, h)
der_few (Text number size) bytes n k h = omega (arith, h)
der_few (Other number) bytes n k h = omega (arith, h)

few_unused : (u : ℕ) (b : List ℕ) → u ≤ 7 → (b ≡ [] → u ≡ 0) → u ≤ 8 * length b
few_unused u [] h f = omega (arith, f refl)
few_unused u (x ∷ xs) h f = omega (arith, h)

-- the bits of the bytes that aren't unused
abbrev pub used_bits : UnusedAndBytes → BitString
used_bits b = record { bytes = b.bytes; count = 8 * length b.bytes - b.unused }

-- primitive contents are these bits
pub bits_meant : (b : UnusedAndBytes) (c : List ℕ) → AreWholeBits b c → AreTheBits Ber (used_bits b) c
bits_meant b c h =
    let few = few_unused b.unused b.bytes h.below h.none_of_none in
    record {
      unused = b.unused;
      contents = h.contents;
      below = h.below;
      none_of_none = h.none_of_none;
      counted = omega (arith, few);
      padded = tt;
      in_range = omega (arith, h.in_range);
    }

-- the bits of primitive contents were appended
pub whole_appended : (value : ValueType) (b : UnusedAndBytes) (c i s s' : List ℕ) (count : ℕ) → AreWholeBits b c →
    HasDerCount value b.bytes (8 * length b.bytes - b.unused) count → AppendsUnder (λ d. d ≡ bits_contents (first_bits b.bytes count)) i s s' →
    AppendsUnder (λ d. AreBitsOf value (AreTheBits Ber) d c) i s s'
whole_appended value b c i s s' count h in_der x = record {
  contents = x.contents;
  own = record { bits = used_bits b; read = bits_meant b c h; count = count; in_der = in_der; written = x.own };
  bytes = x.bytes;
}

-- the bits of segments were appended
pub segments_appended : (value : ValueType) (t : Tag) (n : ℕ) (m : BERMode) (v : BitString) (b r i s s' : List ℕ) (count : ℕ) → n ≡ 101 → m ≡ Ber →
    Takes (IsBits t m n) b v r → HasDerCount value v.bytes v.count count →
    AppendsUnder (λ d. d ≡ bits_contents (first_bits v.bytes count)) i s s' → AppendsUnder (StartsWith (AreBitsOf value (IsBits t Ber 101)) b) i s s'
segments_appended value t n m v b r i s s' count e f x in_der y =
    let read : IsBits t Ber 101 v x.prefix = subst (λ k. IsBits t Ber k v x.prefix) e (subst (λ (z : BERMode). IsBits t z n v x.prefix) f x.member) in
    record {
      contents = y.contents;
      own = (
        r,
        record {
          prefix = x.prefix;
          joined = x.joined;
          member = record { bits = v; read = read; count = count; in_der = in_der; written = y.own };
        },
      );
      bytes = y.bytes;
    }

-- as many bits as DER has of those that were read are in their bytes
pub segments_enough : (value : ValueType) (t : Tag) (n : ℕ) (m : BERMode) (v : BitString) (b r : List ℕ) (count : ℕ) → Takes (IsBits t m n) b v r →
    HasDerCount value v.bytes v.count count → count ≤ 8 * length v.bytes
segments_enough value t n m v b r count x in_der =
    let can = bits_can n m t v x.prefix x.member in
    omega (arith, can.enough, der_few value v.bytes v.count count in_der)
