-- BIT STRING by its bits only (X.690, 8.6.2): what the unused bits of the last byte are has no meaning, and they are written as zeros (11.2.1).
use Rattle.std.proofs.Common.{◌≡◌, ◌∷◌, [], true, ap₂, ◌-◌, ◌%◌, ◌<◌, ◌≤◌, ◌^◌, ℕ, zero, suc, List, length, refl, sym, ap, subst, ◌∙◌, arith}
use Rattle.std.specs.List.{flat_map}
use Rattle.std.specs.Prelude.{if◌then◌else◌, nat_lt}
use Rattle.yasna_base.specs.declared.mode.BERMode.{BERMode}
use Rattle.yasna_base.specs.declared.mode.BERMode.TheVariants.{Ber, Der, Cer}
use Rattle.yasna_base.specs.declared.tag.PCBit.TheVariants.{Primitive, Constructed}
use Rattle.yasna_base.specs.declared.tag.Tag.{Tag}
use Rattle.yasna_base.specs.Bits.{BitString, IsBits, bits_full, bits_segmentation, bits_encoding, bits_depth, CanBits, AreCanonicalBits, cleared, padded, unused_bits, bits_contents, bit_segments, bit_pieces, BitLaws}
use Rattle.yasna_base.specs.Canonical.{IsCanonicalMode, HoldsEncoding, canonical_element}
use Rattle.yasna_base.specs.Coding.{IsCoding, Any}
use Rattle.yasna_base.specs.Digits.{IsBytes}
use Rattle.yasna_base.specs.Exact.{written_fits}
use Rattle.yasna_base.specs.Grammar.{Encoding}
use Rattle.yasna_base.specs.Segments.{segments}
use Rattle.yasna_base.specs.UnderTags.{IsExactUnderTags}
use Rattle.yasna_base.proofs.BitEncoding.{bits_keep}
use Rattle.yasna_base.proofs.Bits.{padded_length, padded_same, cleared_contents}
use Rattle.yasna_base.proofs.Exact.{written_exact}
use Rattle.yasna_base.proofs.Segmented.{segmented_level}
use Rattle.yasna_base.specs.Bits.{bits_tag}
use Rattle.yasna_base.specs.Identifier.{tag_or}
use Rattle.yasna_base.proofs.Identifier.{not_end}
use Rattle.yasna_bytes.specs.Segments.{bits_in}
use Rattle.yasna_notation.specs.Canonical.{IsWrittenUnderTags, element_written, represented_written}
use Rattle.yasna_notation.specs.Elements.{bits_elements}
use Rattle.yasna_notation.specs.Laws.{bits_begin, element_lawful, represented_lawful}
use Rattle.yasna_notation.specs.Notation.{NotationKeepsLaws, IsWrittenAs}

-- b encodes a string with the bits of v, whatever its unused bits are
pub record EncodesUsed (t : Tag) (m : BERMode) (n : ℕ) (v : BitString) (b : List ℕ) : Type 0 where
  pub string : BitString
  pub encoded : IsBits t m n string b
  pub same : cleared string ≡ cleared v

-- the encoding of the string whose unused bits are zeros
abbrev pub plain_encoding : Tag → Encoding BitString
plain_encoding t m v = bits_encoding t m (cleared v)

-- two strings have the same bits
abbrev pub same_used : BitString → BitString → Type 0
same_used v w = cleared v ≡ cleared w

-- a number is that of a byte if its highest bits are
byte_again : (u x y : ℕ) → u ≤ 7 → x < 256 → x - x % 2 ^ u ≡ y - y % 2 ^ u → y < 256
byte_again zero x y l h e = omega arith
byte_again (suc zero) x y l h e = omega arith
byte_again (suc (suc zero)) x y l h e = omega arith
byte_again (suc (suc (suc zero))) x y l h e = omega arith
byte_again (suc (suc (suc (suc zero)))) x y l h e = omega arith
byte_again (suc (suc (suc (suc (suc zero))))) x y l h e = omega arith
byte_again (suc (suc (suc (suc (suc (suc zero)))))) x y l h e = omega arith
byte_again (suc (suc (suc (suc (suc (suc (suc zero))))))) x y l h e = omega arith
byte_again (suc (suc (suc (suc (suc (suc (suc (suc u)))))))) x y l h e = absurd (omega arith)

bytes_again : (u : ℕ) (d e : List ℕ) → u ≤ 7 → padded u d ≡ padded u e → IsBytes d → IsBytes e
bytes_again u d [] l s h = tt
bytes_again u [] (y ∷ ys) l s h = absurd (omega (arith, ap length s, padded_length u (y ∷ ys)))
bytes_again u (x ∷ []) (y ∷ []) l s h = let i : x - x % 2 ^ u ≡ y - y % 2 ^ u = cc in (byte_again u x y l h.0 i, tt)
bytes_again u (x ∷ []) (y ∷ z ∷ ys) l s h = absurd (omega (arith, ap length s, padded_length u (z ∷ ys)))
bytes_again u (x ∷ w ∷ xs) (y ∷ []) l s h = absurd (omega (arith, ap length s, padded_length u (w ∷ xs)))
bytes_again u (x ∷ w ∷ xs) (y ∷ z ∷ ys) l s h =
    let i : x ≡ y = cc in
    let j : padded u (w ∷ xs) ≡ padded u (z ∷ ys) = cc in
    (subst (λ k. k < 256) i h.0, bytes_again u (w ∷ xs) (z ∷ ys) l j h.1)

-- if a string can be written, so can one with the same bits
pub can_again : (v w : BitString) → same_used v w → CanBits v → CanBits w
can_again v w e h =
    let bytes = ap (λ (x : BitString). x.bytes) e in
    let count = ap (λ (x : BitString). x.count) e in
    let one : length v.bytes ≡ length w.bytes = sym (padded_length (unused_bits v) v.bytes) ∙ ap length bytes ∙ padded_length (unused_bits w) w.bytes in
    let unused : unused_bits v ≡ unused_bits w = omega (arith, one, count) in
    record {
      in_bytes = bytes_again (unused_bits v) v.bytes w.bytes (omega (arith, h.least))
          (subst (λ u. padded (unused_bits v) v.bytes ≡ padded u w.bytes) (sym unused) bytes) h.in_bytes;
      enough = omega (arith, one, count, h.enough);
      least = omega (arith, one, count, h.least);
      in_range = omega (arith, count, h.in_range);
    }

-- clearing twice is clearing once
cleared_twice : (v : BitString) → AreCanonicalBits (cleared v) → cleared (cleared v) ≡ cleared v
cleared_twice v h =
    ap (λ d. record { bytes = d; count = v.count }) (padded_same (unused_bits (cleared v)) (cleared v).bytes h.zeros)

-- strings with the same bits have the same depth
depth_again : (m : BERMode) (v w : BitString) → same_used v w → bits_depth m v ≡ bits_depth m w
depth_again Ber v w e = refl
depth_again Der v w e = refl
depth_again Cer v w e =
    let one : length v.bytes ≡ length w.bytes =
    sym (padded_length (unused_bits v) v.bytes) ∙ ap (λ (x : BitString). length x.bytes) e ∙ padded_length (unused_bits w) w.bytes in
    ap (λ n. if nat_lt bits_full n then 2 else 1) one

module _ (t : Tag) (laws : BitLaws t) where
  plain_coding : IsCoding same_used (EncodesUsed t) (Any (IsBits t))
  plain_coding = record {
    meaning = record {
      equal = record { reflexive = λ v. refl; symmetric = λ v w e. sym e; transitive = λ u v w d e. d ∙ e };
      among = λ m n v b p. (p.string, p.encoded);
      exact = λ m n k v w b p q.
          sym p.same ∙ ap cleared (laws.coding.meaning.exact m n k p.string q.string b p.encoded q.encoded) ∙ q.same;
      deeper = λ m n k v b below p.
          record { string = p.string; encoded = laws.coding.meaning.deeper m n k p.string b below p.encoded; same = p.same };
    };
    opens = laws.coding.opens;
    prefix_free = laws.coding.prefix_free;
  }

  plain_only : (m : BERMode) (n : ℕ) (v : BitString) (b : List ℕ) → IsCanonicalMode m → EncodesUsed t m n v b →
      (b ≡ plain_encoding t m v) × CanBits v × (bits_depth m v ≤ n)
  plain_only m n v b h p =
      let y = laws.has.only m n p.string b h p.encoded in (
        y.0 ∙ (laws.cleared m p.string y.1.can).1 ∙ ap (bits_encoding t m) p.same,
        can_again p.string v p.same y.1.can,
        subst (λ k. k ≤ n) (depth_again m p.string v p.same) y.2,
      )

  plain_holds : (m o : BERMode) (n : ℕ) (v : BitString) → HoldsEncoding m o → CanBits v → bits_depth m v ≤ n → length (plain_encoding t m v) < 2 ^ 64 →
      EncodesUsed t o n v (plain_encoding t m v)
  plain_holds m o n v h can level short =
      let c = (laws.cleared m v can).0 in
      let twice = cleared_twice v c in
      record {
        string = cleared v;
        encoded = laws.has.holds m o n (cleared v) h c (subst (λ k. k ≤ n) (depth_again m v (cleared v) (sym twice)) level) short;
        same = twice;
      }

  plain_bytes : (m : BERMode) (v : BitString) → CanBits v → length (plain_encoding t m v) < 2 ^ 64 → IsBytes (plain_encoding t m v)
  plain_bytes m v can short = laws.has.in_bytes m (cleared v) (laws.cleared m v can).0 short

-- the law of writing: what BER reads is written with zeros for the unused bits
pub plain_written : IsWrittenUnderTags same_used EncodesUsed plain_encoding bits_depth CanBits
plain_written t not_end range =
    let laws = bits_keep t not_end range in
    record {
      has = record { in_bytes = plain_bytes t laws; holds = plain_holds t laws; only = plain_only t laws };
      any = λ n v b p.
          (can_again p.string v p.same (laws.can Ber n p.string b p.encoded), segmented_level bits_segmentation n Ber t p.string b p.encoded);
      same = λ m v w e. (ap (bits_encoding t m) e, can_again v w e, depth_again m v w e);
    }

-- the laws of reading and of a canonical mode
pub plain_laws : IsExactUnderTags same_used EncodesUsed (λ t. Any (IsBits t)) plain_encoding
    (written_fits bits_depth CanBits) CanBits
plain_laws t not_end range = (plain_coding t (bits_keep t not_end range), written_exact (plain_written t not_end range))

-- what is written of a string is the encoding of its bits
pub plain_is : (t : Tag) (m : BERMode) (v : BitString) → CanBits v → bits_encoding t m v ≡ plain_encoding t m v
plain_is t Ber v h = ap (canonical_element Ber t Primitive) (cleared_contents v h)
plain_is t Der v h = ap (canonical_element Der t Primitive) (cleared_contents v h)
plain_is t Cer v h =
    let contents = cleared_contents v h in
    let bytes : padded (unused_bits v) v.bytes ≡ padded (unused_bits (cleared v)) (cleared v).bytes = cc in
    let cut : List BitString → List ℕ =
    λ ws. canonical_element Cer t Constructed (flat_map (λ w. canonical_element Der bits_segmentation.segment Primitive (bits_contents w)) ws) in
    let all : List ℕ → List ℕ = λ c. canonical_element Cer t Primitive c in
    ap (λ j. if nat_lt 999 j then cut (bit_segments v) else all (bits_contents v)) (sym (padded_length (unused_bits v) v.bytes))
    ∙ ap₂ (λ ws c. if nat_lt 999 (length (cleared v).bytes) then cut ws else all c) (ap (λ b. bit_pieces (segments 999 b) v.count) bytes) contents

pub plain_lawful : NotationKeepsLaws true (bits_tag ∷ []) true (λ v w. same_used (bits_in v) (bits_in w)) (λ u m n v b. EncodesUsed (tag_or u bits_tag) m n (bits_in v) b)
    (λ u. Any (IsBits (tag_or u bits_tag))) (λ u m v. plain_encoding (tag_or u bits_tag) m (bits_in v))
    (λ m n v. written_fits bits_depth CanBits m n (bits_in v)) (λ v. CanBits (bits_in v))
plain_lawful =
    represented_lawful bits_in (element_lawful bits_tag plain_laws bits_begin bits_elements (not_end 3 (λ e. omega arith)) (omega arith))

pub plain_writes : IsWrittenAs true (λ v w. same_used (bits_in v) (bits_in w)) (λ u m n v b. EncodesUsed (tag_or u bits_tag) m n (bits_in v) b)
    (λ u m v. plain_encoding (tag_or u bits_tag) m (bits_in v)) (λ m v. bits_depth m (bits_in v)) (λ v. CanBits (bits_in v))
plain_writes = represented_written bits_in (element_written bits_tag plain_written (not_end 3 (λ e. omega arith)) (omega arith))
