-- BIT STRING with named bits (X.680, 22.7): zero bits at its end are removed when it is written (X.690, 11.2.2), and have no meaning.
use Rattle.std.proofs.Common.{◌≡◌, ◌∷◌, [], ◌+◌, ◌-◌, ◌*◌, ◌/◌, ◌%◌, ◌<◌, ◌≤◌, ◌^◌, ◌||◌, ℕ, zero, suc, Bool, true, false, List, length, get_or, take, refl, sym, ap, ap₂, subst, ◌∙◌, arith}
use Rattle.std.proofs.lemmas.Bool.{eqb-true, ltb-true, ltb-false}
use Rattle.std.proofs.lemmas.List.{get_or-take, get_or_past, take_all, length-take-le}
use Rattle.std.proofs.Math.Dec.{ltb}
use Rattle.std.proofs.Math.Nat.{zero-div}
use Rattle.std.specs.Prelude.{if◌then◌else◌, nat_eq, ◌⊎◌}
use Rattle.std.proofs.Common.{inl, inr}
use Rattle.yasna_base.specs.declared.mode.BERMode.{BERMode}
use Rattle.yasna_base.specs.declared.mode.BERMode.TheVariants.{Ber, Der, Cer}
use Rattle.yasna_base.specs.declared.tag.Tag.{Tag}
use Rattle.yasna_base.specs.Bits.{BitString, IsBits, bits_segmentation, bits_tag, bits_encoding, bits_depth, CanBits, AreCanonicalBits, cleared, padded, unused_bits, BitLaws}
use Rattle.yasna_base.specs.Canonical.{IsCanonicalMode, HoldsEncoding}
use Rattle.yasna_base.specs.Coding.{IsCoding, Any}
use Rattle.yasna_base.specs.Digits.{IsBytes}
use Rattle.yasna_base.specs.Exact.{written_fits}
use Rattle.yasna_base.specs.Grammar.{Encoding, Depth}
use Rattle.yasna_base.specs.Identifier.{tag_or}
use Rattle.yasna_base.specs.UnderTags.{IsExactUnderTags}
use Rattle.yasna_base.proofs.BitEncoding.{bits_keep}
use Rattle.yasna_base.proofs.Bits.{padded_same}
use Rattle.yasna_base.proofs.Exact.{written_exact}
use Rattle.yasna_base.proofs.Identifier.{not_end}
use Rattle.yasna_base.proofs.Segmented.{segmented_level}
use Rattle.yasna_bytes.specs.Segments.{bits_in}
use Rattle.yasna_notation.specs.Canonical.{IsWrittenUnderTags, element_written, represented_written}
use Rattle.yasna_notation.specs.Laws.{element_lawful, represented_lawful}
use Rattle.yasna_notation.specs.Notation.{NotationKeepsLaws, IsWrittenAs}
use Rattle.yasna_notation.specs.WithinMode.{WithinMode}
use Rattle.yasna_notation_types.specs.NamedBits.{ends_in_one, ends_well, last_bit, EncodesBits, named_bits_begin, named_bits_laws, named_bits_elements}
use Rattle.yasna_notation_types.specs.PlainBits.{can_again}

-- the bit at a place; the first bit of a byte is its highest, and after the last byte all bits are zero
abbrev pub bit_at : BitString → ℕ → ℕ
bit_at v i = (get_or v.bytes (i / 8) 0 / 2 ^ (7 - i % 8)) % 2

-- how many of the first i bits are left when the zeros at their end are removed
abbrev pub bits_left : BitString → ℕ → ℕ
bits_left v zero = 0
bits_left v (suc i) = if nat_eq (bit_at v i) 1 then suc i else bits_left v i

-- the string without the zero bits at its end
abbrev pub without_zeros : BitString → BitString
without_zeros v = record { bytes = take ((bits_left v v.count + 7) / 8) v.bytes; count = bits_left v v.count }

-- that string with its unused bits cleared
abbrev pub least : BitString → BitString
least v = cleared (without_zeros v)

left_step : (b : Bool) (i k : ℕ) → k ≤ i → (if b then suc i else k) ≤ suc i
left_step true i k l = omega arith
left_step false i k l = omega (arith, l)

pub left_below : (v : BitString) (i : ℕ) → bits_left v i ≤ i
left_below v zero = omega arith
left_below v (suc i) = left_step (nat_eq (bit_at v i) 1) i (bits_left v i) (left_below v i)

-- no bit is left, or the last that is left is one
one_step : (v : BitString) (i : ℕ) (b : Bool) (k : ℕ) → nat_eq (bit_at v i) 1 ≡ b → (k ≡ 0) ⊎ (bit_at v (k - 1) ≡ 1) →
    ((if b then suc i else k) ≡ 0) ⊎ (bit_at v ((if b then suc i else k) - 1) ≡ 1)
one_step v i true k e h =
    let n : suc i - 1 ≡ i = omega arith in
    inr (ap (bit_at v) n ∙ eqb-true (bit_at v i) 1 e)
one_step v i false k e h = h

last_is_one : (v : BitString) (i : ℕ) → (bits_left v i ≡ 0) ⊎ (bit_at v (bits_left v i - 1) ≡ 1)
last_is_one v zero = inl refl
last_is_one v (suc i) = one_step v i (nat_eq (bit_at v i) 1) (bits_left v i) refl (last_is_one v i)

-- a prefix of bytes is bytes
bytes_of_take : (n : ℕ) (d : List ℕ) → IsBytes d → IsBytes (take n d)
bytes_of_take zero d h = tt
bytes_of_take (suc n) [] h = tt
bytes_of_take (suc n) (x ∷ d) h = (h.0, bytes_of_take n d h.1)

-- a bit that is one is in a byte
in_a_byte : (v : BitString) (i : ℕ) → bit_at v i ≡ 1 → i < 8 * length v.bytes
in_a_byte v i one = by_place (ltb (i / 8) (length v.bytes)) refl
  where
    by_place : (b : Bool) → ltb (i / 8) (length v.bytes) ≡ b → i < 8 * length v.bytes
    by_place true e = omega (arith, ltb-true (i / 8) (length v.bytes) e)
    by_place false e =
        let past : length v.bytes ≤ i / 8 = ltb-false (i / 8) (length v.bytes) e in
        let none : bit_at v i ≡ 0 = ap (λ x. (x / 2 ^ (7 - i % 8)) % 2) (get_or_past v.bytes (i / 8) 0 past) ∙ ap (λ x. x % 2) (zero-div (2 ^ (7 - i % 8))) in
        absurd (omega (arith, one, none))

-- the bits that are left are in the bytes
left_held : (v : BitString) → bits_left v v.count ≤ 8 * length v.bytes
left_held v = by_last (last_is_one v v.count)
  where
    by_last : (bits_left v v.count ≡ 0) ⊎ (bit_at v (bits_left v v.count - 1) ≡ 1) → bits_left v v.count ≤ 8 * length v.bytes
    by_last (inl none) = omega (arith, none)
    by_last (inr one) = omega (arith, in_a_byte v (bits_left v v.count - 1) one)

-- whatever the bytes and the count are, without zeros at its end a string can be written
pub any_without_zeros : (v : BitString) → IsBytes v.bytes → v.count < 2 ^ 64 → CanBits (without_zeros v)
any_without_zeros v bytes range =
    let below = left_below v v.count in
    let held = left_held v in
    let size : length (without_zeros v).bytes ≡ (bits_left v v.count + 7) / 8 = length-take-le ((bits_left v v.count + 7) / 8) v.bytes (omega (arith, held)) in
    record {
      in_bytes = bytes_of_take ((bits_left v v.count + 7) / 8) v.bytes bytes;
      enough = omega (arith, size);
      least = omega (arith, size);
      in_range = omega (arith, below, range);
    }

-- if a string can be written, so can it without zeros at its end
trim_can : (v : BitString) → CanBits v → CanBits (without_zeros v)
trim_can v h = any_without_zeros v h.in_bytes h.in_range

not_zero : (i : ℕ) → nat_eq (suc i) 0 ≡ false
not_zero i = by_test (nat_eq (suc i) 0) refl
  where
    by_test : (b : Bool) → nat_eq (suc i) 0 ≡ b → nat_eq (suc i) 0 ≡ false
    by_test true e = absurd (omega (arith, eqb-true (suc i) 0 e))
    by_test false e = e

-- if the last bit is one, all bits are left
left_all : (v : BitString) (c : ℕ) → (nat_eq c 0 || nat_eq (bit_at v (c - 1)) 1) ≡ true → bits_left v c ≡ c
left_all v zero e = refl
left_all v (suc i) e =
    let n : suc i - 1 ≡ i = omega arith in
    let last : nat_eq (bit_at v (suc i - 1)) 1 ≡ true = sym (ap (λ b. b || nat_eq (bit_at v (suc i - 1)) 1) (not_zero i)) ∙ e in
    let one : nat_eq (bit_at v i) 1 ≡ true = subst (λ j. nat_eq (bit_at v j) 1 ≡ true) n last in
    ap (λ b. if b then suc i else bits_left v i) one

-- a canonical string that ends in a one is as it is
least_same : (v : BitString) → AreCanonicalBits v → ends_in_one v ≡ true → least v ≡ v
least_same v h e =
    let count = left_all v v.count e in
    let whole = take_all ((bits_left v v.count + 7) / 8) v.bytes (omega (arith, count, h.can.least)) in
    let trim : without_zeros v ≡ v = ap₂ (λ d c. record { bytes = d; count = c }) whole count in
    ap cleared trim ∙ ap (λ d. record { bytes = d; count = v.count }) (padded_same (unused_bits v) v.bytes h.zeros)

-- the last byte, where unused bits are cleared
padded_last : (u : ℕ) (d : List ℕ) (i : ℕ) → suc i ≡ length d → get_or (padded u d) i 0 ≡ get_or d i 0 - get_or d i 0 % 2 ^ u
padded_last u [] i e = absurd (omega (arith, e))
padded_last u (x ∷ []) zero e = refl
padded_last u (x ∷ []) (suc i) e = absurd (omega (arith, e))
padded_last u (x ∷ y ∷ ys) zero e = absurd (omega (arith, e))
padded_last u (x ∷ y ∷ ys) (suc i) e = padded_last u (y ∷ ys) i (omega (arith, e))

-- clearing the bits after one leaves it as it is
bit_same : (u x : ℕ) → u ≤ 7 → ((x - x % 2 ^ u) / 2 ^ u) % 2 ≡ (x / 2 ^ u) % 2
bit_same zero x l = omega arith
bit_same (suc zero) x l = omega arith
bit_same (suc (suc zero)) x l = omega arith
bit_same (suc (suc (suc zero))) x l = omega arith
bit_same (suc (suc (suc (suc zero)))) x l = omega arith
bit_same (suc (suc (suc (suc (suc zero))))) x l = omega arith
bit_same (suc (suc (suc (suc (suc (suc zero)))))) x l = omega arith
bit_same (suc (suc (suc (suc (suc (suc (suc zero))))))) x l = omega arith
bit_same (suc (suc (suc (suc (suc (suc (suc (suc u)))))))) x l = absurd (omega (arith, l))

-- the last bit that is left is the bit of the string at its place
last_same : (v : BitString) → CanBits (without_zeros v) → (j : ℕ) → bits_left v v.count ≡ suc j → last_bit (least v) ≡ bit_at v j
last_same v h j is =
    let d = (without_zeros v).bytes in
    let n = (bits_left v v.count + 7) / 8 in
    let size : length d ≡ n = omega (arith, h.enough, h.least) in
    let at : (bits_left v v.count - 1) / 8 ≡ j / 8 = omega (arith, is) in
    let left : 7 - (bits_left v v.count - 1) % 8 ≡ 7 - j % 8 = omega (arith, is) in
    let unused : unused_bits (without_zeros v) ≡ 7 - j % 8 = omega (arith, is, size) in
    let last = padded_last (unused_bits (without_zeros v)) d (j / 8) (omega (arith, is, size)) in
    let same = get_or-take n v.bytes (j / 8) 0 (omega (arith, is)) in
    ap₂ (λ i w. (get_or (least v).bytes i 0 / 2 ^ w) % 2) at left
    ∙ ap (λ x. (x / 2 ^ (7 - j % 8)) % 2) (last ∙ ap₂ (λ x u. x - x % 2 ^ u) same unused)
    ∙ bit_same (7 - j % 8) (get_or v.bytes (j / 8) 0) (omega arith)

one_is : (a : ℕ) → a ≡ 1 → nat_eq a 1 ≡ true
one_is a e = ap (λ x. nat_eq x 1) e

-- the least string ends in a one, or is empty
least_ends : (v : BitString) → CanBits (without_zeros v) → ends_in_one (least v) ≡ true
least_ends v h = by_count (bits_left v v.count) refl
  where
    by_last : (j : ℕ) → bits_left v v.count ≡ suc j → (bits_left v v.count ≡ 0) ⊎ (bit_at v (bits_left v v.count - 1) ≡ 1) → bit_at v j ≡ 1
    by_last j is (inl e) = absurd (omega (arith, e, is))
    by_last j is (inr e) = let n : bits_left v v.count - 1 ≡ j = omega (arith, is) in sym (ap (bit_at v) n) ∙ e

    by_count : (k : ℕ) → bits_left v v.count ≡ k → ends_in_one (least v) ≡ true
    by_count zero is = ap (λ k. nat_eq k 0 || nat_eq (last_bit (least v)) 1) is
    by_count (suc j) is =
        ap (λ k. nat_eq k 0 || nat_eq (last_bit (least v)) 1) is
        ∙ ap (λ b. b || nat_eq (last_bit (least v)) 1) (not_zero j)
        ∙ one_is (last_bit (least v)) (last_same v h j is ∙ by_last j is (last_is_one v v.count))

every_end : (m : BERMode) (v : BitString) → ends_in_one v ≡ true → ends_well m v ≡ true
every_end Ber v e = refl
every_end Der v e = e
every_end Cer v e = e

canonical_end : (m : BERMode) (v : BitString) → IsCanonicalMode m → ends_well m v ≡ true → ends_in_one v ≡ true
canonical_end Ber v c e = absurd c
canonical_end Der v c e = e
canonical_end Cer v c e = e

-- b encodes a string with the bits of v up to the last one, and the mode allows its end
pub record EncodesLeast (t : Tag) (m : BERMode) (n : ℕ) (v : BitString) (b : List ℕ) : Type 0 where
  pub string : BitString
  pub encoded : IsBits t m n string b
  pub same : least string ≡ least v
  pub ends : ends_well m string ≡ true

abbrev pub least_encoding : Tag → Encoding BitString
least_encoding t m v = bits_encoding t m (least v)

abbrev pub least_depth : Depth BitString
least_depth m v = bits_depth m (least v)

abbrev pub CanLeast : BitString → Type 0
CanLeast v = CanBits (without_zeros v)

abbrev pub same_least : BitString → BitString → Type 0
same_least v w = least v ≡ least w

can_least : (v w : BitString) → same_least v w → CanLeast v → CanLeast w
can_least v w e h = can_again (without_zeros v) (without_zeros w) e h

least_coding : (t : Tag) → IsCoding (λ v w. v ≡ w) (WithinMode ends_well (IsBits t)) (Any (WithinMode ends_well (IsBits t))) →
    IsCoding same_least (EncodesLeast t) (Any (WithinMode ends_well (IsBits t)))
least_coding t x = record {
  meaning = record {
    equal = record { reflexive = λ v. refl; symmetric = λ v w e. sym e; transitive = λ u v w d e. d ∙ e };
    among = λ m n v b p. (p.string, (p.encoded, p.ends));
    exact = λ m n k v w b p q. sym p.same ∙ ap least (x.meaning.exact m n k p.string q.string b (p.encoded, p.ends) (q.encoded, q.ends)) ∙ q.same;
    deeper = λ m n k v b below p.
        let y = x.meaning.deeper m n k p.string b below (p.encoded, p.ends) in
        record { string = p.string; encoded = y.0; same = p.same; ends = y.1 };
  };
  opens = x.opens;
  prefix_free = x.prefix_free;
}

module _ (t : Tag) (laws : BitLaws t) where
  least_only : (m : BERMode) (n : ℕ) (v : BitString) (b : List ℕ) → IsCanonicalMode m → EncodesLeast t m n v b →
      (b ≡ least_encoding t m v) × CanLeast v × (least_depth m v ≤ n)
  least_only m n v b h p =
      let y = laws.has.only m n p.string b h p.encoded in
      let is = sym (least_same p.string y.1 (canonical_end m p.string h p.ends)) ∙ p.same in (
        y.0 ∙ ap (bits_encoding t m) is,
        can_least p.string v p.same (trim_can p.string y.1.can),
        subst (λ x. bits_depth m x ≤ n) is y.2,
      )

  least_holds : (m o : BERMode) (n : ℕ) (v : BitString) → HoldsEncoding m o → CanLeast v → least_depth m v ≤ n → length (least_encoding t m v) < 2 ^ 64 →
      EncodesLeast t o n v (least_encoding t m v)
  least_holds m o n v h can level short =
      let c = (laws.cleared m (without_zeros v) can).0 in
      let e = least_ends v can in
      record { string = least v; encoded = laws.has.holds m o n (least v) h c level short; same = least_same (least v) c e; ends = every_end o (least v) e }

  least_bytes : (m : BERMode) (v : BitString) → CanLeast v → length (least_encoding t m v) < 2 ^ 64 → IsBytes (least_encoding t m v)
  least_bytes m v can short = laws.has.in_bytes m (least v) (laws.cleared m (without_zeros v) can).0 short

-- the law of writing: what BER reads is written without zeros at its end
pub least_written : IsWrittenUnderTags same_least EncodesLeast least_encoding least_depth CanLeast
least_written t not_end range =
    let laws = bits_keep t not_end range in
    record {
      has = record { in_bytes = least_bytes t laws; holds = least_holds t laws; only = least_only t laws };
      any = λ n v b p.
          (can_least p.string v p.same (trim_can p.string (laws.can Ber n p.string b p.encoded)), segmented_level bits_segmentation n Ber t p.string b p.encoded);
      same = λ m v w e. (ap (bits_encoding t m) e, can_least v w e, ap (bits_depth m) e);
    }

pub least_laws : IsExactUnderTags same_least EncodesLeast (λ t. Any (WithinMode ends_well (IsBits t))) least_encoding
    (written_fits least_depth CanLeast) CanLeast
least_laws t not_end range = (least_coding t (named_bits_laws t not_end range).0, written_exact (least_written t not_end range))

pub least_lawful : NotationKeepsLaws true (bits_tag ∷ []) true (λ v w. same_least (bits_in v) (bits_in w)) (λ u m n v b. EncodesLeast (tag_or u bits_tag) m n (bits_in v) b)
    (λ u. Any (WithinMode ends_well (EncodesBits u))) (λ u m v. least_encoding (tag_or u bits_tag) m (bits_in v))
    (λ m n v. written_fits least_depth CanLeast m n (bits_in v)) (λ v. CanLeast (bits_in v))
least_lawful = represented_lawful bits_in (element_lawful bits_tag least_laws named_bits_begin named_bits_elements (not_end 3 (λ e. omega arith)) (omega arith))

pub least_writes : IsWrittenAs true (λ v w. same_least (bits_in v) (bits_in w)) (λ u m n v b. EncodesLeast (tag_or u bits_tag) m n (bits_in v) b)
    (λ u m v. least_encoding (tag_or u bits_tag) m (bits_in v)) (λ m v. least_depth m (bits_in v)) (λ v. CanLeast (bits_in v))
least_writes = represented_written bits_in (element_written bits_tag least_written (not_end 3 (λ e. omega arith)) (omega arith))

-- a zero at the end is removed
pub step_down : (v : BitString) (k : ℕ) → 0 < k → nat_eq (bit_at v (k - 1)) 1 ≡ false → bits_left v k ≡ bits_left v (k - 1)
step_down v zero l e = absurd (omega (arith, l))
step_down v (suc i) l e =
    let n : suc i - 1 ≡ i = omega arith in
    let zero_bit : nat_eq (bit_at v i) 1 ≡ false = subst (λ j. nat_eq (bit_at v j) 1 ≡ false) n e in
    ap (λ b. if b then suc i else bits_left v i) zero_bit ∙ ap (bits_left v) (sym n)

-- a one at the end stays
pub stop_here : (v : BitString) (k : ℕ) → 0 < k → nat_eq (bit_at v (k - 1)) 1 ≡ true → bits_left v k ≡ k
stop_here v zero l e = absurd (omega (arith, l))
stop_here v (suc i) l e =
    let n : suc i - 1 ≡ i = omega arith in
    let one : nat_eq (bit_at v i) 1 ≡ true = subst (λ j. nat_eq (bit_at v j) 1 ≡ true) n e in
    ap (λ b. if b then suc i else bits_left v i) one
