-- Worked examples: what the definitions say of single values and bytes.
use Rattle.std.proofs.Common.{◌≡◌, ℕ, List, [], ◌∷◌, refl, arith, subst, ℤ, pos, negsuc, Bool, suc}
use Rattle.std.specs.Int.{w64}
use Rattle.yasna_base.specs.declared.mode.BERMode.{BERMode}
use Rattle.yasna_base.specs.declared.mode.BERMode.TheVariants.{Ber, Der}
use Rattle.yasna_base.specs.declared.tag.PCBit.TheVariants.{Primitive, Constructed}
use Rattle.yasna_base.specs.declared.tag.TagClass.TheVariants.{ContextSpecific}
use Rattle.yasna_base.specs.Boolean.{IsBoolean, EncodesBoolean, boolean_encoding, boolean_tag}
use Rattle.yasna_base.specs.Canonical.{definite_element, canonical_element, enclosed_encoding}
use Rattle.yasna_base.specs.Digits.{IsBytes, digits, base128}
use Rattle.yasna_base.specs.Element.{Element, indefinite, Primitively, Enclosed}
use Rattle.yasna_base.specs.Grammar.{Grammar}
use Rattle.yasna_base.specs.Identifier.{identifier, begins}
use Rattle.yasna_base.specs.Integer.{twos, IsMinimal, IsNumber, EncodesSigned, minimal_bytes, integer_encoding, integer_tag}
use Rattle.yasna_base.specs.Length.{shortest_length}
use Rattle.yasna_base.specs.Sequence.{sequence_tag, PartOf, NoParts, part_encoding, nothing_encoding}
use Rattle.yasna_base.proofs.Boolean.{bool_written}
use Rattle.yasna_base.proofs.Canonical.{definite_is}
use Rattle.yasna_base.proofs.Element.{primitive_exact}
use Rattle.yasna_base.proofs.Integer.{signed_written}
use Rattle.std.proofs.Math.Utf8.{encode}
use Rattle.std.specs.Char.Utf16.{utf16_chars}
use Rattle.std.specs.Prelude.{codes}
use Rattle.yasna_base.specs.Segmented.{Segmented, whole, in_segments}
use Rattle.yasna_base.specs.Octets.{octets_tag, octets_segmentation, IsDeepOctets, EncodesOctets}
use Rattle.yasna_base.specs.Bits.{BitString, bits_tag, bits_segmentation, AreFullBeforeLast, IsBits, bits_encoding}
use Rattle.yasna_base.specs.Text.{EncodesText, IsBmp, IsPairedBmp, utf8_tag}
use Rattle.yasna_base.specs.Header.{indefinite_end}
use Rattle.yasna_base.specs.Pieces.{Pieces}
use Rattle.yasna_base.proofs.Octets.{octets_written}
use Rattle.yasna_base.proofs.BitEncoding.{bits_has}
use Rattle.yasna_base.proofs.Bits.{bits_once}
use Rattle.yasna_base.proofs.Segmented.{segmented_of, segmented_into, segmented_deeper, segmented_exact, segmented_starts, deep_of, deep_at_zero, pieces_same}

identifier_31 : identifier (record { tag_class = ContextSpecific; tag_number = 31 }) Constructed ≡ 191 ∷ 31 ∷ []
unfolding identifier base128 digits
identifier_31 = refl

length_127 : shortest_length 127 ≡ 127 ∷ []
unfolding shortest_length digits
length_127 = refl

length_128 : shortest_length 128 ≡ 129 ∷ 128 ∷ []
unfolding shortest_length digits
length_128 = refl

length_200 : shortest_length 200 ≡ 129 ∷ 200 ∷ []
unfolding shortest_length digits
length_200 = refl

length_256 : shortest_length 256 ≡ 130 ∷ 1 ∷ 0 ∷ []
unfolding shortest_length digits
length_256 = refl

bytes_0 : minimal_bytes (pos 0) ≡ 0 ∷ []
unfolding minimal_bytes digits
bytes_0 = refl

bytes_127 : minimal_bytes (pos 127) ≡ 127 ∷ []
unfolding minimal_bytes digits
bytes_127 = refl

bytes_128 : minimal_bytes (pos 128) ≡ 0 ∷ 128 ∷ []
unfolding minimal_bytes digits
bytes_128 = refl

-- -128
bytes_less_128 : minimal_bytes (negsuc 127) ≡ 128 ∷ []
unfolding minimal_bytes digits
bytes_less_128 = refl

-- -129
bytes_less_129 : minimal_bytes (negsuc 128) ≡ 255 ∷ 127 ∷ []
unfolding minimal_bytes digits
bytes_less_129 = refl

-- -129
twos_255_127 : twos (255 ∷ 127 ∷ []) ≡ negsuc 128
unfolding twos
twos_255_127 = refl

-- the one byte 1
byte_1 : IsBytes (1 ∷ [])
byte_1 = search arith

-- a SEQUENCE of an INTEGER and a BOOLEAN
abbrev EncodesTwoParts : Grammar (ℤ × (Bool × Unit {0}))
EncodesTwoParts = Enclosed (PartOf (EncodesSigned w64) (PartOf EncodesBoolean NoParts)) sequence_tag

-- the DER encoding of 10 and true
pair_encoding : enclosed_encoding (part_encoding (integer_encoding integer_tag) (part_encoding (boolean_encoding boolean_tag) nothing_encoding)) sequence_tag Der
    (pos 10, (Bool.true, tt)) ≡ 48 ∷ 6 ∷ 2 ∷ 1 ∷ 10 ∷ 1 ∷ 1 ∷ 255 ∷ []
unfolding canonical_element definite_element identifier shortest_length minimal_bytes digits
pair_encoding = refl

-- 10 and true in an element of indefinite length, which BER reads
pair_indefinite : EncodesTwoParts Ber 101 (pos 10, (Bool.true, tt)) (48 ∷ 128 ∷ 2 ∷ 1 ∷ 10 ∷ 1 ∷ 1 ∷ 255 ∷ 0 ∷ 0 ∷ [])
unfolding canonical_element definite_element identifier shortest_length minimal_bytes digits
pair_indefinite = record {
  contents = 2 ∷ 1 ∷ 10 ∷ 1 ∷ 1 ∷ 255 ∷ [];
  element = record { in_range = omega arith; in_bytes = search arith; framed = indefinite (record { taken = tt; joined = refl }) };
  meaning = record {
    prefix = 2 ∷ 1 ∷ 10 ∷ [];
    rest = 1 ∷ 1 ∷ 255 ∷ [];
    joined = refl;
    here = (signed_written w64).has.holds Der Ber 100 (pos 10) tt (record { sfits = omega arith }) (omega arith) (omega arith);
    more = record {
      prefix = 1 ∷ 1 ∷ 255 ∷ [];
      rest = [];
      joined = refl;
      here = bool_written.has.holds Der Ber 100 Bool.true tt tt (omega arith) (omega arith);
      more = refl;
    };
  };
}

-- BER reads true in any byte but 0
true_1 : EncodesBoolean Ber 1 Bool.true (1 ∷ 1 ∷ 1 ∷ [])
unfolding definite_element identifier shortest_length
true_1 = record {
  level = omega arith;
  contents = 1 ∷ [];
  element = record { in_range = omega arith; in_bytes = byte_1; framed = definite_is Ber boolean_tag Primitive (1 ∷ []) tt (omega arith) };
  meaning = IsBoolean.encodes_true 1 (λ e. cc) (omega arith, tt) refl refl;
}

-- DER doesn't
not_true_1 : (n : ℕ) (v : Bool) → EncodesBoolean Der n v (1 ∷ 1 ∷ 1 ∷ []) → ⊥
unfolding canonical_element definite_element identifier shortest_length
not_true_1 n Bool.false x = let e = (bool_written.has.only Der n Bool.false (1 ∷ 1 ∷ 1 ∷ []) tt x).0 in absurd (cc)
not_true_1 n Bool.true x = let e = (bool_written.has.only Der n Bool.true (1 ∷ 1 ∷ 1 ∷ []) tt x).0 in absurd (cc)

-- 127 in two bytes is an element
two_bytes : Element Ber integer_tag Primitive (0 ∷ 127 ∷ []) (definite_element integer_tag Primitive (0 ∷ 127 ∷ []))
two_bytes = record {
  in_range = omega arith;
  in_bytes = search arith;
  framed = definite_is Ber integer_tag Primitive (0 ∷ 127 ∷ []) tt (omega arith);
}

-- but no INTEGER in either mode
not_127 : {A : Type 0} (f : A → ℤ) (InType : A → Type 0) (m : BERMode) (n : ℕ) (v : A) →
    Primitively (IsNumber f InType) integer_tag m n v (2 ∷ 2 ∷ 0 ∷ 127 ∷ []) → ⊥
unfolding definite_element identifier shortest_length
not_127 f InType m n v x =
    let e = (primitive_exact m Ber integer_tag integer_tag Primitive x.contents (0 ∷ 127 ∷ []) _ _ [] [] x.element two_bytes refl).contents in
    let minimal : IsMinimal (0 ∷ 127 ∷ []) = subst IsMinimal e x.meaning.integer.minimal in
    let h = minimal.0 refl in
    absurd (omega arith)

-- an octet string of two pieces
hello : (n : ℕ) → EncodesOctets Ber (suc (suc n)) (codes "Hello!") (36 ∷ 128 ∷ 4 ∷ 2 ∷ 72 ∷ 101 ∷ 4 ∷ 4 ∷ 108 ∷ 108 ∷ 111 ∷ 33 ∷ 0 ∷ 0 ∷ [])
unfolding canonical_element definite_element identifier shortest_length digits
hello n =
    let encoding = (octets_written octets_tag (omega arith)).has.holds Der Ber (suc n) in
    segmented_of octets_segmentation (suc n) Ber octets_tag (codes "Hello!") _ (in_segments tt (4 ∷ 2 ∷ 72 ∷ 101 ∷ 4 ∷ 4 ∷ 108 ∷ 108 ∷ 111 ∷ 33 ∷ [])
    ((72 ∷ 101 ∷ []) ∷ (108 ∷ 108 ∷ 111 ∷ 33 ∷ []) ∷ [])
    (record { in_range = omega arith; in_bytes = search arith; framed = indefinite (record { taken = tt; joined = refl }) })
    (record {
      pieces = (4 ∷ 2 ∷ 72 ∷ 101 ∷ []) ∷ (4 ∷ 4 ∷ 108 ∷ 108 ∷ 111 ∷ 33 ∷ []) ∷ [];
      each = (
        encoding (72 ∷ 101 ∷ []) tt (search arith) (omega arith) (omega arith),
        (encoding (108 ∷ 108 ∷ 111 ∷ 33 ∷ []) tt (search arith) (omega arith) (omega arith), tt),
      );
      joined = refl;
    }) refl tt)

hello_101 : EncodesOctets Ber 101 (codes "Hello!") (36 ∷ 128 ∷ 4 ∷ 2 ∷ 72 ∷ 101 ∷ 4 ∷ 4 ∷ 108 ∷ 108 ∷ 111 ∷ 33 ∷ 0 ∷ 0 ∷ [])
hello_101 = hello 99

-- DER takes no pieces
hello_der : (n : ℕ) (v : List ℕ) → EncodesOctets Der n v (36 ∷ 6 ∷ 4 ∷ 1 ∷ 72 ∷ 4 ∷ 1 ∷ 105 ∷ []) → ⊥
unfolding canonical_element definite_element identifier
hello_der n v x = let e = ((octets_written octets_tag (omega arith)).has.only Der n v _ tt x).0 in absurd (cc)

-- with one level the first segment is too deep
hello_deep : IsDeepOctets octets_tag Ber 1 (36 ∷ 128 ∷ 4 ∷ 2 ∷ 72 ∷ 101 ∷ 0 ∷ 0 ∷ [])
unfolding identifier
hello_deep = deep_of octets_segmentation 0 Ber octets_tag _ (record {
  taken = tt;
  contents = 4 ∷ 2 ∷ 72 ∷ 101 ∷ 0 ∷ 0 ∷ [];
  end = indefinite_end;
  opens = record { in_range = omega arith; in_bytes = search arith; taken = tt; joined = refl };
  inside = record {
    values = [];
    prefix = [];
    rest = 4 ∷ 2 ∷ 72 ∷ 101 ∷ 0 ∷ 0 ∷ [];
    pieces = record { pieces = []; each = tt; joined = refl };
    more = tt;
    joined = refl;
    deep = deep_at_zero octets_segmentation Ber octets_tag _ (begins Primitive (2 ∷ 72 ∷ 101 ∷ 0 ∷ 0 ∷ []) refl);
  };
})

-- a text that is cut inside a character
accent : (n : ℕ) → EncodesText Ber (suc (suc n)) (233 ∷ []) (44 ∷ 6 ∷ 4 ∷ 1 ∷ 195 ∷ 4 ∷ 1 ∷ 169 ∷ [])
unfolding canonical_element definite_element identifier shortest_length digits encode
accent n =
    let encoding = (octets_written octets_tag (omega arith)).has.holds Der Ber (suc n) in
    record {
      octets = 195 ∷ 169 ∷ [];
      string = segmented_of octets_segmentation (suc n) Ber utf8_tag (195 ∷ 169 ∷ []) _ (in_segments tt (4 ∷ 1 ∷ 195 ∷ 4 ∷ 1 ∷ 169 ∷ [])
          ((195 ∷ []) ∷ (169 ∷ []) ∷ [])
          (record {
            in_range = omega arith;
            in_bytes = search arith;
            framed = definite_is Ber utf8_tag Constructed (4 ∷ 1 ∷ 195 ∷ 4 ∷ 1 ∷ 169 ∷ []) tt (omega arith);
          })
          (record {
            pieces = (4 ∷ 1 ∷ 195 ∷ []) ∷ (4 ∷ 1 ∷ 169 ∷ []) ∷ [];
            each = (encoding (195 ∷ []) tt (search arith) (omega arith) (omega arith), (encoding (169 ∷ []) tt (search arith) (omega arith) (omega arith), tt));
            joined = refl;
          }) refl tt);
      meaning = record { is_text = record { characters = (refl, tt); in_class = (tt, tt) }; octets = refl };
    }

-- eight bits, and four
bits_8 : BitString
bits_8 = record { bytes = 1 ∷ []; count = 8 }

bits_4 : BitString
bits_4 = record { bytes = 240 ∷ []; count = 4 }

bits_8_encoding : (n : ℕ) → IsBits bits_tag Ber (suc n) bits_8 (3 ∷ 2 ∷ 0 ∷ 1 ∷ [])
unfolding canonical_element definite_element identifier shortest_length digits bits_8
bits_8_encoding n = (bits_has bits_tag (omega arith)).holds Der Ber (suc n) bits_8 tt
    (record { can = record { in_bytes = byte_1; enough = omega arith; least = omega arith; in_range = omega arith }; zeros = refl })
    (omega arith) (omega arith)

bits_4_encoding : (n : ℕ) → IsBits bits_tag Ber (suc n) bits_4 (3 ∷ 2 ∷ 4 ∷ 240 ∷ [])
unfolding canonical_element definite_element identifier shortest_length digits bits_4
bits_4_encoding n = (bits_has bits_tag (omega arith)).holds Der Ber (suc n) bits_4 tt
    (record { can = record { in_bytes = search arith; enough = omega arith; least = omega arith; in_range = omega arith }; zeros = refl })
    (omega arith) (omega arith)

-- make twelve
bits_12 : (n : ℕ) → IsBits bits_tag Ber (suc (suc n)) (record { bytes = 1 ∷ 240 ∷ []; count = 12 }) (35 ∷ 8 ∷ 3 ∷ 2 ∷ 0 ∷ 1 ∷ 3 ∷ 2 ∷ 4 ∷ 240 ∷ [])
unfolding definite_element identifier shortest_length bits_8 bits_4
bits_12 n = segmented_of bits_segmentation (suc n) Ber bits_tag _ _ (in_segments tt (3 ∷ 2 ∷ 0 ∷ 1 ∷ 3 ∷ 2 ∷ 4 ∷ 240 ∷ []) (bits_8 ∷ bits_4 ∷ [])
    (record {
      in_range = omega arith;
      in_bytes = search arith;
      framed = definite_is Ber bits_tag Constructed (3 ∷ 2 ∷ 0 ∷ 1 ∷ 3 ∷ 2 ∷ 4 ∷ 240 ∷ []) tt (omega arith);
    })
    (record {
      pieces = (3 ∷ 2 ∷ 0 ∷ 1 ∷ []) ∷ (3 ∷ 2 ∷ 4 ∷ 240 ∷ []) ∷ [];
      each = (bits_8_encoding n, (bits_4_encoding n, tt));
      joined = refl;
    })
    (record { full = (refl, tt); bytes = refl; count = refl; in_range = omega arith }) tt)

turned : Element Ber bits_tag Constructed (3 ∷ 2 ∷ 4 ∷ 240 ∷ 3 ∷ 2 ∷ 0 ∷ 1 ∷ []) (35 ∷ 8 ∷ 3 ∷ 2 ∷ 4 ∷ 240 ∷ 3 ∷ 2 ∷ 0 ∷ 1 ∷ [])
unfolding definite_element identifier shortest_length
turned = record {
  in_range = omega arith;
  in_bytes = search arith;
  framed = definite_is Ber bits_tag Constructed (3 ∷ 2 ∷ 4 ∷ 240 ∷ 3 ∷ 2 ∷ 0 ∷ 1 ∷ []) tt (omega arith);
}

turned_pieces : (n : ℕ) → Pieces (IsBits bits_tag Ber (suc n)) (bits_4 ∷ bits_8 ∷ []) (3 ∷ 2 ∷ 4 ∷ 240 ∷ 3 ∷ 2 ∷ 0 ∷ 1 ∷ [])
turned_pieces n = record {
  pieces = (3 ∷ 2 ∷ 4 ∷ 240 ∷ []) ∷ (3 ∷ 2 ∷ 0 ∷ 1 ∷ []) ∷ [];
  each = (bits_4_encoding n, (bits_8_encoding n, tt));
  joined = refl;
}

not_turned : (n : ℕ) (v : BitString) →
    Segmented bits_segmentation (IsBits bits_tag Ber (suc n)) Ber bits_tag v (35 ∷ 8 ∷ 3 ∷ 2 ∷ 4 ∷ 240 ∷ 3 ∷ 2 ∷ 0 ∷ 1 ∷ []) → ⊥
unfolding bits_4
not_turned n v (whole c x p a) = let e = (primitive_exact Ber Ber bits_tag bits_tag Constructed c _ _ _ [] [] x turned refl).bit in absurd (cc)
not_turned n v (in_segments h c vs x p j a) =
    let starts = λ (u : BitString) (b : List ℕ). segmented_starts bits_segmentation (suc n) Ber bits_tag u b bits_once.segment in
    let same = (pieces_same Ber bits_tag (segmented_exact bits_once (suc n) (suc n) Ber bits_tag) starts starts vs (bits_4 ∷ bits_8 ∷ []) c _ _ _ [] [] x
    turned p
    (turned_pieces n) refl).0 in
    let full = (subst AreFullBeforeLast same j.full).0 in
    absurd (omega arith)

-- after unused bits no segment may follow
bits_end : (n : ℕ) (v : BitString) → IsBits bits_tag Ber n v (35 ∷ 8 ∷ 3 ∷ 2 ∷ 4 ∷ 240 ∷ 3 ∷ 2 ∷ 0 ∷ 1 ∷ []) → ⊥
bits_end n v x =
    not_turned n v (segmented_into bits_segmentation (suc n) Ber bits_tag v _ (segmented_deeper bits_segmentation n (suc (suc n)) Ber bits_tag v _
    (omega arith) x))

-- unused bits are written as zero
bits_cleared : bits_encoding bits_tag Der (record { bytes = 255 ∷ []; count = 4 }) ≡ 3 ∷ 2 ∷ 4 ∷ 240 ∷ []
unfolding canonical_element definite_element identifier shortest_length digits
bits_cleared = refl

-- a surrogate with no partner
lone_surrogate : IsBmp Ber (0xFFFD ∷ []) (216 ∷ 0 ∷ [])
unfolding utf16_chars
lone_surrogate = record { even = refl; spelled = refl }

-- a pair of surrogates is one character
paired_surrogates : IsPairedBmp Ber (0x1_F600 ∷ []) (216 ∷ 61 ∷ 222 ∷ 0 ∷ [])
unfolding utf16_chars
paired_surrogates = record { even = refl; spelled = refl }
