-- BIT STRING with named bits, as it is read: DER and CER allow no zero bit at its end (X.680, 22.7; X.690, 11.2.2).
use Rattle.std.proofs.Common.{◌≡◌, ◌∷◌, [], ◌-◌, ◌/◌, ◌%◌, ◌^◌, ◌||◌, ℕ, Bool, true, List, Option, get_or, refl, subst, arith}
use Rattle.std.specs.Prelude.{nat_eq}
use Rattle.yasna_base.specs.declared.mode.BERMode.{BERMode}
use Rattle.yasna_base.specs.declared.mode.BERMode.TheVariants.{Ber, Der, Cer}
use Rattle.yasna_base.specs.declared.tag.Tag.{Tag}
use Rattle.yasna_base.specs.Bits.{BitString, IsBits, bits_tag, bits_encoding, bits_depth, CanBits, AreCanonicalBits}
use Rattle.yasna_base.specs.Canonical.{IsCanonicalMode}
use Rattle.yasna_base.specs.Coding.{Any}
use Rattle.yasna_base.specs.Exact.{Fitting, written_fits}
use Rattle.yasna_base.specs.Grammar.{Grammar}
use Rattle.yasna_base.specs.Identifier.{AnyTag, BeginsWithTag, tag_or}
use Rattle.yasna_base.specs.UnderTags.{IsExactUnderTags}
use Rattle.yasna_base.proofs.Identifier.{not_end}
use Rattle.yasna_base.proofs.UnderTags.{bits_under_tags}
use Rattle.yasna_bytes.specs.Segments.{bits_in}
use Rattle.yasna_notation.specs.Elements.{AreSingleElements, bits_elements}
use Rattle.yasna_notation.specs.Laws.{bits_begin, element_lawful, represented_lawful}
use Rattle.yasna_notation.specs.Notation.{NotationKeepsLaws}
use Rattle.yasna_notation.specs.WithinMode.{WithinMode, within_mode_coding}

-- the last bit; the first bit of a byte is its highest
abbrev pub last_bit : BitString → ℕ
last_bit v = (get_or v.bytes ((v.count - 1) / 8) 0 / 2 ^ (7 - (v.count - 1) % 8)) % 2

-- there is no bit, or the last bit is one
abbrev pub ends_in_one : BitString → Bool
ends_in_one v = nat_eq v.count 0 || nat_eq (last_bit v) 1

-- the string ends as the mode requires
abbrev pub ends_well : BERMode → BitString → Bool
ends_well Ber v = true
ends_well Der v = ends_in_one v
ends_well Cer v = ends_in_one v

every_mode : (m : BERMode) (v : BitString) → ends_in_one v ≡ true → ends_well m v ≡ true
every_mode Ber v e = refl
every_mode Der v e = e
every_mode Cer v e = e

canonical_end : (m : BERMode) (v : BitString) → IsCanonicalMode m → ends_well m v ≡ true → ends_in_one v ≡ true
canonical_end Ber v c e = absurd c
canonical_end Der v c e = e
canonical_end Cer v c e = e

-- a value that has an encoding in a canonical mode: it ends in a one
abbrev pub named_fits : Fitting BitString
named_fits m n v = written_fits bits_depth AreCanonicalBits m n v × (ends_in_one v ≡ true)

pub named_bits_laws : IsExactUnderTags (λ v w. v ≡ w) (λ t. WithinMode ends_well (IsBits t))
    (λ t. Any (WithinMode ends_well (IsBits t))) bits_encoding named_fits CanBits
named_bits_laws t not_end range =
    let x = bits_under_tags t not_end range in
    let e = x.1 in (
      within_mode_coding ends_well x.0,
      record {
        in_bytes = λ m n v f short. e.in_bytes m n v f.0 short;
        holds = λ m o n v h f short. (e.holds m o n v h f.0 short, every_mode o v f.1);
        only = λ m n v b h p. let y = e.only m n v b h p.0 in (y.0, (y.1, canonical_end m v h p.1));
        can = λ m n v f. e.can m n v f.0;
        same = λ m v w s. let y = e.same m v w s in (y.0, y.1, λ n f. (y.2 n f.0, subst (λ z. ends_in_one z ≡ true) s f.1));
      },
    )

pub named_bits_begin : (t : Tag) (m : BERMode) (n : ℕ) (b : List ℕ) → Any (WithinMode ends_well (IsBits t)) m n b → BeginsWithTag t b
named_bits_begin t m n b p = bits_begin t m n b (p.0, p.1.0)

pub named_bits_elements : AnyTag (λ t. AreSingleElements (Any (WithinMode ends_well (IsBits t))))
named_bits_elements t other range m n b p = bits_elements t other range m n b (p.0, p.1.0)

-- the grammar of BIT STRING with the tag u in place of its own, if there is one
abbrev pub EncodesBits : Option Tag → Grammar BitString
EncodesBits u m n v b = IsBits (tag_or u bits_tag) m n v b

pub bits_lawful : NotationKeepsLaws true (bits_tag ∷ []) true (λ v w. v ≡ w) EncodesBits (λ u. Any (EncodesBits u)) (λ u. bits_encoding (tag_or u bits_tag))
    (written_fits bits_depth AreCanonicalBits) CanBits
bits_lawful = element_lawful bits_tag bits_under_tags bits_begin bits_elements (not_end 3 (λ e. omega arith)) (omega arith)

pub named_bits_lawful : NotationKeepsLaws true (bits_tag ∷ []) true (λ v w. bits_in v ≡ bits_in w) (λ u m n v b. WithinMode ends_well (EncodesBits u) m n (bits_in v) b)
    (λ u. Any (WithinMode ends_well (EncodesBits u))) (λ u m v. bits_encoding (tag_or u bits_tag) m (bits_in v)) (λ m n v. named_fits m n (bits_in v))
    (λ v. CanBits (bits_in v))
named_bits_lawful = represented_lawful bits_in
    (element_lawful bits_tag named_bits_laws named_bits_begin named_bits_elements (not_end 3 (λ e. omega arith)) (omega arith))
