-- What reading a BIT STRING with named bits does.
use Rattle.std.proofs.Common.{◌≡◌, ◌∷◌, [], ℕ, true, false, Some, None, Vec, Result, Ok, Err, subst, ap, arith}
use Rattle.std.specs.Global.{Global}
use Rattle.yasna_base.specs.declared.error.ASN1Error.{ASN1Error}
use Rattle.yasna_base.specs.declared.error.ASN1ErrorKind.TheVariants.{Invalid}
use Rattle.yasna_base.specs.declared.mode.BERMode.{BERMode}
use Rattle.yasna_base.specs.Bits.{BitString, IsBits, IsDeepBits, bits_segmentation, bits_tag}
use Rattle.yasna_base.specs.Coding.{Any}
use Rattle.yasna_base.specs.Error.{error_of}
use Rattle.yasna_base.specs.Identifier.{AnyTag}
use Rattle.yasna_base.proofs.Identifier.{not_end}
use Rattle.yasna_base.proofs.Segmented.{deep_begins}
use Rattle.yasna_bytes.specs.Contents.{MayAllocate}
use Rattle.yasna_bytes.specs.Segments.{bits_in}
use Rattle.yasna_reader.specs.Primitive.{ReadsSeen}
use Rattle.yasna_reader.specs.State.{Reading}
use Rattle.yasna_notation.specs.Notation.{ReadsAs}
use Rattle.yasna_notation.specs.WithinMode.{WithinMode}
use Rattle.yasna_notation.proofs.OneTag.{allocating_read}
use Rattle.yasna_notation.proofs.WithinMode.{ReadingLaws, mode_within, mode_outside, mode_none}
use Rattle.yasna_notation_types.specs.NamedBits.{EncodesBits, ends_well, bits_lawful}

-- a vector and a count
abbrev pub Held : Type 0
Held = Vec ℕ Global × ℕ

module _ (s : Reading) (r : Result Held ASN1Error) (s' : Reading) (h : ReadsSeen IsBits bits_in IsDeepBits MayAllocate bits_tag s r s') where
  bits_read : ReadsAs true (bits_tag ∷ []) true true (λ u m n (v : Held) b. EncodesBits u m n (bits_in v) b) (λ u. Any (EncodesBits u)) s r s'
  bits_read = allocating_read IsBits bits_in IsDeepBits bits_tag (not_end 3 (λ e. omega arith)) (λ t n m s. deep_begins bits_segmentation n m t s) s r s' h

  read_as : (q : Result Held ASN1Error) → r ≡ q →
      ReadsAs true (bits_tag ∷ []) true true (λ u m n (v : Held) b. EncodesBits u m n (bits_in v) b) (λ u. Any (EncodesBits u)) s q s'
  read_as q is = subst (λ z. ReadsAs true (bits_tag ∷ []) true true (λ u m n (v : Held) b. EncodesBits u m n (bits_in v) b) (λ u. Any (EncodesBits u)) s z s')
      is bits_read

  abbrev ReadsWell : Result Held ASN1Error → Type 0
  ReadsWell q = ReadsAs true (bits_tag ∷ []) true true (λ u m n (v : Held) b. WithinMode ends_well (EncodesBits u) m n (bits_in v) b)
      (λ u. Any (WithinMode ends_well (EncodesBits u))) s q s'

  own : ReadingLaws true (bits_tag ∷ []) (λ (v w : BitString). v ≡ w) (EncodesBits None) (Any (EncodesBits None))
  own = record { coding = bits_lawful.own.coding; begins = bits_lawful.own.begins }

  others : true ≡ true → AnyTag (λ t. ReadingLaws true (t ∷ []) (λ (v w : BitString). v ≡ w) (EncodesBits (Some t)) (Any (EncodesBits (Some t))))
  others may t not range = let y = bits_lawful.others may t not range in record { coding = y.coding; begins = y.begins }

  alike : (m : BERMode) (v w : BitString) → v ≡ w → ends_well m v ≡ ends_well m w
  alike m v w e = ap (ends_well m) e

  pub well_read : (v : Held) → r ≡ Ok v → ends_well s.mode (bits_in v) ≡ true → ReadsWell (Ok v)
  well_read v was is = mode_within bits_in EncodesBits (λ u. Any (EncodesBits u)) ends_well alike true (bits_tag ∷ []) true true own others s v s' is (read_as (Ok v) was)

  pub ill_read : (v : Held) → r ≡ Ok v → ends_well s.mode (bits_in v) ≡ false → ReadsWell (Err (error_of Invalid))
  ill_read v was is = mode_outside bits_in EncodesBits (λ u. Any (EncodesBits u)) ends_well alike true (bits_tag ∷ []) true true own others s v s' is (read_as (Ok v) was)

  pub not_read : (e : ASN1Error) → r ≡ Err e → ReadsWell (Err e)
  not_read e was = mode_none bits_in EncodesBits (λ u. Any (EncodesBits u)) ends_well alike true (bits_tag ∷ []) true true own others s e s' (read_as (Err e) was)
