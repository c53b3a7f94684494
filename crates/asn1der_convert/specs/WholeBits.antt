-- A BIT STRING in one primitive element of BER (X.690, 8.6.2).
use Rattle.std.specs.Borrow.{Bor}
use Rattle.std.specs.Prelude.{◌≡◌, ℕ, ◌*◌, ◌^◌, ◌<◌, ◌≤◌, List, [], ◌∷◌, length, Option, Some, None}
use Rattle.yasna_base.specs.Bits.{bits_tag}
use Rattle.yasna_base.specs.Element.{IsPrimitive}
use Rattle.yasna_base.specs.declared.mode.BERMode.{BERMode}
use Rattle.yasna_base.specs.declared.mode.BERMode.TheVariants.{Ber}
use Rattle.yasna_bytes.specs.Prefix.{Takes, HasPrefix}

-- how many bits of the bytes are unused, and the bytes
pub record UnusedAndBytes : Type 0 where
  pub unused : ℕ
  pub bytes : List ℕ

-- the two that were found
abbrev pub unused_with : ℕ × Bor (List ℕ) → UnusedAndBytes
unused_with x = record { unused = x.0; bytes = x.1.now }

-- the contents c are the count of unused bits, and the bytes, all bits of which have a count of 64 bits
pub record AreWholeBits (b : UnusedAndBytes) (c : List ℕ) : Type 0 where
  pub contents : c ≡ b.unused ∷ b.bytes
  pub below : b.unused ≤ 7
  pub none_of_none : b.bytes ≡ [] → b.unused ≡ 0
  pub in_range : 8 * length b.bytes < 2 ^ 64

-- in BER such a primitive element is at the start of s, and what follows it, or there is none
abbrev pub WholeBitsAt : ℕ → BERMode → List ℕ → Option ((ℕ × Bor (List ℕ)) × Bor (List ℕ)) → Type 0
WholeBitsAt n m s (Some x) = (m ≡ Ber) × Takes (IsPrimitive AreWholeBits bits_tag m n) s (unused_with x.0) x.1.now
WholeBitsAt n m s None = m ≡ Ber → HasPrefix (IsPrimitive AreWholeBits bits_tag m n) s → ⊥
