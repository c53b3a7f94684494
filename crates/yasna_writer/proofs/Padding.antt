-- The bytes of a bit string, with zeros in the bits that are left over.
use Rattle.std.proofs.Common.{◌≡◌, ℕ, ◌+◌, ◌-◌, ◌*◌, ◌/◌, ◌%◌, ◌^◌, ◌<◌, ◌≤◌, List, [], ◌∷◌, ◌++◌, length, length-append, refl, sym, ap, ◌∙◌, arith}
use Rattle.std.proofs.Math.Nat.{mod-eq_of_lt, mod-add-div'}
use Rattle.yasna_base.specs.Bits.{padded, unused_bits, bits_contents}
use Rattle.yasna_writer.specs.Segments.{bits_with}

-- only the last byte changes
pub padded_last : (u : ℕ) (prefix : List ℕ) (last : ℕ) → padded u (prefix ++ last ∷ []) ≡ prefix ++ (last - last % 2 ^ u) ∷ []
padded_last u [] last = refl
padded_last u (x ∷ []) last = refl
padded_last u (x ∷ y ∷ ys) last = ap (λ zs. x ∷ zs) (padded_last u (y ∷ ys) last)

-- a byte with its low bits shifted out and zeros shifted in
pub low_bits_cleared : (last u : ℕ) → last < 256 → last / 2 ^ u * 2 ^ u % 256 ≡ last - last % 2 ^ u
low_bits_cleared last u h =
    let e = mod-add-div' last (2 ^ u) in
    mod-eq_of_lt (omega arith) ∙ omega arith

-- count and bytes, as they are written
pub padded_contents :
    (bytes prefix : List ℕ) (last len u : ℕ) → last < 256 → len ≤ 8 * length bytes → 8 * length bytes < len + 8 → bytes ≡ prefix ++ last ∷ []
    → u ≡ (8 - len % 8) % 8
    → unused_bits (record { bytes = bytes; count = len }) ∷ padded (unused_bits (record { bytes = bytes; count = len })) bytes
    ≡ u ∷ (prefix ++ (last / 2 ^ u * 2 ^ u % 256) ∷ [])
padded_contents bytes prefix last len u byte enough least split unused =
    let same : 8 * length bytes - len ≡ u = omega arith in
    rw same (ap (λ zs. u ∷ zs) (ap (padded u) split ∙ padded_last u prefix last ∙ ap (λ x. prefix ++ x ∷ []) (sym (low_bits_cleared last u byte))))

-- the contents of a string by the count of bits that are left over
pub contents_with :
    (bytes prefix : List ℕ) (last u : ℕ) → last < 256 → u < 8 → bytes ≡ prefix ++ last ∷ [] →
    bits_contents (bits_with u bytes) ≡ u ∷ (prefix ++ (last / 2 ^ u * 2 ^ u % 256) ∷ [])
contents_with bytes prefix last u byte few split =
    let n = ap length split in
    let l = length-append prefix (last ∷ []) in
    let same : 8 * length bytes - (8 * length bytes - u) ≡ u = omega arith in
    rw same (ap (λ zs. u ∷ zs) (ap (padded u) split ∙ padded_last u prefix last ∙ ap (λ x. prefix ++ x ∷ []) (sym (low_bits_cleared last u byte))))
