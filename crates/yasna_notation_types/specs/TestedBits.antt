-- The default of a BIT STRING (X.680, 25.9).
use Rattle.std.proofs.Common.{◌≡◌, Bool, true, refl, ap₂, subst, sym, ◌∙◌}
use Rattle.std.proofs.lemmas.Bool.{and_parts, eq-eqb, eqb-true}
use Rattle.std.proofs.lemmas.Slice.Eq.{bytes_eq-Decides}
use Rattle.std.specs.Cmp.Derive.{both_true}
use Rattle.std.specs.Prelude.{◌&&◌, nat_eq}
use Rattle.std.specs.Str.{bytes_eq}
use Rattle.yasna_base.specs.Bits.{BitString}
use Rattle.yasna_bytes.specs.Segments.{bits_in}
use Rattle.yasna_notation_constraints.specs.TestedDefaults.{IsOneValue, one_seen}

-- the test for the string k: as many bits, in the same bytes
abbrev pub is_bit_string : BitString → BitString → Bool
is_bit_string k v = nat_eq v.count k.count && bytes_eq v.bytes k.bytes

string_itself : (v : BitString) → is_bit_string v v ≡ true
string_itself v = both_true (eq-eqb v.count v.count refl) ((bytes_eq-Decides v.bytes v.bytes).1 refl)

string_same : (k v : BitString) → is_bit_string k v ≡ true → v ≡ k
string_same k v e =
    let p = and_parts (nat_eq v.count k.count) (bytes_eq v.bytes k.bytes) e in
    ap₂ (λ b c. record { bytes = b; count = c }) ((bytes_eq-Decides v.bytes k.bytes).0 p.1) (eqb-true v.count k.count p.0)

-- the strings that are k are one value
one_bit_string : (k : BitString) → IsOneValue (λ v w. v ≡ w) (is_bit_string k)
one_bit_string k v e w = (
  λ f. string_same k w f ∙ sym (string_same k v e),
  λ f. subst (λ u. is_bit_string k u ≡ true) (sym f) e,
)

-- so are what represents them in code
pub one_bits : (k : BitString) → IsOneValue (λ v w. bits_in v ≡ bits_in w) (λ v. is_bit_string k (bits_in v))
one_bits k = one_seen bits_in (λ v w. (λ e. e, λ e. e)) (is_bit_string k) (one_bit_string k)
