-- Ranges of the table of types.
use Rattle.std.proofs.Common.{◌≡◌, ◌<◌, ◌≤◌, ℕ, get_or, refl, sym, subst, inl, inr, arith}
use Rattle.std.proofs.lemmas.Bool.{cases_lt}
use Rattle.std.proofs.lemmas.List.{get_or_past}
use Rattle.asn1show_printer.specs.Types.{universal_types}
use Rattle.asn1show_printer.specs.declared.asn_type.Characters.TheVariants.{Utf8, Visible}
use Rattle.asn1show_printer.specs.declared.asn_type.AsnType.{AsnType}
use Rattle.asn1show_printer.specs.declared.asn_type.AsnType.TheVariants.{Whole, Unknown}

abbrev type_at : ℕ → AsnType
type_at n = get_or universal_types n Unknown

at_number : (t : AsnType) (n k : ℕ) → n ≡ k → t ≡ type_at k → t ≡ type_at n
at_number t n k e h = subst (λ z. t ≡ type_at z) (sym e) h

pub whole_utf8 : (n : ℕ) → 35 ≤ n → n < 37 → Whole Utf8 ≡ get_or universal_types n Unknown
whole_utf8 n a b = elim (cases_lt n 36) [
  | inl h ↦ at_number (Whole Utf8) n 35 (omega (arith, a, h)) refl
  | inr h ↦ at_number (Whole Utf8) n 36 (omega (arith, b, h)) refl
]

pub whole_visible : (n : ℕ) → 31 ≤ n → n < 35 → Whole Visible ≡ get_or universal_types n Unknown
whole_visible n a b = elim (cases_lt n 33) [
  | inl h ↦ elim (cases_lt n 32) [
    | inl k ↦ at_number (Whole Visible) n 31 (omega (arith, a, k)) refl
    | inr k ↦ at_number (Whole Visible) n 32 (omega (arith, h, k)) refl
  ]
  | inr h ↦ elim (cases_lt n 34) [
    | inl k ↦ at_number (Whole Visible) n 33 (omega (arith, h, k)) refl
    | inr k ↦ at_number (Whole Visible) n 34 (omega (arith, b, k)) refl
  ]
]

pub no_type : (n : ℕ) → 37 ≤ n → Unknown ≡ get_or universal_types n Unknown
no_type n h = sym (get_or_past universal_types n Unknown h)
