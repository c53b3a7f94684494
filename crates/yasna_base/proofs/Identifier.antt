-- An identifier at the start of bytes shows its tag, its bit and its own end.
use Rattle.std.proofs.Common.{◌≡◌, ℕ, ◌+◌, ◌*◌, ◌^◌, ◌<◌, ◌≤◌, List, [], ◌∷◌, ◌++◌, length, refl, ap, ◌∙◌, sym, inl, inr, arith, ap₂, append_assoc, length-append, subst, lt-ltb, le-ltb}
use Rattle.std.proofs.lemmas.Bool.{cases_lt}
use Rattle.yasna_base.specs.declared.tag.PCBit.{PCBit}
use Rattle.yasna_base.specs.declared.tag.PCBit.TheVariants.{Primitive, Constructed}
use Rattle.yasna_base.specs.declared.tag.Tag.{Tag}
use Rattle.yasna_base.specs.declared.tag.TagClass.{TagClass}
use Rattle.yasna_base.specs.declared.tag.TagClass.TheVariants.{Universal, Application, ContextSpecific, Private}
use Rattle.yasna_base.specs.Digits.{IsBytes, base128}
use Rattle.yasna_base.specs.Identifier.{class_number, bit_number, leading_byte, identifier, universal, end_tag, BeginsWithTag, begins, AtEnd, end}
use Rattle.yasna_base.proofs.Digits.{base128_exact, base128_bytes}
use Rattle.yasna_base.proofs.Lists.{prefixes_as}

-- classes with one number are equal
pub class_same : (c d : TagClass) → class_number c ≡ class_number d → c ≡ d
class_same Universal Universal e = refl
class_same Application Application e = refl
class_same ContextSpecific ContextSpecific e = refl
class_same Private Private e = refl
class_same c d e = absurd (omega arith)

-- bits with one number are equal
pub bit_same : (p q : PCBit) → bit_number p ≡ bit_number q → p ≡ q
bit_same Primitive Primitive e = refl
bit_same Constructed Constructed e = refl
bit_same p q e = absurd (omega arith)

bit_below : (p : PCBit) → bit_number p < 2
bit_below Primitive = omega arith
bit_below Constructed = omega arith

-- a leading byte shows the class, the bit and the five low bits
pub leading_same : (t u : Tag) (p q : PCBit) (i j : ℕ) → i < 32 → j < 32 → leading_byte t p i ≡ leading_byte u q j →
    (t.tag_class ≡ u.tag_class) × (p ≡ q) × (i ≡ j)
leading_same t u p q i j k l e =
    let m = bit_below p in
    let n = bit_below q in
    (class_same t.tag_class u.tag_class (omega arith), bit_same p q (omega arith), omega arith)

-- a number below 31 is in the leading byte
pub identifier_short : (t : Tag) (p : PCBit) → t.tag_number < 31 → identifier t p ≡ leading_byte t p t.tag_number ∷ []
unfolding identifier
identifier_short t p h = rw (lt-ltb t.tag_number 31 h)

-- any other number is after it
pub identifier_long : (t : Tag) (p : PCBit) → 31 ≤ t.tag_number → identifier t p ≡ leading_byte t p 31 ∷ base128 t.tag_number
unfolding identifier
identifier_long t p h = rw (le-ltb t.tag_number 31 h)

tag_same : (t u : Tag) → t.tag_class ≡ u.tag_class → t.tag_number ≡ u.tag_number → t ≡ u
tag_same t u e f = ap₂ (λ c n. record { tag_class = c; tag_number = n }) e f

-- two identifiers at the start of one list are equal, and so is what follows
pub identifier_exact : (t u : Tag) (p q : PCBit) (r s : List ℕ) → identifier t p ++ r ≡ identifier u q ++ s → (t ≡ u) × (p ≡ q) × (r ≡ s)
identifier_exact t u p q r s e = elim (cases_lt t.tag_number 31) [
  | inl h ↦ elim (cases_lt u.tag_number 31) [
    | inl k ↦
        let x = prefixes_as r s (identifier_short t p h) (identifier_short u q k) e in
        let y = leading_same t u p q t.tag_number u.tag_number (omega arith) (omega arith) (cc) in
        (tag_same t u y.0 y.2, y.1, (cc))
    | inr k ↦
        let x = prefixes_as r s (identifier_short t p h) (identifier_long u q k) e in
        let y = leading_same t u p q t.tag_number 31 (omega arith) (omega arith) (cc) in
        absurd (omega (arith, y.2))
  ]
  | inr h ↦ elim (cases_lt u.tag_number 31) [
    | inl k ↦
        let x = prefixes_as r s (identifier_long t p h) (identifier_short u q k) e in
        let y = leading_same t u p q 31 u.tag_number (omega arith) (omega arith) (cc) in
        absurd (omega (arith, y.2))
    | inr k ↦
        let x = prefixes_as r s (identifier_long t p h) (identifier_long u q k) e in
        let y = leading_same t u p q 31 31 (omega arith) (omega arith) (cc) in
        let z = base128_exact t.tag_number u.tag_number r s (cc) in
        (tag_same t u y.0 z.0, y.1, z.1)
  ]
]

-- an identifier has at least one byte
pub identifier_some : (t : Tag) (p : PCBit) → 1 ≤ length (identifier t p)
identifier_some t p = elim (cases_lt t.tag_number 31) [
  | inl h ↦ omega (arith, ap length (identifier_short t p h))
  | inr h ↦ omega (arith, ap length (identifier_long t p h))
]

-- bytes begin with the identifier of one tag only
pub begins_once : (t u : Tag) (s : List ℕ) → BeginsWithTag t s → BeginsWithTag u s → t ≡ u
begins_once t u s (begins p r e) (begins q v f) = (identifier_exact t u p q r v (sym e ∙ f)).0

-- bytes that begin with an identifier aren't empty
pub begins_some : (t : Tag) (s : List ℕ) → BeginsWithTag t s → 1 ≤ length s
begins_some t s (begins p r e) = omega (arith, identifier_some t p, ap length e, length-append (identifier t p) r)

-- bytes that begin with a tag do so whatever bytes follow
pub begins_with : (t : Tag) (s r : List ℕ) → BeginsWithTag t s → BeginsWithTag t (s ++ r)
begins_with t s r (begins p x e) = begins p (x ++ r) (ap (λ z. z ++ r) e ∙ append_assoc (identifier t p) x r)

-- the identifier of the end of contents is a zero
pub end_identifier : (r : List ℕ) → identifier end_tag Primitive ++ r ≡ 0 ∷ r
end_identifier r = ap (λ z. z ++ r) (identifier_short end_tag Primitive (omega arith))

-- contents end where a zero is there
pub zeros_at_end : (r : List ℕ) → AtEnd (0 ∷ r)
zeros_at_end r = end (begins Primitive r (sym (end_identifier r)))

class_below : (c : TagClass) → class_number c < 4
class_below Universal = omega arith
class_below Application = omega arith
class_below ContextSpecific = omega arith
class_below Private = omega arith

leading_below : (t : Tag) (p : PCBit) (i : ℕ) → i < 32 → leading_byte t p i < 256
leading_below t p i h = omega (arith, class_below t.tag_class, bit_below p)

-- an identifier is bytes
pub identifier_bytes : (t : Tag) (p : PCBit) → IsBytes (identifier t p)
identifier_bytes t p = elim (cases_lt t.tag_number 31) [
  | inl h ↦ subst IsBytes (sym (identifier_short t p h)) (leading_below t p t.tag_number (omega arith), tt)
  | inr h ↦ subst IsBytes (sym (identifier_long t p h)) (leading_below t p 31 (omega arith), base128_bytes t.tag_number)
]

-- a universal tag with another number isn't that of the end of contents
pub not_end : (k : ℕ) → (k ≡ 0 → ⊥) → universal k ≡ end_tag → ⊥
not_end k h e = h (ap (λ (t : Tag). t.tag_number) e)

-- no identifier is where nothing is left
pub nothing_there : (s : List ℕ) → s ≡ [] → (t : Tag) (p : PCBit) (r : List ℕ) → t.tag_number < 2 ^ 64 → s ≡ identifier t p ++ r → ⊥
nothing_there s e t p r h f = let g = identifier_some t p in none (identifier t p) r g (sym f ∙ e)
  where
    none : (a r : List ℕ) → 1 ≤ length a → a ++ r ≡ [] → ⊥
    none [] r h e = omega arith
    none (x ∷ a) r h e = cc

-- a first byte whose low part is the number
pub short_identifier : (s : List ℕ) (x : ℕ) (y : List ℕ) (c : TagClass) (p : PCBit) (n : ℕ) → s ≡ x ∷ y → x ≡ 64 * class_number c + 32 * bit_number p + n →
    n < 31 → s ≡ identifier (record { tag_class = c; tag_number = n }) p ++ y
short_identifier s x y c p n e f h = e ∙ ap (λ z. z ∷ y) f ∙ sym (ap (λ z. z ++ y) (identifier_short (record { tag_class = c; tag_number = n }) p h))

-- a first byte that says that the number follows, and the number
pub long_identifier : (s : List ℕ) (x : ℕ) (y : List ℕ) (c : TagClass) (p : PCBit) (l n : ℕ) (r : List ℕ) → s ≡ x ∷ y →
    x ≡ 64 * class_number c + 32 * bit_number p + l → l ≡ 31 → 31 ≤ n → y ≡ base128 n ++ r → s ≡ identifier (record { tag_class = c; tag_number = n }) p ++ r
long_identifier s x y c p l n r e f i h j =
    let g : x ≡ 64 * class_number c + 32 * bit_number p + 31 = omega arith in
    e ∙ ap (λ z. z ∷ y) g ∙ ap (λ z. (64 * class_number c + 32 * bit_number p + 31) ∷ z) j ∙
    sym (ap (λ z. z ++ r) (identifier_long (record { tag_class = c; tag_number = n }) p h))

-- a first byte that says that a number follows, where none does
pub no_identifier : (s : List ℕ) (x : ℕ) (y : List ℕ) (c : TagClass) (p : PCBit) (l : ℕ) → s ≡ x ∷ y → x ≡ 64 * class_number c + 32 * bit_number p + l →
    l ≡ 31 → ((n : ℕ) (r : List ℕ) → 31 ≤ n → n < 2 ^ 64 → y ≡ base128 n ++ r → ⊥) → (t : Tag) (q : PCBit) (r : List ℕ) → t.tag_number < 2 ^ 64 →
    s ≡ identifier t q ++ r → ⊥
no_identifier s x y c p l e f i g t q r b h = elim (cases_lt t.tag_number 31) [
  | inl k ↦ let j = sym e ∙ h ∙ ap (λ z. z ++ r) (identifier_short t q k) in
      let a : x ≡ leading_byte t q t.tag_number = cc in
      let d = (leading_same (record { tag_class = c; tag_number = 31 }) t p q 31 t.tag_number (omega arith) (omega arith) (omega arith)).2 in omega arith
  | inr k ↦ let j = sym e ∙ h ∙ ap (λ z. z ++ r) (identifier_long t q k) in
      let a : y ≡ base128 t.tag_number ++ r = cc in g t.tag_number r k b a
]
