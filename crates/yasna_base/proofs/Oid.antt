-- The laws of OBJECT IDENTIFIER.
use Rattle.std.proofs.Common.{Fits, Bool, IsTrue, ◌↔◌, get_or, zero, suc, length, ◌≡◌, ℕ, ◌+◌, ◌*◌, ◌^◌, ◌<◌, ◌≤◌, List, [], ◌∷◌, refl, ap, ap₂, length-append, ◌++◌, ◌∙◌, sym, inl, inr, arith}
use Rattle.std.proofs.lemmas.Bool.{cases_lt}
use Rattle.std.specs.Int.{w64}
use Rattle.std.specs.List.{flat_map, AllByRecursion}
use Rattle.yasna_base.specs.declared.tag.Tag.{Tag}
use Rattle.yasna_base.specs.Canonical.{leaf_depth, IsWritten}
use Rattle.yasna_base.specs.Coding.{IsCoding, Any}
use Rattle.yasna_base.specs.Digits.{IsBytes, base128}
use Rattle.yasna_base.specs.Element.{Primitively}
use Rattle.yasna_base.specs.Identifier.{end_tag}
use Rattle.yasna_base.specs.Oid.{AreFirstTwo, IsEncodableOid, subidentifiers, oid_contents, AreComponents, EncodesOid, oid_encoding, oid_tag}
use Rattle.yasna_base.proofs.Canonical.{primitively_written}
use Rattle.yasna_base.proofs.Coding.{primitively}
use Rattle.yasna_base.proofs.Digits.{base128_exact, base128_some, base128_bytes, bytes_append}
use Rattle.yasna_base.proofs.Identifier.{not_end}

-- bytes after a number in base 128 aren't all there is
pub not_empty : (k : ℕ) (r : List ℕ) → base128 k ++ r ≡ [] → ⊥
not_empty k r e = omega (arith, base128_some k, ap length e, length-append (base128 k) r)

-- numbers in base 128, one after the other, show which they are
pub numbers_exact : (ks ls : List ℕ) → flat_map base128 ks ≡ flat_map base128 ls → ks ≡ ls
numbers_exact [] [] e = refl
numbers_exact [] (l ∷ ls) e = absurd (not_empty l (flat_map base128 ls) (sym e))
numbers_exact (k ∷ ks) [] e = absurd (not_empty k (flat_map base128 ks) e)
numbers_exact (k ∷ ks) (l ∷ ls) e =
    let w = base128_exact k l (flat_map base128 ks) (flat_map base128 ls) e in
    ap₂ (λ x xs. x ∷ xs) w.0 (numbers_exact ks ls w.1)

-- what the first two components make shows both
pub first_two_exact : (x y u v : ℕ) → AreFirstTwo x y → AreFirstTwo u v → 40 * x + y ≡ 40 * u + v → (x ≡ u) × (y ≡ v)
first_two_exact x y u v p q e = elim (cases_lt x 2) [
  | inl h ↦ elim (cases_lt u 2) [
    | inl k ↦ let f = p.arc (omega arith) in let g = q.arc (omega arith) in (omega arith, omega arith)
    | inr k ↦ let f = p.arc (omega arith) in absurd (omega arith)
  ]
  | inr h ↦ elim (cases_lt u 2) [
    | inl k ↦ let g = q.arc (omega arith) in absurd (omega arith)
    | inr k ↦ (omega (arith, p.root, q.root), omega (arith, p.root, q.root))
  ]
]

-- subidentifiers show the components
pub components_exact : (cs ds : List ℕ) → IsEncodableOid cs → IsEncodableOid ds → subidentifiers cs ≡ subidentifiers ds → cs ≡ ds
components_exact [] ds p q e = absurd p
components_exact (x ∷ []) ds p q e = absurd p
components_exact (x ∷ y ∷ cs) [] p q e = absurd q
components_exact (x ∷ y ∷ cs) (u ∷ []) p q e = absurd q
components_exact (x ∷ y ∷ cs) (u ∷ v ∷ ds) p q e =
    let f : 40 * x + y ≡ 40 * u + v = cc in
    let g : cs ≡ ds = cc in
    let w = first_two_exact x y u v p.0 q.0 f in
    let a : x ≡ u = w.0 in
    let b : y ≡ v = w.1 in
    cc

-- contents have one meaning
pub one_oid : (v w c : List ℕ) (p : IsEncodableOid v) (q : IsEncodableOid w) → c ≡ oid_contents v → c ≡ oid_contents w → v ≡ w
one_oid v w c p q e f = components_exact v w p q (numbers_exact (subidentifiers v) (subidentifiers w) (sym e ∙ f))

numbers_bytes : (ks : List ℕ) → IsBytes (flat_map base128 ks)
numbers_bytes [] = tt
numbers_bytes (k ∷ ks) = bytes_append (base128 k) (flat_map base128 ks) (base128_bytes k) (numbers_bytes ks)

-- contents are bytes
pub oid_bytes : (cs : List ℕ) → IsBytes (oid_contents cs)
oid_bytes cs = numbers_bytes (subidentifiers cs)

-- what a slice of numbers points to are numbers of 64 bits
pub all_small : (ks : List ℕ) → ((i : ℕ) → Fits w64 (get_or ks i 0)) → AllByRecursion (λ k. k < 2 ^ 64) ks
all_small [] f = tt
all_small (k ∷ ks) f = (let h = f zero in omega arith, all_small ks (λ i. f (suc i)))

-- of numbers of 64 bits the first two say whether there is an encoding
pub encodable_of : (cs : List ℕ) (r : Bool) → 2 ≤ length cs → ((i : ℕ) → Fits w64 (get_or cs i 0)) →
    (IsTrue r ↔ AreFirstTwo (get_or cs 0 0) (get_or cs 1 0)) → (IsTrue r ↔ IsEncodableOid cs)
encodable_of [] r l f h = absurd (omega arith)
encodable_of (x ∷ []) r l f h = absurd (omega arith)
encodable_of (x ∷ y ∷ cs) r l f h = (λ t. (h.0 t, all_small cs (λ i. f (suc (suc i)))), λ e. h.1 e.0)

-- OBJECT IDENTIFIER satisfies the laws of reading
pub oid_under : (t : Tag) → (t ≡ end_tag → ⊥) →
    IsCoding (λ v w. v ≡ w) (Primitively AreComponents t) (Any (Primitively AreComponents t))
oid_under t not_end = primitively AreComponents t not_end (λ m v w c x y. one_oid v w c x.encodable y.encodable x.contents y.contents)

-- OBJECT IDENTIFIER satisfies the laws of writing
pub oid_written_under : (t : Tag) → t.tag_number < 2 ^ 64 →
    IsWritten (λ v w. v ≡ w) (Primitively AreComponents t) (oid_encoding t) leaf_depth IsEncodableOid
oid_written_under t range = primitively_written AreComponents IsEncodableOid oid_contents t range
    (λ v can. oid_bytes v)
    (λ m v can. record { encodable = can; contents = refl })
    (λ m v c h x. x.contents)
    (λ m v c x. x.encodable)

-- under its own tag
pub oid_coding : IsCoding (λ v w. v ≡ w) EncodesOid (Any EncodesOid)
oid_coding = oid_under oid_tag (not_end 6 (λ e. omega arith))

pub oid_written : IsWritten (λ v w. v ≡ w) EncodesOid (oid_encoding oid_tag) leaf_depth IsEncodableOid
oid_written = oid_written_under oid_tag (omega arith)
