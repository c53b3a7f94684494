-- A BIT STRING in one primitive element, which is appended from where it is.
use Rattle.std.proofs.Common.{◌≡◌, ℕ, zero, suc, ◌-◌, ◌*◌, ◌%◌, ◌≤◌, List, [], ◌∷◌, ◌++◌, length, refl, sym, ap, ◌∙◌, subst, append_assoc, arith}
use Rattle.yasna_base.specs.Bits.{BitString, AreTheBits, IsBits, bits_tag, padded, bits_segmentation}
use Rattle.yasna_base.specs.Canonical.{canonical_element}
use Rattle.yasna_base.specs.Element.{IsPrimitive}
use Rattle.yasna_base.specs.Length.{shortest_length}
use Rattle.yasna_base.specs.Segmented.{whole}
use Rattle.yasna_base.specs.Set.{SetPart}
use Rattle.yasna_base.specs.declared.mode.BERMode.{BERMode}
use Rattle.yasna_base.specs.declared.mode.BERMode.TheVariants.{Ber, Der}
use Rattle.yasna_base.specs.declared.tag.PCBit.TheVariants.{Primitive}
use Rattle.yasna_base.proofs.Element.{primitive_exact}
use Rattle.yasna_base.proofs.Identifier.{identifier_short}
use Rattle.yasna_base.proofs.Segmented.{segmented_of}
use Rattle.yasna_bytes.specs.Header.{AreContents}
use Rattle.yasna_bytes.specs.Prefix.{Takes, HasPrefix}
use Rattle.yasna_bytes.specs.Rejection.{Rejects}
use Rattle.yasna_bytes.specs.declared.bytes.header.Rejection.{Rejection}
use Rattle.asn1der_convert.specs.Parts.{AppendsBits, AppendsPart}
use Rattle.asn1der_convert.specs.WholeBits.{UnusedAndBytes, AreWholeBits}
use Rattle.asn1der_convert.proofs.Appends.{der_element}
use Rattle.asn1der_convert.proofs.Parts.{bits_part}

few_unused : (u : ℕ) (b : List ℕ) → u ≤ 7 → (b ≡ [] → u ≡ 0) → u ≤ 8 * length b
few_unused u [] h f = omega (arith, f refl)
few_unused u (x ∷ xs) h f = omega (arith, h)

-- the bits of the bytes that aren't unused
abbrev used_bits : UnusedAndBytes → BitString
used_bits b = record { bytes = b.bytes; count = 8 * length b.bytes - b.unused }

bits_meant : (b : UnusedAndBytes) (c : List ℕ) → AreWholeBits b c → AreTheBits Ber (used_bits b) c
bits_meant b c h =
    let few = few_unused b.unused b.bytes h.below h.none_of_none in
    record {
      unused = b.unused;
      contents = h.contents;
      below = h.below;
      none_of_none = h.none_of_none;
      counted = omega (arith, few);
      padded = tt;
      in_range = omega (arith, h.in_range);
    }

-- such an element is a bit string
bits_taken : (n : ℕ) (m : BERMode) (s r : List ℕ) (b : UnusedAndBytes) → m ≡ Ber → Takes (IsPrimitive AreWholeBits bits_tag m n) s b r →
    Takes (IsBits bits_tag m n) s (used_bits b) r
bits_taken zero m s r b e x = absurd (omega (arith, x.member.level))
bits_taken (suc n) m s r b e x =
    let y = subst (λ (z : BERMode). Takes (IsPrimitive AreWholeBits bits_tag z (suc n)) s b r) e x in
    let z : Takes (IsBits bits_tag Ber (suc n)) s (used_bits b) r = record {
      prefix = y.prefix;
      joined = y.joined;
      member = segmented_of bits_segmentation n Ber bits_tag (used_bits b) y.prefix
          (whole y.member.contents y.member.element (bits_meant b y.member.contents y.member.meaning) tt);
    } in
    subst (λ (m : BERMode). Takes (IsBits bits_tag m (suc n)) s (used_bits b) r) (sym e) z

-- it was appended
pub whole_bits_appended : (n : ℕ) (m : BERMode) (s r out out' : List ℕ) (b : UnusedAndBytes) → m ≡ Ber → Takes (IsPrimitive AreWholeBits bits_tag m n) s b r →
    AppendsBits b.unused (3 ∷ []) b.bytes out out' → AppendsPart n m s r out out'
whole_bits_appended n m s r out out' b e x f =
    let c = b.unused ∷ padded b.unused b.bytes in
    let p : SetPart = record { tag = bits_tag; bytes = canonical_element Der bits_tag Primitive c } in
    let few = few_unused b.unused b.bytes x.member.meaning.below x.member.meaning.none_of_none in
    let same : 8 * length b.bytes - (8 * length b.bytes - b.unused) ≡ b.unused = omega (arith, few) in
    record {
      part = p;
      taken = bits_part n m s r (used_bits b) p c (bits_taken n m s r b e x) refl refl (ap (λ k. k ∷ padded k b.bytes) (sym same));
      added = f ∙ ap (λ z. out ++ z) (der_element bits_tag Primitive (3 ∷ []) c (sym (identifier_short bits_tag Primitive (omega arith))));
    }

-- the contents that were read aren't such, so no such element is there
pub no_whole_bits : (n : ℕ) (m : BERMode) (s c r : List ℕ) → Takes (IsPrimitive AreContents bits_tag m n) s c r → ((b : UnusedAndBytes) → AreWholeBits b c → ⊥) →
    HasPrefix (IsPrimitive AreWholeBits bits_tag m n) s → ⊥
no_whole_bits n m s c r x none h =
    let y = h.2 in
    let same = primitive_exact m m bits_tag bits_tag Primitive x.member.contents y.member.contents x.prefix y.prefix r h.1 x.member.element y.member.element
    (sym x.joined ∙ y.joined) in
    none h.0 (subst (AreWholeBits h.0) (sym (x.member.meaning ∙ same.contents)) y.member.meaning)

-- no primitive element is there at all
pub no_primitive_bits : (n : ℕ) (m : BERMode) (s : List ℕ) (Deep Elsewhere : Type 0) (e : Rejection) →
    Rejects (HasPrefix (IsPrimitive AreContents bits_tag m n) s) Deep ⊥ Elsewhere e → HasPrefix (IsPrimitive AreWholeBits bits_tag m n) s → ⊥
no_primitive_bits n m s Deep Elsewhere e x h =
    let y = h.2 in
    x.none (λ k. x.memory k) (
      y.member.contents,
      h.1,
      record {
        prefix = y.prefix;
        joined = y.joined;
        member = record { level = y.member.level; contents = y.member.contents; element = y.member.element; meaning = refl };
      },
    )

-- bits are cleared after other bytes
padded_after : (u : ℕ) (xs : List ℕ) (y : ℕ) (ys : List ℕ) → padded u (xs ++ (y ∷ ys)) ≡ xs ++ padded u (y ∷ ys)
padded_after u [] y ys = refl
padded_after u (x ∷ []) y ys = refl
padded_after u (x ∷ z ∷ xs) y ys = ap (λ zs. x ∷ zs) (padded_after u (z ∷ xs) y ys)

-- no bits are cleared
padded_nothing : (xs : List ℕ) → padded 0 xs ≡ xs
padded_nothing [] = refl
padded_nothing (x ∷ []) = let e : x - x % 1 ≡ x = omega arith in ap (λ y. y ∷ []) e
padded_nothing (x ∷ y ∷ ys) = ap (λ zs. x ∷ zs) (padded_nothing (y ∷ ys))

padded_length : (u : ℕ) (xs : List ℕ) → length (padded u xs) ≡ length xs
padded_length u [] = refl
padded_length u (x ∷ []) = refl
padded_length u (x ∷ y ∷ ys) = ap suc (padded_length u (y ∷ ys))

-- the last byte of an element that was appended was cleared
pub bits_cleared : (u : ℕ) (i b out mid new : List ℕ) → (b ≡ [] → u ≡ 0) → mid ≡ out ++ (i ++ (shortest_length (length ((u ∷ []) ++ b)) ++ ((u ∷ []) ++ b))) →
    new ≡ padded u mid → AppendsBits u i b out new
bits_cleared u i b out mid new f e g = g ∙ ap (padded u) e ∙ go b f
  where
    go : (b : List ℕ) → (b ≡ [] → u ≡ 0) → padded u (out ++ (i ++ (shortest_length (length ((u ∷ []) ++ b)) ++ ((u ∷ []) ++ b)))) ≡
        out ++ (i ++ (shortest_length (length (u ∷ padded u b)) ++ (u ∷ padded u b)))
    go [] f = ap (λ k. padded k (out ++ (i ++ (shortest_length 1 ++ (u ∷ []))))) (f refl) ∙ padded_nothing (out ++ (i ++ (shortest_length 1 ++ (u ∷ []))))
    go (y ∷ ys) f =
        let l = shortest_length (length (u ∷ y ∷ ys)) in
        let size : length (u ∷ y ∷ ys) ≡ length (u ∷ padded u (y ∷ ys)) = ap suc (sym (padded_length u (y ∷ ys))) in
        let before = out ++ (i ++ (l ++ (u ∷ []))) in
        let split : (z : List ℕ) → before ++ z ≡ out ++ (i ++ (l ++ (u ∷ z))) = λ z. simp append_assoc in
        ap (padded u) (sym (split (y ∷ ys))) ∙ padded_after u before y ys ∙ split (padded u (y ∷ ys)) ∙
        ap (λ k. out ++ (i ++ (shortest_length k ++ (u ∷ padded u (y ∷ ys))))) size
