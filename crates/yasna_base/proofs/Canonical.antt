-- The one encoding of an element in a canonical mode, and the laws of writing, of primitive elements, of what encloses others,
-- and of what represents others.
use Rattle.std.proofs.Common.{◌≡◌, ◌↔◌, ℕ, ◌+◌, ◌^◌, ◌<◌, ◌≤◌, List, ◌∷◌, ◌++◌, length, refl, ap, ◌∙◌, sym, arith, zero, suc, length-append, subst}
use Rattle.yasna_base.specs.declared.mode.BERMode.{BERMode}
use Rattle.yasna_base.specs.declared.mode.BERMode.TheVariants.{Ber, Der, Cer}
use Rattle.yasna_base.specs.declared.tag.PCBit.{PCBit}
use Rattle.yasna_base.specs.declared.tag.PCBit.TheVariants.{Primitive, Constructed}
use Rattle.yasna_base.specs.declared.tag.Tag.{Tag}
use Rattle.yasna_base.specs.Canonical.{IsCanonicalMode, HoldsEncoding, definite_element, indefinite_element, canonical_element, leaf_depth, enclosed_encoding, enclosed_depth, Always, HasEncoding, IsWritten}
use Rattle.yasna_base.specs.Digits.{IsBytes}
use Rattle.yasna_base.specs.Element.{TakesDefinite, TakesIndefinite, end_of_contents, Definite, Indefinite, Framed, definite, indefinite, Element, Primitively, Enclosed}
use Rattle.yasna_base.specs.Grammar.{Grammar, Encoding, Depth}
use Rattle.yasna_base.specs.Identifier.{identifier}
use Rattle.yasna_base.specs.Length.{shortest_length}
use Rattle.yasna_base.proofs.Digits.{bytes_append}
use Rattle.yasna_base.proofs.Identifier.{identifier_bytes}
use Rattle.yasna_base.proofs.Length.{shortest_in_mode, spells_shortest, shortest_bytes}

-- the encoding with a definite length is an element, where the mode takes one
pub definite_is : (m : BERMode) (t : Tag) (p : PCBit) (c : List ℕ) → TakesDefinite m p → length c < 2 ^ 64 → Framed m t p c (definite_element t p c)
unfolding definite_element
definite_is m t p c x h = definite (record { taken = x; l = shortest_length (length c); spelled = shortest_in_mode m (length c) h; joined = refl })

-- in a canonical mode an element of definite length is that encoding
pub definite_only : (m : BERMode) (t : Tag) (p : PCBit) (c b : List ℕ) → IsCanonicalMode m → Definite m t p c b → b ≡ definite_element t p c
unfolding definite_element
definite_only m t p c b x y = y.joined ∙ ap (λ l. identifier t p ++ (l ++ c)) (spells_shortest m (length c) y.l x y.spelled)

definite_longer : (t : Tag) (p : PCBit) (c : List ℕ) → length c ≤ length (definite_element t p c)
unfolding definite_element
definite_longer t p c = omega (arith, length-append {A = ℕ})

indefinite_longer : (t : Tag) (c : List ℕ) → length c ≤ length (indefinite_element t c)
unfolding indefinite_element
indefinite_longer t c = omega (arith, length-append {A = ℕ})

-- the contents are no longer than the encoding around them
pub contents_shorter : (m : BERMode) (t : Tag) (p : PCBit) (c : List ℕ) → length c ≤ length (canonical_element m t p c)
unfolding canonical_element
contents_shorter m t Primitive c = definite_longer t Primitive c
contents_shorter Ber t Constructed c = definite_longer t Constructed c
contents_shorter Der t Constructed c = definite_longer t Constructed c
contents_shorter Cer t Constructed c = indefinite_longer t c

-- where the encoding fits 64 bits, the contents do
pub short_contents : (m : BERMode) (t : Tag) (p : PCBit) (c : List ℕ) → length (canonical_element m t p c) < 2 ^ 64 → length c < 2 ^ 64
short_contents m t p c h = omega (arith, contents_shorter m t p c)

-- any mode takes a length before the contents of a primitive element
takes_primitive : (m : BERMode) → TakesDefinite m Primitive
takes_primitive Ber = tt
takes_primitive Der = tt
takes_primitive Cer = tt

-- the encoding with an indefinite length is an element, where the mode takes one
indefinite_is : (m : BERMode) (t : Tag) (c : List ℕ) → TakesIndefinite m Constructed → Framed m t Constructed c (indefinite_element t c)
unfolding indefinite_element
indefinite_is m t c x = indefinite (record { taken = x; joined = refl })

canonical_framed : (m o : BERMode) (t : Tag) (p : PCBit) (c : List ℕ) → HoldsEncoding m o → length (canonical_element m t p c) < 2 ^ 64 →
    Framed o t p c (canonical_element m t p c)
unfolding canonical_element
canonical_framed m o t Primitive c x h = definite_is o t Primitive c (takes_primitive o) (short_contents m t Primitive c h)
canonical_framed Ber o t Constructed c x h = absurd x
canonical_framed Der Ber t Constructed c x h = definite_is Ber t Constructed c tt (short_contents Der t Constructed c h)
canonical_framed Der Der t Constructed c x h = definite_is Der t Constructed c tt (short_contents Der t Constructed c h)
canonical_framed Der Cer t Constructed c x h = absurd x
canonical_framed Cer Ber t Constructed c x h = indefinite_is Ber t c tt
canonical_framed Cer Der t Constructed c x h = absurd x
canonical_framed Cer Cer t Constructed c x h = indefinite_is Cer t c tt

-- the canonical encoding is an element, in its mode and wherever that mode's encodings hold
pub canonical_element_is : (m o : BERMode) (t : Tag) (p : PCBit) (c : List ℕ) → HoldsEncoding m o → t.tag_number < 2 ^ 64 → IsBytes c →
    length (canonical_element m t p c) < 2 ^ 64 → Element o t p c (canonical_element m t p c)
canonical_element_is m o t p c x range bytes h = record { in_range = range; in_bytes = bytes; framed = canonical_framed m o t p c x h }

-- a primitive one is the encoding in any canonical mode
pub definite_whole : (m : BERMode) (t : Tag) (c b : List ℕ) → IsCanonicalMode m → Definite m t Primitive c b → b ≡ canonical_element m t Primitive c
unfolding canonical_element
definite_whole m t c b x y = definite_only m t Primitive c b x y

-- an element of indefinite length is that encoding
indefinite_only : (m : BERMode) (t : Tag) (c b : List ℕ) → Indefinite m t Constructed c b → b ≡ indefinite_element t c
unfolding indefinite_element
indefinite_only m t c b y = y.joined

canonical_framed_only : (m : BERMode) (t : Tag) (p : PCBit) (c b : List ℕ) → IsCanonicalMode m → Framed m t p c b → b ≡ canonical_element m t p c
unfolding canonical_element
canonical_framed_only Ber t p c b x y = absurd x
canonical_framed_only Der t Primitive c b x (definite y) = definite_only Der t Primitive c b x y
canonical_framed_only Der t Constructed c b x (definite y) = definite_only Der t Constructed c b x y
canonical_framed_only Der t p c b x (indefinite y) = absurd (y.taken)
canonical_framed_only Cer t Primitive c b x (definite y) = definite_only Cer t Primitive c b x y
canonical_framed_only Cer t Primitive c b x (indefinite y) = absurd (y.taken)
canonical_framed_only Cer t Constructed c b x (definite y) = absurd (y.taken)
canonical_framed_only Cer t Constructed c b x (indefinite y) = indefinite_only Cer t c b y

-- a canonical mode takes no other element with these contents
pub canonical_element_only : (m : BERMode) (t : Tag) (p : PCBit) (c b : List ℕ) → IsCanonicalMode m → Element m t p c b → b ≡ canonical_element m t p c
canonical_element_only m t p c b x y = canonical_framed_only m t p c b x y.framed

definite_bytes : (t : Tag) (p : PCBit) (c : List ℕ) → IsBytes c → length c < 2 ^ 64 → IsBytes (definite_element t p c)
unfolding definite_element
definite_bytes t p c bytes h =
    let size = shortest_bytes (length c) h in
    bytes_append (identifier t p) (shortest_length (length c) ++ c) (identifier_bytes t p) (bytes_append (shortest_length (length c)) c size bytes)

-- an identifier, 128 and bytes are bytes
pub opening_bytes : (t : Tag) (c : List ℕ) → IsBytes c → IsBytes (identifier t Constructed ++ (128 ∷ c))
opening_bytes t c bytes = bytes_append (identifier t Constructed) (128 ∷ c) (identifier_bytes t Constructed) (omega arith, bytes)

indefinite_bytes : (t : Tag) (c : List ℕ) → IsBytes c → IsBytes (indefinite_element t c)
unfolding indefinite_element
indefinite_bytes t c bytes = opening_bytes t (c ++ end_of_contents) (bytes_append c end_of_contents bytes (omega arith, (omega arith, tt)))

-- the encoding around bytes is bytes
pub canonical_element_bytes : (m : BERMode) (t : Tag) (p : PCBit) (c : List ℕ) → IsBytes c → length (canonical_element m t p c) < 2 ^ 64 →
    IsBytes (canonical_element m t p c)
unfolding canonical_element
canonical_element_bytes m t Primitive c bytes h = definite_bytes t Primitive c bytes (short_contents m t Primitive c h)
canonical_element_bytes Ber t Constructed c bytes h = definite_bytes t Constructed c bytes (short_contents Ber t Constructed c h)
canonical_element_bytes Der t Constructed c bytes h = definite_bytes t Constructed c bytes (short_contents Der t Constructed c h)
canonical_element_bytes Cer t Constructed c bytes h = indefinite_bytes t c bytes

-- a type of one primitive element, whose contents are one in each canonical mode, satisfies the laws
pub primitively_written : {A : Type 0} (W : BERMode → A → List ℕ → Type 0) (Can : A → Type 0) (contents : A → List ℕ) (t : Tag) → t.tag_number < 2 ^ 64 →
    ((v : A) → Can v → IsBytes (contents v)) → ((m : BERMode) (v : A) → Can v → W m v (contents v)) →
    ((m : BERMode) (v : A) (c : List ℕ) → IsCanonicalMode m → W m v c → c ≡ contents v) →
    ((m : BERMode) (v : A) (c : List ℕ) → W m v c → Can v) →
    IsWritten (λ v w. v ≡ w) (Primitively W t) (λ m v. canonical_element m t Primitive (contents v)) leaf_depth Can
primitively_written W Can contents t range bytes means one back = record {
  has = record {
    in_bytes = λ m v can short. canonical_element_bytes m t Primitive (contents v) (bytes v can) short;
    holds = λ m o n v h can level short. record {
      level = level;
      contents = contents v;
      element = canonical_element_is m o t Primitive (contents v) h range (bytes v can) short;
      meaning = means o v can;
    };
    only = λ m n v b h x.
        let encoding = ap (λ c. canonical_element m t Primitive c) (one m v x.contents h x.meaning) in
        (canonical_element_only m t Primitive x.contents b h x.element ∙ encoding, back m v x.contents x.meaning, x.level);
  };
  any = λ n v b x. (back Ber v x.contents x.meaning, x.level);
  same = λ m v w e. (ap (λ u. canonical_element m t Primitive (contents u)) e, λ can. subst Can e can, refl);
}

module _ {A : Type 0} {C : Grammar A} {encoding : Encoding A} {depth : Depth A}
    {Can : BERMode → A → Type 0} (x : HasEncoding C encoding depth Can) (t : Tag) (range : t.tag_number < 2 ^ 64) where
  enclosed_holds : (m o : BERMode) (n : ℕ) (v : A) → HoldsEncoding m o → Can m v → enclosed_depth depth m v ≤ n →
      length (enclosed_encoding encoding t m v) < 2 ^ 64 → Enclosed C t o n v (enclosed_encoding encoding t m v)
  enclosed_holds m o zero v h can level short = omega (arith, level)
  enclosed_holds m o (suc n) v h can level short = record {
    contents = encoding m v;
    element = canonical_element_is m o t Constructed (encoding m v) h range (x.in_bytes m v can (short_contents m t Constructed (encoding m v) short)) short;
    meaning = x.holds m o n v h can (omega (arith, level)) (short_contents m t Constructed (encoding m v) short);
  }

  enclosed_only : (m : BERMode) (n : ℕ) (v : A) (b : List ℕ) → IsCanonicalMode m → Enclosed C t m n v b →
      (b ≡ enclosed_encoding encoding t m v) × Can m v × (enclosed_depth depth m v ≤ n)
  enclosed_only m zero v b h p = absurd p
  enclosed_only m (suc n) v b h p =
      let inner = x.only m n v p.contents h p.meaning in
      (canonical_element_only m t Constructed p.contents b h p.element ∙ ap (λ c. canonical_element m t Constructed c) inner.0, inner.1, omega (arith, inner.2))

  -- an element around contents that have an encoding has one
  pub enclosed_has : HasEncoding (Enclosed C t) (enclosed_encoding encoding t) (enclosed_depth depth) Can
  enclosed_has = record {
    in_bytes = λ m v can short.
        let inner = short_contents m t Constructed (encoding m v) short in
        canonical_element_bytes m t Constructed (encoding m v) (x.in_bytes m v can inner) short;
    holds = enclosed_holds;
    only = enclosed_only;
  }

module _ {A : Type 0} {E : A → A → Type 0} {C : Grammar A}
    {encoding : Encoding A} {depth : Depth A} {Can : A → Type 0} (x : IsWritten E C encoding depth Can) (t : Tag) where
  enclosed_any : (n : ℕ) (v : A) (b : List ℕ) → Enclosed C t Ber n v b → Can v × (enclosed_depth depth Der v ≤ n)
  enclosed_any zero v b p = absurd p
  enclosed_any (suc n) v b p = let inner = x.any n v p.contents p.meaning in (inner.0, omega (arith, inner.1))

-- an element around contents satisfies the laws
pub enclosed_written : {A : Type 0} {E : A → A → Type 0} {C : Grammar A} {encoding : Encoding A} {depth : Depth A} {Can : A → Type 0}
    (t : Tag) → t.tag_number < 2 ^ 64 → IsWritten E C encoding depth Can → IsWritten E (Enclosed C t) (enclosed_encoding encoding t) (enclosed_depth depth) Can
enclosed_written t range x = record {
  has = enclosed_has x.has t range;
  any = enclosed_any x t;
  same = λ m v w e. let inner = x.same m v w e in (ap (λ c. canonical_element m t Constructed c) inner.0, inner.1, ap (λ k. 1 + k) inner.2);
}

-- a type whose values represent those of another satisfies its laws
pub written_along : {U A : Type 0} {E : A → A → Type 0} {B : Grammar A} {encoding : Encoding A} {depth : Depth A} {Can : A → Type 0} (f : U → A) →
    IsWritten E B encoding depth Can →
    IsWritten (λ v w. E (f v) (f w)) (λ m n v b. B m n (f v) b) (λ m v. encoding m (f v)) (λ m v. depth m (f v)) (λ v. Can (f v))
written_along f x = record {
  has = record { in_bytes = λ m v. x.has.in_bytes m (f v); holds = λ m o n v. x.has.holds m o n (f v); only = λ m n v. x.has.only m n (f v) };
  any = λ n v. x.any n (f v);
  same = λ m v w. x.same m (f v) (f w);
}

-- what satisfies the laws keeps them where other words say which values can be written
pub written_where : {A : Type 0} {E : A → A → Type 0} {B : Grammar A} {encoding : Encoding A} {depth : Depth A} {Can Can' : A → Type 0} →
    ((v : A) → Can v ↔ Can' v) → IsWritten E B encoding depth Can → IsWritten E B encoding depth Can'
written_where same x = record {
  has = record {
    in_bytes = λ m v can. x.has.in_bytes m v ((same v).1 can);
    holds = λ m o n v h can. x.has.holds m o n v h ((same v).1 can);
    only = λ m n v b h y. let z = x.has.only m n v b h y in (z.0, (same v).0 z.1, z.2);
  };
  any = λ n v b y. let z = x.any n v b y in ((same v).0 z.0, z.1);
  same = λ m v w e. let z = x.same m v w e in (z.0, λ can. (same w).0 (z.1 ((same v).1 can)), z.2);
}

-- where every value can be written nothing is asked of one
pub written_always : {A : Type 0} {E : A → A → Type 0} {B : Grammar A} {encoding : Encoding A}
    {depth : Depth A} {Can : A → Type 0} → ((v : A) → Can v) → IsWritten E B encoding depth Can → IsWritten E B encoding depth Always
written_always can x = written_where (λ v. (λ c. tt, λ always. can v)) x

-- whatever is read can be written
pub can_be_written : {A : Type 0} {E : A → A → Type 0} {B : Grammar A} {encoding : Encoding A}
    {depth : Depth A} {Can : A → Type 0} → IsWritten E B encoding depth Can → (m : BERMode) (n : ℕ) (v : A) (b : List ℕ) → B m n v b → Can v
can_be_written x Ber n v b h = (x.any n v b h).0
can_be_written x Der n v b h = (x.has.only Der n v b tt h).1
can_be_written x Cer n v b h = (x.has.only Cer n v b tt h).1

-- a canonical mode holds its own encodings
pub holds_own : (m : BERMode) → IsCanonicalMode m → HoldsEncoding m m
holds_own Ber h = absurd h
holds_own Der h = tt
holds_own Cer h = tt

module _ {A : Type 0} {E : A → A → Type 0} {B : Grammar A} {encoding : Encoding A} {depth : Depth A} {Can : A → Type 0} (x : IsWritten E B encoding depth Can) where
  -- a type that satisfies the laws is read in CER from its one encoding alone
  pub one_in_cer : (n : ℕ) (v : A) (s : List ℕ) → length s < 2 ^ 64 → B Cer n v s ↔ (Can v × (depth Cer v ≤ n) × (s ≡ encoding Cer v))
  one_in_cer n v s short = (
    λ y. let z = x.has.only Cer n v s tt y in (z.1, z.2, z.0),
    λ z. subst (B Cer n v) (sym z.2) (x.has.holds Cer Cer n v tt z.0 z.1 (subst (λ b. length b < 2 ^ 64) z.2 short)),
  )

  -- which BER reads too
  pub cer_in_ber : (n : ℕ) (v : A) → Can v → depth Cer v ≤ n → length (encoding Cer v) < 2 ^ 64 → B Ber n v (encoding Cer v)
  cer_in_ber n v can level short = x.has.holds Cer Ber n v tt can level short
