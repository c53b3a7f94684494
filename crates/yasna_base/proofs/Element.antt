-- Elements: neither of two begins the other, equal bytes have equal parts, and what a header that was read says of an
-- element that the same bytes begin with.
use Rattle.std.proofs.Common.{◌≡◌, ℕ, List, ◌∷◌, ◌++◌, length, ap, ◌∙◌, sym, append_assoc}
use Rattle.yasna_base.specs.declared.mode.BERMode.{BERMode}
use Rattle.yasna_base.specs.declared.mode.BERMode.TheVariants.{Ber, Der, Cer}
use Rattle.yasna_base.specs.declared.tag.PCBit.{PCBit}
use Rattle.yasna_base.specs.declared.tag.PCBit.TheVariants.{Primitive}
use Rattle.yasna_base.specs.declared.tag.Tag.{Tag}
use Rattle.yasna_base.specs.Element.{TakesIndefinite, Definite, Indefinite, Framed, definite, indefinite, Element}
use Rattle.yasna_base.specs.Identifier.{identifier, end_tag, BeginsWithTag, begins, StartsElement, AtEnd}
use Rattle.yasna_base.specs.Length.{SpellsLength}
use Rattle.yasna_base.proofs.Identifier.{identifier_exact, zeros_at_end}
use Rattle.yasna_base.proofs.Length.{length_exact, length_not_indefinite}
use Rattle.yasna_base.proofs.Lists.{prefixes_same}

-- two elements and what follows them are the same, part by part
pub record SameElement (t u : Tag) (p q : PCBit) (c d b e r s : List ℕ) : Type 0 where
  pub tag : t ≡ u
  pub bit : p ≡ q
  pub contents : c ≡ d
  pub bytes : b ≡ e
  pub rest : r ≡ s

-- an element of definite length and the bytes after it: identifier, length, contents, those bytes
pub definite_then : {m : BERMode} {t : Tag} {p : PCBit} {c b : List ℕ} → (x : Definite m t p c b) (r : List ℕ) → b ++ r ≡ identifier t p ++ (x.l ++ (c ++ r))
definite_then x r = ap (λ z. z ++ r) x.joined ∙ simp append_assoc

-- an element of indefinite length and the bytes after it
pub indefinite_then : {m : BERMode} {t : Tag} {p : PCBit} {c b : List ℕ} → (x : Indefinite m t p c b) (r : List ℕ) →
    b ++ r ≡ identifier t p ++ (128 ∷ (c ++ (0 ∷ 0 ∷ r)))
indefinite_then x r = ap (λ z. z ++ r) x.joined ∙ simp append_assoc

-- of two elements of definite length neither begins the other
pub definite_exact : (m o : BERMode) (t u : Tag) (p q : PCBit) (c d b e r s : List ℕ) → Definite m t p c b → Definite o u q d e → b ++ r ≡ e ++ s →
    SameElement t u p q c d b e r s
definite_exact m o t u p q c d b e r s x y f =
    let i = identifier_exact t u p q _ _ (sym (definite_then x r) ∙ f ∙ definite_then y s) in
    let j = length_exact m o (length c) (length d) x.l y.l (c ++ r) (d ++ s) x.spelled y.spelled i.2 in
    let k = prefixes_same c d r s j.0 j.2 in
    record { tag = i.0; bit = i.1; contents = k.0; bytes = cc; rest = k.1 }

-- an element of definite length and one of indefinite length never begin alike
pub definite_not_indefinite : (m o : BERMode) (t u : Tag) (p q : PCBit) (c d b e r s : List ℕ) → Definite m t p c b → Indefinite o u q d e → b ++ r ≡ e ++ s → ⊥
definite_not_indefinite m o t u p q c d b e r s x y f =
    let i = identifier_exact t u p q _ _ (sym (definite_then x r) ∙ f ∙ indefinite_then y s) in
    length_not_indefinite m (length c) x.l (c ++ r) _ x.spelled i.2

-- of two elements of indefinite length neither begins the other, where two zeros end their contents but once
pub indefinite_exact : (m o : BERMode) (t u : Tag) (p q : PCBit) (c d b e r s : List ℕ) → Indefinite m t p c b → Indefinite o u q d e →
    ((x y : List ℕ) → c ++ (0 ∷ 0 ∷ x) ≡ d ++ (0 ∷ 0 ∷ y) → c ≡ d) → b ++ r ≡ e ++ s → SameElement t u p q c d b e r s
indefinite_exact m o t u p q c d b e r s x y once f =
    let i = identifier_exact t u p q _ _ (sym (indefinite_then x r) ∙ f ∙ indefinite_then y s) in
    let j : c ++ (0 ∷ 0 ∷ r) ≡ d ++ (0 ∷ 0 ∷ s) = cc (i.2) in
    let g = once r s j in
    let k = prefixes_same c d (0 ∷ 0 ∷ r) (0 ∷ 0 ∷ s) (ap length g) j in
    record { tag = i.0; bit = i.1; contents = g; bytes = cc; rest = cc (k.1) }

framed_exact : (m o : BERMode) (t u : Tag) (p q : PCBit) (c d b e r s : List ℕ) → Framed m t p c b → Framed o u q d e →
    ((x y : List ℕ) → AtEnd x → AtEnd y → c ++ x ≡ d ++ y → c ≡ d) → b ++ r ≡ e ++ s → SameElement t u p q c d b e r s
framed_exact m o t u p q c d b e r s (definite x) (definite y) once f = definite_exact m o t u p q c d b e r s x y f
framed_exact m o t u p q c d b e r s (definite x) (indefinite y) once f = absurd (definite_not_indefinite m o t u p q c d b e r s x y f)
framed_exact m o t u p q c d b e r s (indefinite x) (definite y) once f = absurd (definite_not_indefinite o m u t q p d c e b s r y x (sym f))
framed_exact m o t u p q c d b e r s (indefinite x) (indefinite y) once f =
    indefinite_exact m o t u p q c d b e r s x y (λ v w. once (0 ∷ 0 ∷ v) (0 ∷ 0 ∷ w) (zeros_at_end (0 ∷ v)) (zeros_at_end (0 ∷ w))) f

-- of two elements neither begins the other, where their contents end but once
pub element_exact : (m o : BERMode) (t u : Tag) (p q : PCBit) (c d b e r s : List ℕ) → Element m t p c b → Element o u q d e →
    ((x y : List ℕ) → AtEnd x → AtEnd y → c ++ x ≡ d ++ y → c ≡ d) → b ++ r ≡ e ++ s → SameElement t u p q c d b e r s
element_exact m o t u p q c d b e r s x y once f = framed_exact m o t u p q c d b e r s x.framed y.framed once f

primitive_definite : (m : BERMode) → TakesIndefinite m Primitive → ⊥
primitive_definite Ber x = x
primitive_definite Der x = x
primitive_definite Cer x = x

primitive_framed : (m o : BERMode) (t u : Tag) (q : PCBit) (c d b e r s : List ℕ) → Framed m t Primitive c b → Framed o u q d e → b ++ r ≡ e ++ s →
    SameElement t u Primitive q c d b e r s
primitive_framed m o t u q c d b e r s (definite x) (definite y) f = definite_exact m o t u Primitive q c d b e r s x y f
primitive_framed m o t u q c d b e r s (definite x) (indefinite y) f = absurd (definite_not_indefinite m o t u Primitive q c d b e r s x y f)
primitive_framed m o t u q c d b e r s (indefinite x) y f = absurd (primitive_definite m x.taken)

-- a primitive element doesn't begin another element, nor another it
pub primitive_exact : (m o : BERMode) (t u : Tag) (q : PCBit) (c d b e r s : List ℕ) → Element m t Primitive c b → Element o u q d e →
    b ++ r ≡ e ++ s → SameElement t u Primitive q c d b e r s
primitive_exact m o t u q c d b e r s x y f = primitive_framed m o t u q c d b e r s x.framed y.framed f

-- an element begins with its tag
pub framed_begins : (m : BERMode) (t : Tag) (p : PCBit) (c b : List ℕ) → Framed m t p c b → BeginsWithTag t b
framed_begins m t p c b (definite x) = begins p _ x.joined
framed_begins m t p c b (indefinite x) = begins p _ x.joined

-- an element begins with its tag
pub element_begins : (m : BERMode) (t : Tag) (p : PCBit) (c b : List ℕ) → Element m t p c b → BeginsWithTag t b
element_begins m t p c b x = framed_begins m t p c b x.framed

-- an element begins with its identifier
pub element_starts : (m : BERMode) (t : Tag) (p : PCBit) (c b : List ℕ) → (t ≡ end_tag → ⊥) → Element m t p c b → StartsElement b
element_starts m t p c b n x = record { tag = t; in_range = x.in_range; not_end = n; begins = framed_begins m t p c b x.framed }

-- the element has the tag, the bit and the length l of k that were read, and y begins with its contents
pub record Counted (m : BERMode) (t u : Tag) (p q : PCBit) (k : ℕ) (l c b y r : List ℕ) : Type 0 where
  pub tag : t ≡ u
  pub bit : p ≡ q
  pub element : Definite m u q c b
  pub spelling : l ≡ element.l
  pub count : k ≡ length c
  pub after : y ≡ c ++ r

-- where a length was read, the element has that length
pub counted_header : (m o : BERMode) (t u : Tag) (p q : PCBit) (k : ℕ) (l c b y r : List ℕ) → SpellsLength o k l → Framed m u q c b →
    identifier t p ++ (l ++ y) ≡ b ++ r → Counted m t u p q k l c b y r
counted_header m o t u p q k l c b y r w (definite x) e =
    let i = identifier_exact t u p q _ _ (e ∙ definite_then x r) in
    let j = length_exact o m k (length c) l x.l y (c ++ r) w x.spelled i.2 in
    record { tag = i.0; bit = i.1; element = x; spelling = j.1; count = j.0; after = j.2 }
counted_header m o t u p q k l c b y r w (indefinite x) e =
    let i = identifier_exact t u p q _ _ (e ∙ indefinite_then x r) in
    absurd (length_not_indefinite o k l y _ w i.2)

-- the element has the tag and the bit that were read and no length, and y begins with its contents and two zeros
pub record Uncounted (m : BERMode) (t u : Tag) (p q : PCBit) (c b y r : List ℕ) : Type 0 where
  pub tag : t ≡ u
  pub bit : p ≡ q
  pub element : Indefinite m u q c b
  pub after : y ≡ c ++ (0 ∷ 0 ∷ r)

-- where 128 was read, the element is of indefinite length
pub uncounted_header : (m : BERMode) (t u : Tag) (p q : PCBit) (c b y r : List ℕ) → Framed m u q c b → identifier t p ++ (128 ∷ y) ≡ b ++ r →
    Uncounted m t u p q c b y r
uncounted_header m t u p q c b y r (definite x) e =
    let i = identifier_exact t u p q _ _ (e ∙ definite_then x r) in
    absurd (length_not_indefinite m (length c) x.l (c ++ r) y x.spelled (sym (i.2)))
uncounted_header m t u p q c b y r (indefinite x) e =
    let i = identifier_exact t u p q _ _ (e ∙ indefinite_then x r) in
    record { tag = i.0; bit = i.1; element = x; after = cc (i.2) }
