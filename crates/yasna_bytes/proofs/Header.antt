-- Headers at the start of bytes: what is there as an identifier and a length were read or not.
use Rattle.std.proofs.Common.{◌≡◌, ℕ, ◌^◌, ◌<◌, ◌≤◌, List, ◌∷◌, ◌++◌, length, length-append, append_assoc, Option, Some, None, Result, Ok, Err, true, refl, sym, ap, subst, ◌∙◌, arith}
use Rattle.yasna_base.specs.declared.mode.BERMode.{BERMode}
use Rattle.yasna_base.specs.declared.tag.Tag.{Tag}
use Rattle.yasna_base.specs.declared.tag.PCBit.{PCBit}
use Rattle.yasna_base.specs.declared.tag.PCBit.TheVariants.{Primitive, Constructed}
use Rattle.yasna_base.specs.Digits.{IsBytes}
use Rattle.yasna_base.specs.Identifier.{identifier, BeginsWithTag, begins}
use Rattle.yasna_base.specs.Length.{SpellsLength}
use Rattle.yasna_base.specs.Element.{Element, definite, indefinite, TakesDefinite, TakesIndefinite, IsPrimitive, Framed}
use Rattle.yasna_base.proofs.Identifier.{identifier_exact}
use Rattle.yasna_base.proofs.Length.{length_exact, length_not_indefinite}
use Rattle.yasna_base.proofs.Element.{definite_then, indefinite_then}
use Rattle.yasna_base.proofs.Header.{opens_begins}
use Rattle.yasna_bytes.specs.declared.bytes.header.Opened.{Opened}
use Rattle.yasna_bytes.specs.declared.bytes.header.Rejection.{Rejection}
use Rattle.yasna_bytes.specs.Rejection.{BlamesBytes, IsTooDeep, Rejects, IsElsewhere}
use Rattle.yasna_bytes.specs.Length.{Measures}
use Rattle.yasna_bytes.specs.Opening.{Opening}
use Rattle.yasna_bytes.specs.Prefix.{Takes, HasPrefix}
use Rattle.yasna_base.specs.Header.{ContentsEnd, definite_end, indefinite_end, Counts, OpensAt}
use Rattle.yasna_bytes.specs.Header.{Holds, HoldsContents, NotHeld, no_level, no_contents, AfterIdentifierAt, OpenedAt, HasHeader, AnyBit, OnlyConstructed, RejectsHeader, AreContents}
use Rattle.yasna_base.proofs.Digits.{bytes_after, bytes_prefix}
use Rattle.yasna_bytes.proofs.Rejection.{deep_rejects, there_rejects_all, rejects_less}

-- a header that an error speaks of begins with its identifier
pub header_begins : {P : PCBit → Type 0} {m : BERMode} {n : ℕ} {t : Tag} {s : List ℕ} → HasHeader P m n t s → BeginsWithTag t s
header_begins x = begins x.bit x.after x.joined

-- the identifier is there within the levels, and no contents after it
expected_rejects : (P : PCBit → Type 0) (m : BERMode) (n : ℕ) (t : Tag) (s : List ℕ) (e : Rejection) (p : PCBit) (y : List ℕ) → s ≡ identifier t p ++ y →
    1 ≤ n → BlamesBytes e.kind → e.consumed ≡ true → ((c : List ℕ) (f : ContentsEnd) → P p → Holds m p y c f → ⊥) → RejectsHeader P m n t s e
expected_rejects P m n t s e p y f l k o w = there_rejects_all (HasHeader P m n t s) n t s e (begins p y f) l k o (λ x.
    let i = identifier_exact t t x.bit p x.after y (sym x.joined ∙ f) in
    w x.contents x.end (subst P i.1 x.allowed) (subst (λ z. Holds m p z x.contents x.end) i.2 (subst (λ q. Holds m q x.after x.contents x.end) i.1 x.holds)))

-- the identifier is there, and nothing after it that is taken
not_held_rejects : (m : BERMode) (n : ℕ) (t : Tag) (s : List ℕ) (e : Rejection) (p : PCBit) (y : List ℕ) → s ≡ identifier t p ++ y → e.consumed ≡ true →
    NotHeld m n p y e.kind → RejectsHeader AnyBit m n t s e
not_held_rejects m n t s e p y f o (no_level z k) = deep_rejects (HasHeader AnyBit m n t s) n t s e (λ x. x.level) (begins p y f) z k o
not_held_rejects m n t s e p y f o (no_contents l k w) = expected_rejects AnyBit m n t s e p y f l k o (λ c g _. w c g)

-- an element with the tag is there, and isn't constructed
pub other_bit : (m : BERMode) (n : ℕ) (t : Tag) (q : PCBit) (s d : List ℕ) (o : ContentsEnd) (e : Rejection) → OpensAt m t q s d o → q ≡ Primitive → 1 ≤ n →
    BlamesBytes e.kind → e.consumed ≡ true → RejectsHeader OnlyConstructed m n t s e
other_bit m n t q s d (definite_end r) e x f l k v =
    expected_rejects OnlyConstructed m n t s e q _ x.joined l k v (λ _ _ h _. let i : Constructed ≡ Primitive = sym h ∙ f in absurd (cc))
other_bit m n t q s d indefinite_end e x f l k v =
    expected_rejects OnlyConstructed m n t s e q _ x.joined l k v (λ _ _ h _. let i : Constructed ≡ Primitive = sym h ∙ f in absurd (cc))

-- where no header is there, none with a certain bit is
pub any_rejects : (P : PCBit → Type 0) (m : BERMode) (n : ℕ) (t : Tag) (s : List ℕ) (e : Rejection) → RejectsHeader AnyBit m n t s e → RejectsHeader P m n t s e
any_rejects P m n t s e x = rejects_less (HasHeader AnyBit m n t s) (HasHeader P m n t s) (IsTooDeep n t s) ⊥ t s e
    (λ h. record { level = h.level; bit = h.bit; allowed = tt; after = h.after; joined = h.joined; contents = h.contents; end = h.end; holds = h.holds }) x

-- no contents are where no length is
pub holds_none : (m : BERMode) (p : PCBit) (y : List ℕ) → ((k : Option ℕ) (r : List ℕ) → Measures m y k r → ⊥) → (c : List ℕ) (f : ContentsEnd) →
    Holds m p y c f → ⊥
holds_none m p y f c (definite_end r) h = f (Some (length c)) (c ++ r) (h.0, h.2, h.3)
holds_none m p y f c indefinite_end h = f None c h.1

-- nor where fewer bytes are left than the length says
pub holds_short : (m : BERMode) (p : PCBit) (y z : List ℕ) (k : ℕ) → Measures m y (Some k) z → length z < k → (c : List ℕ) (f : ContentsEnd) →
    Holds m p y c f → ⊥
holds_short m p y z k w l c (definite_end r) h =
    let e = length_exact m m k (length c) w.0 h.0 z (c ++ r) w.1 h.2 (sym w.2 ∙ h.3) in
    let n = ap length e.2 ∙ length-append c r in
    omega (arith, e.0, n)
holds_short m p y z k w l c indefinite_end h = length_not_indefinite m k w.0 z c w.1 (sym w.2 ∙ h.1)

-- nor where the length is indefinite and may not be
pub holds_closed : (m : BERMode) (p : PCBit) (y z : List ℕ) → y ≡ 128 ∷ z → (TakesIndefinite m p → ⊥) → (c : List ℕ) (f : ContentsEnd) → Holds m p y c f → ⊥
holds_closed m p y z e f c (definite_end r) h = length_not_indefinite m (length c) h.0 (c ++ r) z h.2 (sym h.3 ∙ e)
holds_closed m p y z e f c indefinite_end h = f h.0

-- nor where the contents are counted and may not be
pub holds_uncounted : (m : BERMode) (p : PCBit) (y z : List ℕ) (k : ℕ) → Measures m y (Some k) z → (TakesDefinite m p → ⊥) → (c : List ℕ) (f : ContentsEnd) →
    Holds m p y c f → ⊥
holds_uncounted m p y z k w t c (definite_end r) h = t h.1
holds_uncounted m p y z k w t c indefinite_end h = length_not_indefinite m k w.0 z c w.1 (sym w.2 ∙ h.1)

-- contents are where as many bytes follow a length
pub holds_counted : (m : BERMode) (p : PCBit) (y z c r : List ℕ) (k : ℕ) → Measures m y (Some k) z → z ≡ c ++ r → length c ≡ k → TakesDefinite m p →
    Holds m p y c (definite_end r)
holds_counted m p y z c r k w f h i = (w.0, i, subst (λ j. SpellsLength m j w.0) (sym h) w.1, w.2 ∙ ap (λ b. w.0 ++ b) f)

-- contents of bytes are bytes
pub holds_bytes : (m : BERMode) (p : PCBit) (y c : List ℕ) (f : ContentsEnd) → IsBytes y → Holds m p y c f → IsBytes c
holds_bytes m p y c (definite_end r) b h = bytes_prefix c r (bytes_after h.0 (c ++ r) (subst IsBytes h.3 b))
holds_bytes m p y c indefinite_end b h = (subst IsBytes h.1 b).1

-- an element's bit and contents are seen as they are
pub seen_bit : {i o : Opening} {p : PCBit} → i ≡ o → i.bit ≡ p → o.bit ≡ p
seen_bit f g = sym (ap (λ (z : Opening). z.bit) f) ∙ g

pub seen_within : {i o : Opening} → i ≡ o → i.contents ≡ o.contents
seen_within f = ap (λ (z : Opening). z.contents) f

-- an identifier, and contents after it, are a header
opened : (m : BERMode) (t : Tag) (p : PCBit) (s y c : List ℕ) (f : ContentsEnd) → t.tag_number < 2 ^ 64 → s ≡ identifier t p ++ y → IsBytes c →
    Holds m p y c f → OpensAt m t p s c f
opened m t p s y c (definite_end r) i e b h = record {
  in_range = i;
  in_bytes = b;
  taken = h.1;
  l = h.0;
  spelled = h.2;
  joined = e ∙ ap (λ z. identifier t p ++ z) h.3;
}
opened m t p s y c indefinite_end i e b h = record { in_range = i; in_bytes = b; taken = h.0; joined = e ∙ ap (λ z. identifier t p ++ z) h.1 }

pub held_opens : (m : BERMode) (t : Tag) (p : PCBit) (s y : List ℕ) (o : Opened) → t.tag_number < 2 ^ 64 → s ≡ identifier t p ++ y →
    HoldsContents m p y o → OpensAt m t o.bit s o.contents o.end
held_opens m t p s y o i e h =
    subst (λ q. OpensAt m t q s o.contents o.end) (sym h.bit) (opened m t p s y o.contents o.end i e h.in_bytes h.holds)

-- where an identifier is there, its header does as what is after it is taken
pub after_opens : (m : BERMode) (n : ℕ) (t : Tag) (s : List ℕ) (p : PCBit) (y : List ℕ) → t.tag_number < 2 ^ 64 → s ≡ identifier t p ++ y →
    (r : Result Opened Rejection) → AfterIdentifierAt m n p y r → OpenedAt m n t s r
after_opens m n t s p y i e (Ok o) h = (h.0, held_opens m t p s y o i e h.1)
after_opens m n t s p y i e (Err r) h = not_held_rejects m n t s r p y e h.0 h.1

-- the bytes after an identifier, and the contents that they hold
pub record HeaderThere (m : BERMode) (t : Tag) (p : PCBit) (s : List ℕ) : Type 0 where
  pub after : List ℕ
  pub joined : s ≡ identifier t p ++ after
  pub contents : List ℕ
  pub end : ContentsEnd
  pub holds : Holds m p after contents end

framed_there : (m : BERMode) (t : Tag) (p : PCBit) (c b s r : List ℕ) → Framed m t p c b → s ≡ b ++ r → HeaderThere m t p s
framed_there m t p c b s r (definite x) e =
    record { after = x.l ++ (c ++ r); joined = e ∙ definite_then x r; contents = c; end = definite_end r; holds = (x.l, x.taken, x.spelled, refl) }
framed_there m t p c b s r (indefinite x) e =
    record { after = 128 ∷ (c ++ (0 ∷ 0 ∷ r)); joined = e ∙ indefinite_then x r; contents = c ++ (0 ∷ 0 ∷ r); end = indefinite_end; holds = (x.taken, refl) }

-- an element begins with its header
pub element_there : (m : BERMode) (t : Tag) (p : PCBit) (c b s r : List ℕ) → Element m t p c b → s ≡ b ++ r → HeaderThere m t p s
element_there m t p c b s r x e = framed_there m t p c b s r x.framed e

-- within n levels, it has one
pub element_header : (P : PCBit → Type 0) (m : BERMode) (n : ℕ) (t : Tag) (p : PCBit) (c b s r : List ℕ) → 1 ≤ n → P p → Element m t p c b → s ≡ b ++ r →
    HasHeader P m n t s
element_header P m n t p c b s r l a x e =
    let h = element_there m t p c b s r x e in
    record { level = l; bit = p; allowed = a; after = h.after; joined = h.joined; contents = h.contents; end = h.end; holds = h.holds }

-- bytes that begin with an element begin with its tag
pub begins_before : (m : BERMode) (t : Tag) (p : PCBit) (c b s r : List ℕ) → Element m t p c b → s ≡ b ++ r → BeginsWithTag t s
begins_before m t p c b s r x e = let h = element_there m t p c b s r x e in begins p h.after h.joined

-- where no header is there, no primitive element is
pub header_rejects : {A : Type 0} (W : A → List ℕ → Type 0) (m : BERMode) (n : ℕ) (t : Tag) (s : List ℕ) (e : Rejection) → RejectsHeader AnyBit m n t s e →
    Rejects (HasPrefix (IsPrimitive W t m n) s) (IsTooDeep n t s) ⊥ (IsElsewhere t s) e
header_rejects {A} W m n t s e x = rejects_less (HasHeader AnyBit m n t s) (HasPrefix (IsPrimitive W t m n) s) (IsTooDeep n t s) ⊥ t s e (λ h.
    let y = h.2 in
    element_header AnyBit m n t Primitive y.member.contents y.prefix s h.1 y.member.level tt y.member.element y.joined) x

-- a header that counts its contents is an element up to their end
counts_element : (m : BERMode) (t : Tag) (p : PCBit) (s c r : List ℕ) → (x : Counts m t p s c r) → Element m t p c (identifier t p ++ (x.l ++ c))
counts_element m t p s c r x = record {
  in_range = x.in_range;
  in_bytes = x.in_bytes;
  framed = definite (record { taken = x.taken; l = x.l; spelled = x.spelled; joined = refl });
}

-- the contents of a primitive element were read
pub takes_primitive : (m : BERMode) (n : ℕ) (t : Tag) (q : PCBit) (s c r : List ℕ) → 1 ≤ n → q ≡ Primitive → OpensAt m t q s c (definite_end r) →
    Takes (IsPrimitive AreContents t m n) s c r
takes_primitive m n t Primitive s c r l e x =
    record {
      prefix = _;
      joined = x.joined ∙ simp append_assoc;
      member = record { level = l; contents = c; element = counts_element m t Primitive s c r x; meaning = refl };
    }
takes_primitive m n t Constructed s c r l e x = absurd (cc)

-- a constructed element is where a primitive one is wanted
pub other_primitive : {A : Type 0} (W : A → List ℕ → Type 0) (m : BERMode) (n : ℕ) (t : Tag) (q : PCBit) (s c : List ℕ) (f : ContentsEnd) (e : Rejection) →
    1 ≤ n → q ≡ Constructed → OpensAt m t q s c f → BlamesBytes e.kind → e.consumed ≡ true → Rejects (HasPrefix (IsPrimitive W t m n) s) (IsTooDeep n t s) ⊥ (IsElsewhere t s) e
other_primitive W m n t q s c f e l i x k h = there_rejects_all (HasPrefix (IsPrimitive W t m n) s) n t s e (opens_begins m t q s c f x) l k h (λ w.
    let y = w.2 in
    let z = element_there m t Primitive y.member.contents y.prefix s w.1 y.member.element y.joined in
    differ m t q s c f x z.after z.joined i)
  where
    differ : (m : BERMode) (t : Tag) (q : PCBit) (s c : List ℕ) (f : ContentsEnd) → OpensAt m t q s c f → (y : List ℕ) → s ≡ identifier t Primitive ++ y →
        q ≡ Constructed → ⊥
    differ m t q s c (definite_end r) x y e i = let j = (identifier_exact t t q Primitive _ y (sym x.joined ∙ e)).1 in cc
    differ m t q s c indefinite_end x y e i = let j = (identifier_exact t t q Primitive _ y (sym x.joined ∙ e)).1 in cc
