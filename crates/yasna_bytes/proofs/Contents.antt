-- Contents of one primitive element, as they were made a value or not, and where reading them may allocate.
use Rattle.std.proofs.Common.{◌≡◌, ℕ, ◌+◌, ◌<◌, ◌≤◌, List, [], ◌∷◌, ◌++◌, length, sym, ap, ◌∙◌, subst, true, inl, inr, ◌⊎◌, refl, arith}
use Rattle.yasna_base.specs.declared.error.ASN1ErrorKind.TheVariants.{OutOfMemory}
use Rattle.yasna_base.specs.declared.mode.BERMode.{BERMode}
use Rattle.yasna_base.specs.declared.tag.Tag.{Tag}
use Rattle.yasna_base.specs.declared.tag.PCBit.{PCBit}
use Rattle.yasna_base.specs.declared.tag.PCBit.TheVariants.{Primitive}
use Rattle.yasna_base.specs.Identifier.{identifier, BeginsWithTag}
use Rattle.yasna_base.specs.Length.{IsLongLength, one_byte, counted}
use Rattle.yasna_base.specs.Element.{Element, definite, indefinite, IsPrimitive}
use Rattle.yasna_base.specs.Header.{ContentsEnd, definite_end, indefinite_end, OpensAt}
use Rattle.yasna_base.proofs.Length.{spells_long}
use Rattle.yasna_base.proofs.Element.{primitive_exact, definite_then, indefinite_then}
use Rattle.yasna_base.proofs.Lists.{empty_is}
use Rattle.yasna_bytes.specs.declared.bytes.header.Rejection.{Rejection}
use Rattle.yasna_bytes.specs.Rejection.{BlamesBytes, IsTooDeep, Rejects, IsElsewhere}
use Rattle.yasna_bytes.specs.Prefix.{Takes, HasPrefix}
use Rattle.yasna_bytes.specs.Header.{AreContents}
use Rattle.yasna_bytes.specs.Contents.{MayAllocateFor, MayAllocate}
use Rattle.yasna_bytes.proofs.Rejection.{begins_not_elsewhere, there_rejects_all, rejects_less, may_allocate_too}
use Rattle.yasna_bytes.proofs.Header.{begins_before}

-- a front that is a primitive element begins with the tag
pub takes_begins : (m : BERMode) (n : ℕ) (t : Tag) (s c r : List ℕ) → Takes (IsPrimitive AreContents t m n) s c r → BeginsWithTag t s
takes_begins m n t s c r x = begins_before m t Primitive x.member.contents x.prefix s r x.member.element x.joined

-- contents that represent no value, in a primitive element
no_value : {A : Type 0} (W : A → List ℕ → Type 0) (m : BERMode) (n : ℕ) (t : Tag) (s c r : List ℕ) (e : Rejection) →
    Takes (IsPrimitive AreContents t m n) s c r → ((v : A) → W v c → ⊥) → BlamesBytes e.kind → e.consumed ≡ true →
    Rejects (HasPrefix (IsPrimitive W t m n) s) (IsTooDeep n t s) ⊥ (IsElsewhere t s) e
no_value W m n t s c r e x h k o =
    let y = x.member in
    there_rejects_all (HasPrefix (IsPrimitive W t m n) s) n t s e (takes_begins m n t s c r x) y.level k o (λ w.
    let z = w.2 in
    let i = primitive_exact m m t t Primitive y.contents z.member.contents x.prefix z.prefix r w.1 y.element z.member.element (sym x.joined ∙ z.joined) in
    h w.0 (subst (W w.0) (sym (y.meaning ∙ i.contents)) z.member.meaning))

-- contents were read that couldn't be copied
out_of_memory_for_contents : {A : Type 0} (W : A → List ℕ → Type 0) (M : ℕ → Tag → List ℕ → Type 0) (m : BERMode) (n : ℕ) (t : Tag) (s c r : List ℕ) (e : Rejection) →
    Takes (IsPrimitive AreContents t m n) s c r → MayAllocateFor M c → e.kind ≡ OutOfMemory → e.consumed ≡ true →
    Rejects (HasPrefix (IsPrimitive W t m n) s) (IsTooDeep n t s) (M n t s) (IsElsewhere t s) e
out_of_memory_for_contents W M m n t s c r e x h k o = record {
  none = λ f. absurd (f k);
  consumed = (λ f. absurd (let g = sym o ∙ f in cc), λ f. absurd (begins_not_elsewhere (takes_begins m n t s c r x) f));
  too_deep = λ f. absurd (let g = sym k ∙ f in cc);
  deep = λ f. absurd (f k);
  memory = λ f. h n m t s r x;
}

-- contents were read that weren't made a value
pub not_taken : {A : Type 0} (W : A → List ℕ → Type 0) (M : ℕ → Tag → List ℕ → Type 0) (m : BERMode) (n : ℕ) (t : Tag) (s c r : List ℕ) (e : Rejection) →
    Takes (IsPrimitive AreContents t m n) s c r → ((e.kind ≡ OutOfMemory) × MayAllocateFor M c) ⊎ (BlamesBytes e.kind × ((v : A) → W v c → ⊥)) → e.consumed ≡ true →
    Rejects (HasPrefix (IsPrimitive W t m n) s) (IsTooDeep n t s) (M n t s) (IsElsewhere t s) e
not_taken W M m n t s c r e x (inl h) o = out_of_memory_for_contents W M m n t s c r e x h.1 h.0 o
not_taken W M m n t s c r e x (inr h) o = may_allocate_too (HasPrefix (IsPrimitive W t m n) s) (IsTooDeep n t s) (M n t s) t s e (no_value W m n t s c r e x h.1 h.0 o)

-- where no primitive element is there, no value is that is one
pub rejects_value : {A : Type 0} (W : A → List ℕ → Type 0) (M : Type 0) (m : BERMode) (n : ℕ) (t : Tag) (s : List ℕ) (e : Rejection) →
    Rejects (HasPrefix (IsPrimitive AreContents t m n) s) (IsTooDeep n t s) ⊥ (IsElsewhere t s) e → Rejects (HasPrefix (IsPrimitive W t m n) s) (IsTooDeep n t s) M (IsElsewhere t s) e
rejects_value W M m n t s e x = may_allocate_too (HasPrefix (IsPrimitive W t m n) s) (IsTooDeep n t s) M t s e
    (rejects_less (HasPrefix (IsPrimitive AreContents t m n) s) (HasPrefix (IsPrimitive W t m n) s) (IsTooDeep n t s) ⊥ t s e (λ h.
    let y = h.2 in (
      y.member.contents,
      h.1,
      record {
        prefix = y.prefix;
        joined = y.joined;
        member =
            record { level = y.member.level; contents = y.member.contents; element = y.member.element; meaning = refl };
      },
    )) x)

-- a length other than 0 doesn't begin with the byte 0
long_first : (k : ℕ) (l : List ℕ) → 0 < k → IsLongLength k l → (x : ℕ) × (y : List ℕ) × (l ≡ x ∷ y) × (x ≡ 0 → ⊥)
long_first k l h (one_byte i e) = (k, [], e, λ z. omega arith)
long_first k l h (counted ds i j b n e) = (128 + length ds, ds, e, λ z. omega arith)

-- after the identifier of an element with contents a byte other than 0 is there
pub opens_may_allocate : (n : ℕ) (m : BERMode) (t : Tag) (p : PCBit) (s c : List ℕ) (e : ContentsEnd) → 1 ≤ n → (c ≡ [] → ⊥) → OpensAt m t p s c e → MayAllocate n t s
opens_may_allocate n m t p s c (definite_end r) l h x =
    let f = long_first (length c) x.l (let i : length c ≡ 0 → ⊥ = λ i. h (empty_is c i) in omega (arith, i)) (spells_long m (length c) x.l x.spelled) in
    record {
      level = l;
      bit = p;
      size = f.0;
      after = f.1 ++ (c ++ r);
      not_empty = f.3;
      joined = x.joined ∙ ap (λ z. identifier t p ++ (z ++ (c ++ r))) f.2;
    }
opens_may_allocate n m t p s c indefinite_end l h x = record { level = l; bit = p; size = 128; after = c; not_empty = λ z. omega arith; joined = x.joined }

-- a read may allocate where an element has contents
pub element_may_allocate : (n : ℕ) (m : BERMode) (t : Tag) (p : PCBit) (s c b r : List ℕ) → 1 ≤ n → (c ≡ [] → ⊥) → Element m t p c b → s ≡ b ++ r → MayAllocate n t s
element_may_allocate n m t p s c b r l h x e = elim x.framed [
  | definite y ↦ opens_may_allocate n m t p s c (definite_end r) l h (record {
    in_range = x.in_range;
    in_bytes = x.in_bytes;
    taken = y.taken;
    l = y.l;
    spelled = y.spelled;
    joined = e ∙ definite_then y r;
  })
  | indefinite y ↦
      record { level = l; bit = p; size = 128; after = c ++ (0 ∷ 0 ∷ r); not_empty = λ z. omega arith; joined = e ∙ indefinite_then y r }
]

-- a copy of contents may allocate where there are any
pub copy_may_allocate : (c : List ℕ) → 0 < length c → MayAllocateFor MayAllocate c
copy_may_allocate c h n m t s r x =
    let y = x.member in
    element_may_allocate n m t Primitive s y.contents x.prefix r y.level (λ e. omega (arith, h, ap length (y.meaning ∙ e))) y.element x.joined
