-- Headers of raw elements: why none was read.
use Rattle.std.proofs.Common.{◌≡◌, inl, inr, ℕ, ◌^◌, ◌<◌, ◌≤◌, List, [], ◌∷◌, ◌++◌, length, get_or, true, false, Ok, refl, sym, ap, ◌∙◌, arith, subst}
use Rattle.yasna_base.specs.declared.mode.BERMode.{BERMode}
use Rattle.yasna_base.specs.declared.tag.PCBit.{PCBit}
use Rattle.yasna_base.specs.declared.tag.PCBit.TheVariants.{Primitive, Constructed}
use Rattle.yasna_base.specs.declared.tag.Tag.{Tag}
use Rattle.yasna_base.specs.declared.error.ASN1ErrorKind.{ASN1ErrorKind}
use Rattle.yasna_base.specs.declared.error.ASN1ErrorKind.TheVariants.{StackOverflow}
use Rattle.yasna_base.specs.Header.{ContentsEnd, definite_end, indefinite_end, OpensAt}
use Rattle.yasna_base.specs.Identifier.{identifier, end_tag, begins, StartsElement, AtEnd, nothing, end}
use Rattle.yasna_base.proofs.Identifier.{identifier_exact, end_identifier, identifier_short, zeros_at_end}
use Rattle.yasna_base.proofs.Pieces.{tag_not_end}
use Rattle.yasna_bytes.specs.declared.bytes.header.Rejection.{Rejection}
use Rattle.yasna_bytes.specs.Header.{Holds, NotHeld, no_level, no_contents, HasHeader, AnyBit, EndsBefore, NoEnd}
use Rattle.yasna_bytes.specs.Rejection.{BlamesBytes}
use Rattle.yasna_bytes.specs.Walk.{IsEndByte, NoHeader, NotOpened, IsOpened, TurnsTo, TurnOf, Stops}
use Rattle.yasna_bytes.specs.declared.bytes.header.Opened.{Opened}
use Rattle.yasna_bytes.specs.declared.bytes.walk.Turn.{Turn}
use Rattle.yasna_bytes.specs.declared.bytes.walk.Turn.TheVariants.{Left, Passed, Entered}
use Rattle.yasna_bytes.proofs.Header.{header_begins}
use Rattle.yasna_bytes.proofs.Rejection.{blames_not_depth, blames_not_memory}

-- no element is at an end
pub starts_not_at_end : (s : List ℕ) → StartsElement s → AtEnd s → ⊥
starts_not_at_end s x a = tag_not_end x.tag s x.not_end x.begins a

-- at an end there is no header
pub none_at_end : (m : BERMode) (n : ℕ) (s : List ℕ) → AtEnd s → NoHeader m n s
none_at_end m n s a t b ne h = tag_not_end t s ne (header_begins h) a

-- at an end the error consumed nothing
pub end_rejects : (m : BERMode) (n : ℕ) (s : List ℕ) (e : Rejection) → AtEnd s → BlamesBytes e.kind → e.consumed ≡ false → NotOpened m n s e
end_rejects m n s e a k o = record {
  none = none_at_end m n s a;
  consumed = (λ _. a, λ _. o);
  deep = (λ d. absurd (blames_not_depth k d), λ d. absurd (starts_not_at_end s d.1 a));
  no_memory = blames_not_memory k;
}

-- an element is there and no level is left
level_rejects : (m : BERMode) (n : ℕ) (s : List ℕ) (e : Rejection) → StartsElement s → n ≡ 0 → e.kind ≡ StackOverflow → e.consumed ≡ true →
    NotOpened m n s e
level_rejects m n s e x z k o = record {
  none = λ t b ne h. let l = h.level in absurd (omega arith);
  consumed = (λ f. absurd (cc), λ a. absurd (starts_not_at_end s x a));
  deep = (λ _. (z, x), λ _. k);
  no_memory = λ f. absurd (cc);
}

-- an identifier is there and no contents after it
contents_reject : (m : BERMode) (n : ℕ) (s : List ℕ) (e : Rejection) (t : Tag) (p : PCBit) (y : List ℕ) → t.tag_number < 2 ^ 64 → (t ≡ end_tag → ⊥) →
    s ≡ identifier t p ++ y → 1 ≤ n → BlamesBytes e.kind → e.consumed ≡ true → ((c : List ℕ) (f : ContentsEnd) → Holds m p y c f → ⊥) → NotOpened m n s e
contents_reject m n s e t p y b ne f l k o w = record {
  none = λ u _ _ h.
      let i = identifier_exact u t h.bit p h.after y (sym h.joined ∙ f) in
      w h.contents h.end (subst (λ z. Holds m p z h.contents h.end) i.2 (subst (λ q. Holds m q h.after h.contents h.end) i.1 h.holds));
  consumed = (λ g. absurd (cc), λ a. absurd (tag_not_end t s ne (begins p y f) a));
  deep = (λ d. absurd (blames_not_depth k d), λ d. let z = d.0 in absurd (omega arith));
  no_memory = blames_not_memory k;
}

-- an identifier is there, and nothing after it that is taken
pub not_held_opens : (m : BERMode) (n : ℕ) (s : List ℕ) (e : Rejection) (t : Tag) (p : PCBit) (y : List ℕ) → t.tag_number < 2 ^ 64 → (t ≡ end_tag → ⊥) →
    s ≡ identifier t p ++ y → e.consumed ≡ true → NotHeld m n p y e.kind → NotOpened m n s e
not_held_opens m n s e t p y b ne f o (no_level z k) =
    level_rejects m n s e (record { tag = t; in_range = b; not_end = ne; begins = begins p y f }) z k o
not_held_opens m n s e t p y b ne f o (no_contents l k w) = contents_reject m n s e t p y b ne f l k o w

-- a walk stops where contents don't end and no header is there
stops_by : (m : BERMode) (n : ℕ) (e : ContentsEnd) (s : List ℕ) (r : Rejection) → NoEnd e s → NotOpened m n s r → Stops m n e s r.kind
stops_by m n e s r o x = record { no_end = o; none = x.none; deep = x.deep; no_memory = x.no_memory }

-- where contents end, nothing is left or an end is there
pub ends_at_end : (e : ContentsEnd) (s r : List ℕ) → EndsBefore e s r → AtEnd s
ends_at_end (definite_end z) s r x = nothing x.0
ends_at_end indefinite_end s r x = subst AtEnd (sym x) (zeros_at_end (0 ∷ r))

-- a walk stops where an element begins whose header isn't there
pub stops_after : (m : BERMode) (n : ℕ) (e : ContentsEnd) (s : List ℕ) (r : Rejection) → NotOpened m n s r → r.consumed ≡ true → Stops m n e s r.kind
stops_after m n e s r x f = stops_by m n e s r (λ a y. let z = x.consumed.1 (ends_at_end e s a y) in absurd (cc)) x

-- with a kind of its own where nothing is left or what looks like an end is there
pub stops_at_end : (m : BERMode) (n : ℕ) (e : ContentsEnd) (s : List ℕ) (k : ASN1ErrorKind) → NoEnd e s → AtEnd s → BlamesBytes k → Stops m n e s k
stops_at_end m n e s k o a i = record {
  no_end = o;
  none = none_at_end m n s a;
  deep = (λ d. absurd (blames_not_depth i d), λ d. absurd (starts_not_at_end s d.1 a));
  no_memory = blames_not_memory i;
}

constructed_end : (r : List ℕ) → identifier end_tag Constructed ++ r ≡ 32 ∷ r
constructed_end r = ap (λ z. z ++ r) (identifier_short end_tag Constructed (omega arith))

-- bytes that begin so are an end
pub first_at_end : (s : List ℕ) → 1 ≤ length s → IsEndByte (get_or s 0 0) → AtEnd s
first_at_end [] l x = absurd (omega arith)
first_at_end (b ∷ r) l (inl x) = subst (λ z. AtEnd (z ∷ r)) (sym x) (zeros_at_end r)
first_at_end (b ∷ r) l (inr x) = end (begins Constructed r (ap (λ z. z ∷ r) x ∙ sym (constructed_end r)))

-- bytes that don't begin as an end begin with the identifier of another tag
pub first_not_end : (s r : List ℕ) (t : Tag) (p : PCBit) → (IsEndByte (get_or s 0 0) → ⊥) → s ≡ identifier t p ++ r → t ≡ end_tag → ⊥
first_not_end s r t Primitive n e f = n (inl (ap (λ b. get_or b 0 0) (e ∙ ap (λ u. identifier u Primitive ++ r) f ∙ end_identifier r)))
first_not_end s r t Constructed n e f = n (inr (ap (λ b. get_or b 0 0) (e ∙ ap (λ u. identifier u Constructed ++ r) f ∙ constructed_end r)))

-- what a walk does with a header
pub turns_to : (m : BERMode) (n : ℕ) (e : ContentsEnd) (s : List ℕ) (u : Tag) (o : Opened) (t : Turn) →
    IsOpened m n s u o.bit o.contents o.end → TurnsTo m o t → TurnOf m n e s (Ok t)
turns_to m n e s u o (Left a) x y = absurd y
turns_to m n e s u o (Passed a) x y = record {
  tag = u;
  bit = o.bit;
  contents = o.contents;
  opened = subst (λ z. IsOpened m n s u o.bit o.contents z) y.0 x;
  closed = y.1;
}
turns_to m n e s u o (Entered i) x y = record {
  tag = u;
  bit = i.bit;
  opened = subst (λ (z : Opened). IsOpened m n s u z.bit z.contents z.end) (sym y.0) x;
  descends = y.1;
}

-- a header of a tag is there
pub opens_header : (m : BERMode) (n : ℕ) (t : Tag) (p : PCBit) (s c : List ℕ) (e : ContentsEnd) → 1 ≤ n → OpensAt m t p s c e → HasHeader AnyBit m n t s
opens_header m n t p s c (definite_end r) l x = record {
  level = l;
  bit = p;
  allowed = tt;
  after = x.l ++ (c ++ r);
  joined = x.joined;
  contents = c;
  end = definite_end r;
  holds = (x.l, x.taken, x.spelled, refl);
}
opens_header m n t p s c indefinite_end l x =
    record { level = l; bit = p; allowed = tt; after = 128 ∷ c; joined = x.joined; contents = c; end = indefinite_end; holds = (x.taken, refl) }

pub opens_range : (m : BERMode) (t : Tag) (p : PCBit) (s c : List ℕ) (e : ContentsEnd) → OpensAt m t p s c e → t.tag_number < 2 ^ 64
opens_range m t p s c (definite_end r) x = x.in_range
opens_range m t p s c indefinite_end x = x.in_range
