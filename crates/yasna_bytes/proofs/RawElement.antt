-- A raw element at the start of bytes, or why there is none.
use Rattle.std.proofs.Common.{◌≡◌, ℕ, zero, suc, ◌-◌, List, [], ◌∷◌, ◌++◌, append_assoc, true, sym, ◌∙◌, arith, subst}
use Rattle.yasna_base.specs.declared.mode.BERMode.{BERMode}
use Rattle.yasna_base.specs.declared.tag.PCBit.{PCBit}
use Rattle.yasna_base.specs.declared.tag.Tag.{Tag}
use Rattle.yasna_base.specs.Header.{ContentsEnd, definite_end, indefinite_end}
use Rattle.yasna_base.specs.Raw.{RawValue, DescendsUpTo, IsRaw, ContentsTo, IsPayload}
use Rattle.yasna_base.proofs.Lists.{append_before}
use Rattle.yasna_base.proofs.Raw.{raw_of, raw_into, opens_raw, raw_ends, opens_starts}
use Rattle.yasna_bytes.specs.declared.bytes.header.Rejection.{Rejection}
use Rattle.yasna_bytes.specs.Walk.{NotOpened, IsOpened, Enters, NotWalked, HasRest, IsRest, RejectsRaw}
use Rattle.yasna_bytes.proofs.RawHeader.{starts_not_at_end}
use Rattle.yasna_bytes.proofs.WalkSteps.{closes_to, raw_within, no_raw, deep_no_header, level_deep, entered_deep, deep_entered}

-- no header was read
pub not_opened : (m : BERMode) (n : ℕ) (s : List ℕ) (e : Rejection) → NotOpened m n s e → RejectsRaw m n s e
not_opened m n s e x = record {
  none = λ y. let w = y.2 in no_raw m n s x.none y.0 w.prefix y.1 w.member w.joined;
  consumed = x.consumed;
  deep = (λ k. level_deep m n s (x.deep.0 k), λ d. x.deep.1 (deep_no_header m n s x.none d));
  no_memory = x.no_memory;
}

-- the contents of an element don't end
pub not_followed : (m : BERMode) (n : ℕ) (t : Tag) (p : PCBit) (s c : List ℕ) (f : ContentsEnd) (e : Rejection) → IsOpened m n s t p c f → DescendsUpTo m p f →
    NotWalked m (n - 1) f c e.kind → e.consumed ≡ true → RejectsRaw m n s e
not_followed m zero t p s c f e o l x g = let i = o.level in absurd (omega arith)
not_followed m (suc n) t p s c f e o l x g =
    let less : suc n - 1 ≡ n = omega arith in
    let y = subst (λ k. NotWalked m k f c e.kind) less x in
    let enters : Enters m (suc n) s c f = record { tag = t; bit = p; opened = o; descends = l } in
    record {
      none = λ z. let w = z.2 in
          let i = opens_raw m t p s c f z.0 w.prefix z.1 o.opens (raw_into n m z.0 w.prefix w.member) w.joined in
          y.none z.1 (closes_to m p c f z.1 l i.inside);
      consumed = (λ h. absurd (cc), λ a. absurd (starts_not_at_end s (opens_starts m t p s c f o.not_end o.opens) a));
      deep = (λ k. deep_entered m n s c f enters (y.deep.0 k), λ d. y.deep.1 (entered_deep m n s c f enters d));
      no_memory = y.no_memory;
    }

-- r are the last of the contents that end before r
pub to_rest : (R : RawValue → List ℕ → Type 0) (m : BERMode) (p : PCBit) (c : List ℕ) (e : ContentsEnd) (r : List ℕ) → ContentsTo R m p c e r → HasRest e c r
to_rest R m p c (definite_end z) r w = tt
to_rest R m p c indefinite_end r w = (w.0 ++ (0 ∷ 0 ∷ []), w.2 ∙ sym (append_assoc w.0 (0 ∷ 0 ∷ []) r))

-- r follows some bytes of an element that ends before r
pub followed_rest : (m : BERMode) (n : ℕ) (t : Tag) (p : PCBit) (s c : List ℕ) (e : ContentsEnd) (r : List ℕ) → IsOpened m n s t p c e →
    ContentsTo (IsRaw m (n - 1)) m p c e r → IsRest s r
followed_rest m n t p s c e r o w = let x = raw_within m t p s c e r o.not_end o.opens w in (x.1.bytes, x.1.joined)

-- the element with this payload, whose bytes are before r
pub followed : (m : BERMode) (n : ℕ) (t : Tag) (p : PCBit) (s c : List ℕ) (e : ContentsEnd) (r y b : List ℕ) → IsOpened m n s t p c e →
    ContentsTo (IsRaw m (n - 1)) m p c e r → IsPayload c e r y → s ≡ b ++ r → IsRaw m n (record { tag = t; bit = p; payload = y }) b
followed m zero t p s c e r y b o w i f = let l = o.level in absurd (omega arith)
followed m (suc n) t p s c e r y b o w i f =
    let less : suc n - 1 ≡ n = omega arith in
    let x = raw_ends m t p s c e r y o.not_end o.opens (subst (λ k. ContentsTo (IsRaw m k) m p c e r) less w) i in
    let v : RawValue = record { tag = t; bit = p; payload = y } in
    subst (λ z. IsRaw m (suc n) v z) (append_before x.bytes b r (sym x.joined ∙ f)) (raw_of n m v x.bytes x.raw)
