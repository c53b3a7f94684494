-- Where contents end after a header, an element is there.
use Rattle.std.proofs.Common.{◌≡◌, ℕ, List, ◌∷◌, ◌++◌, refl, ap, sym, subst, ◌∙◌, append_assoc, append-nil}
use Rattle.yasna_base.specs.declared.mode.BERMode.{BERMode}
use Rattle.yasna_base.specs.declared.tag.Tag.{Tag}
use Rattle.yasna_base.specs.declared.tag.PCBit.{PCBit}
use Rattle.yasna_base.specs.Digits.{IsBytes}
use Rattle.yasna_base.specs.Element.{Element, definite, indefinite, end_of_contents}
use Rattle.yasna_base.specs.Header.{ContentsEnd, definite_end, indefinite_end, OpensAt}
use Rattle.yasna_base.specs.Identifier.{identifier}
use Rattle.yasna_base.proofs.Digits.{bytes_prefix}
use Rattle.yasna_bytes.specs.Header.{EndsBefore}

-- where contents end after a header, an element is there
pub record ElementBefore (m : BERMode) (t : Tag) (p : PCBit) (s d r : List ℕ) : Type 0 where
  pub bytes : List ℕ
  pub joined : s ≡ bytes ++ r
  pub element : Element m t p d bytes

pub closed : (m : BERMode) (t : Tag) (p : PCBit) (s c : List ℕ) (after : ContentsEnd) → OpensAt m t p s c after → (d y r : List ℕ) → c ≡ d ++ y →
    EndsBefore after y r → ElementBefore m t p s d r
closed m t p s c (definite_end a) x d y r e h =
    let f : c ≡ d = e ∙ ap (λ z. d ++ z) h.0 ∙ append-nil d in
    record {
      bytes = identifier t p ++ (x.l ++ d);
      joined = x.joined ∙ ap (λ z. identifier t p ++ (x.l ++ (z ++ a))) f ∙ ap (λ z. identifier t p ++ (x.l ++ (d ++ z))) (sym h.1) ∙ simp append_assoc;
      element = record {
        in_range = x.in_range;
        in_bytes = subst IsBytes f x.in_bytes;
        framed = definite (record { taken = x.taken; l = x.l; spelled = rw (← f) x.spelled; joined = refl });
      };
    }
closed m t p s c indefinite_end x d y r e h = record {
  bytes = identifier t p ++ (128 ∷ (d ++ end_of_contents));
  joined = x.joined ∙ ap (λ z. identifier t p ++ (128 ∷ z)) (e ∙ ap (λ z. d ++ z) h) ∙ simp append_assoc;
  element = record {
    in_range = x.in_range;
    in_bytes = bytes_prefix d y (subst IsBytes e x.in_bytes);
    framed = indefinite (record { taken = x.taken; joined = refl });
  };
}
