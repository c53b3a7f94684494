-- A header at the start of bytes: it is the only one there, and tells of the element that begins there.
use Rattle.std.proofs.Common.{◌≡◌, ℕ, List, [], ◌∷◌, ◌++◌, length, refl, ap, ◌∙◌, sym, subst, append-nil}
use Rattle.yasna_base.specs.declared.mode.BERMode.{BERMode}
use Rattle.yasna_base.specs.declared.tag.PCBit.{PCBit}
use Rattle.yasna_base.specs.declared.tag.Tag.{Tag}
use Rattle.yasna_base.specs.Element.{Element}
use Rattle.yasna_base.specs.Header.{ContentsEnd, definite_end, indefinite_end, OpensAt, EndsBefore}
use Rattle.yasna_base.specs.Identifier.{BeginsWithTag, begins, AtEnd, nothing}
use Rattle.yasna_base.proofs.Element.{counted_header, uncounted_header}
use Rattle.yasna_base.proofs.Identifier.{identifier_exact, zeros_at_end}
use Rattle.yasna_base.proofs.Length.{length_exact, length_not_indefinite}
use Rattle.yasna_base.proofs.Lists.{prefixes_same}

-- a header begins with its identifier
pub opens_begins : (m : BERMode) (t : Tag) (p : PCBit) (s c : List ℕ) (e : ContentsEnd) → OpensAt m t p s c e → BeginsWithTag t s
opens_begins m t p s c (definite_end r) x = begins p _ x.joined
opens_begins m t p s c indefinite_end x = begins p _ x.joined

-- the bytes o after a header of t with p begin with the contents c of an element of u with q, which r follows
pub record HeaderOf (t : Tag) (p : PCBit) (o : List ℕ) (e : ContentsEnd) (u : Tag) (q : PCBit) (c r : List ℕ) : Type 0 where
  pub tag : t ≡ u
  pub bit : p ≡ q
  pub after : List ℕ
  pub joined : o ≡ c ++ after
  pub ends : EndsBefore e after r

-- where an element begins, a header is its own
pub header_of : (m : BERMode) (t u : Tag) (p q : PCBit) (s o c b r : List ℕ) (e : ContentsEnd) → OpensAt m t p s o e → Element m u q c b → s ≡ b ++ r →
    HeaderOf t p o e u q c r
header_of m t u p q s o c b r (definite_end z) x y f =
    let i = counted_header m m t u p q (length o) x.l c b (o ++ z) r x.spelled y.framed (sym x.joined ∙ f) in
    let j = prefixes_same o c z r i.count i.after in
    record { tag = i.tag; bit = i.bit; after = []; joined = j.0 ∙ sym (append-nil c); ends = (refl, sym j.1) }
header_of m t u p q s o c b r indefinite_end x y f =
    let i = uncounted_header m t u p q c b o r y.framed (sym x.joined ∙ f) in
    record { tag = i.tag; bit = i.bit; after = 0 ∷ 0 ∷ r; joined = i.after; ends = refl }

-- where contents end is an end
pub end_after : (e : ContentsEnd) (y r : List ℕ) → EndsBefore e y r → AtEnd y
end_after (definite_end a) y r h = nothing h.0
end_after indefinite_end y r h = subst (λ z. AtEnd z) (sym h) (zeros_at_end (0 ∷ r))

-- two headers are the same
pub record SameHeader (t u : Tag) (p q : PCBit) (c d : List ℕ) (e f : ContentsEnd) : Type 0 where
  pub tag : t ≡ u
  pub bit : p ≡ q
  pub contents : c ≡ d
  pub end : e ≡ f

-- bytes begin with one header only
pub header_once : (m : BERMode) (t u : Tag) (p q : PCBit) (s c d : List ℕ) (e f : ContentsEnd) → OpensAt m t p s c e → OpensAt m u q s d f →
    SameHeader t u p q c d e f
header_once m t u p q s c d (definite_end r) (definite_end z) x y =
    let i = identifier_exact t u p q _ _ (sym x.joined ∙ y.joined) in
    let j = length_exact m m (length c) (length d) x.l y.l (c ++ r) (d ++ z) x.spelled y.spelled i.2 in
    let k = prefixes_same c d r z j.0 j.2 in
    record { tag = i.0; bit = i.1; contents = k.0; end = ap definite_end k.1 }
header_once m t u p q s c d (definite_end r) indefinite_end x y =
    let i = identifier_exact t u p q _ _ (sym x.joined ∙ y.joined) in
    absurd (length_not_indefinite m (length c) x.l (c ++ r) d x.spelled i.2)
header_once m t u p q s c d indefinite_end (definite_end z) x y =
    let i = identifier_exact t u p q _ _ (sym x.joined ∙ y.joined) in
    absurd (length_not_indefinite m (length d) y.l (d ++ z) c y.spelled (sym (i.2)))
header_once m t u p q s c d indefinite_end indefinite_end x y =
    let i = identifier_exact t u p q _ _ (sym x.joined ∙ y.joined) in
    record { tag = i.0; bit = i.1; contents = cc (i.2); end = refl }
