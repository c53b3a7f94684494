-- Lines of elements, one after the other.
use Rattle.std.proofs.Common.{◌≡◌, ◌+◌, ◌≤◌, ℕ, zero, suc, Bool, List, [], ◌∷◌, ◌++◌, length, Some, None, refl, sym, ap, ◌∙◌, subst, append-nil, append_assoc, length-append, arith}
use Rattle.std.specs.Prelude.{Option}
use Rattle.yasna_base.specs.declared.mode.BERMode.{BERMode}
use Rattle.yasna_base.specs.declared.mode.BERMode.TheVariants.{Ber, Der, Cer}
use Rattle.yasna_base.specs.declared.tag.PCBit.{PCBit}
use Rattle.yasna_base.specs.declared.tag.PCBit.TheVariants.{Primitive, Constructed}
use Rattle.yasna_base.specs.declared.tag.Tag.{Tag}
use Rattle.yasna_base.specs.Element.{TakesIndefinite, end_of_contents}
use Rattle.yasna_base.specs.Digits.{IsBytes}
use Rattle.yasna_base.specs.Header.{OpensAt, definite_end, indefinite_end}
use Rattle.yasna_base.specs.Identifier.{identifier, end_tag}
use Rattle.yasna_base.proofs.Digits.{bytes_prefix}
use Rattle.yasna_base.proofs.Identifier.{identifier_some}
use Rattle.asn1show_walk.specs.Listing.{Line, VisitsLines, with_length, with_zeros, ShowsContents, Below, ListsElement, ListsCount, ListsOne, ListsBytes}

-- nothing was visited
pub visits_none : (a : List Line → Type 0) → VisitsLines a a []
visits_none a = λ before x. subst a (sym (append-nil before)) x

-- lines were visited, and then more
pub visits_more : (a b c : List Line → Type 0) (xs ys : List Line) → VisitsLines a b xs → VisitsLines b c ys → VisitsLines a c (xs ++ ys)
visits_more a b c xs ys p q = λ before x. subst c (append_assoc before xs ys) (q (before ++ xs) (p before x))

-- no elements are listed by no lines
pub lists_none : (n : ℕ) (m : BERMode) (w : Bool) (o : ℕ) → ListsBytes n m w o [] []
unfolding ListsCount
lists_none n m w o = (zero, (refl, refl))

-- elements and one more
pub lists_more : (n : ℕ) (m : BERMode) (w : Bool) (o : ℕ) (s b : List ℕ) (ls ks : List Line) → ListsBytes n m w o s ls → ListsOne n m w (o + length s) b ks →
    ListsBytes n m w o (s ++ b) (ls ++ ks)
unfolding ListsCount
lists_more n m w o s b ls ks x y =
    (suc (x.0), record { prefix = s; last = b; lines = ls; more = ks; before = x.1; one = y; joined = refl; reported = refl })

-- an element with a level left lists what is in it with one level less
pub one_over : (n k : ℕ) (m : BERMode) (w : Bool) (o : ℕ) (b : List ℕ) (ls : List Line) → k + 1 ≡ n → ListsElement (λ v. ListsBytes k m v) m n w o b ls →
    ListsOne n m w o b ls
unfolding ListsOne
one_over zero k m w o b ls e x = absurd (omega (arith, e))
one_over (suc n) k m w o b ls e x =
    let j : k ≡ n = omega (arith, e) in
    subst (λ z. ListsElement (λ v. ListsBytes z m v) m (suc n) w o b ls) j x

-- b is at the start of s, r after it, and lines list it
pub record Reported (n : ℕ) (m : BERMode) (w : Bool) (o : ℕ) (s r : List ℕ) (ls : List Line) : Type 0 where
  pub bytes : List ℕ
  pub joined : s ≡ bytes ++ r
  pub some : 1 ≤ length bytes
  pub one : ListsOne n m w o bytes ls

regroup : (i l c r : List ℕ) → i ++ (l ++ (c ++ r)) ≡ (i ++ (l ++ c)) ++ r
regroup i l c r = ap (λ z. i ++ z) (sym (append_assoc l c r)) ∙ sym (append_assoc i (l ++ c) r)

regroup_zeros : (i c r : List ℕ) → i ++ (128 ∷ (c ++ (0 ∷ 0 ∷ r))) ≡ (i ++ (128 ∷ (c ++ end_of_contents))) ++ r
regroup_zeros i c r = ap (λ z. i ++ (128 ∷ z)) (sym (append_assoc c end_of_contents r)) ∙ sym (append_assoc i (128 ∷ (c ++ end_of_contents)) r)

count_of : (h : ℕ) (b c r s : List ℕ) → s ≡ b ++ r → h + (length c + length r) ≡ length s → h + length c ≡ length b
count_of h b c r s e f = omega (arith, f, ap length e ∙ length-append b r)

longer : (i y : List ℕ) → 1 ≤ length i → 1 ≤ length (i ++ y)
longer i y h = omega (arith, h, length-append i y)

-- an element of definite length is listed by its line and the lines of the elements in it
pub counted_reported : (m : BERMode) (n k : ℕ) (w : Bool) (line : Line) (s c r : List ℕ) (below : List Line) → k + 1 ≡ n → line.depth + n ≡ 101 →
    line.in_string ≡ w → (line.tag ≡ end_tag → ⊥) → OpensAt m line.tag line.bit s c (definite_end r) → line.header + (length c + length r) ≡ length s →
    line.size ≡ Some (length c) → line.contents ≡ c → Below (λ v. ListsBytes k m v) w line.tag line.bit (line.offset + line.header) c below →
    Reported n m w line.offset s r (line ∷ below)
counted_reported m n k w line s c r below e d i ne x h z shown y =
    let b = identifier line.tag line.bit ++ (x.l ++ c) in
    let j : s ≡ b ++ r = x.joined ∙ regroup (identifier line.tag line.bit) x.l c r in
    record {
      bytes = b;
      joined = j;
      some = longer (identifier line.tag line.bit) (x.l ++ c) (identifier_some line.tag line.bit);
      one = one_over n k m w line.offset b (line ∷ below) e (record {
        line = line;
        below = below;
        reported = refl;
        offset = refl;
        depth = d;
        in_string = i;
        not_end = ne;
        in_range = x.in_range;
        contents = c;
        in_bytes = x.in_bytes;
        header = with_length (record { taken = x.taken; l = x.l; spelled = x.spelled; joined = refl }) (count_of line.header b c r s j h) z;
        shown = subst (λ size. ShowsContents size c line.contents) (sym z) shown;
        inner = y;
      });
    }

below_of : (m : BERMode) (k : ℕ) (w : Bool) (t : Tag) (bit : PCBit) (o : ℕ) (c : List ℕ) (ls : List Line) → TakesIndefinite m bit → ListsBytes k m w o c ls →
    Below (λ v. ListsBytes k m v) w t bit o c ls
below_of m k w t Constructed o c ls x y = y
below_of Ber k w t Primitive o c ls x y = absurd x
below_of Der k w t Primitive o c ls x y = absurd x
below_of Cer k w t Primitive o c ls x y = absurd x

-- an element of indefinite length is listed by its line and the lines of the elements in it, where two zeros end them
pub uncounted_reported : (m : BERMode) (n k : ℕ) (w : Bool) (line : Line) (s d c r : List ℕ) (below : List Line) → k + 1 ≡ n → line.depth + n ≡ 101 →
    line.in_string ≡ w → (line.tag ≡ end_tag → ⊥) → OpensAt m line.tag line.bit s d indefinite_end → line.header + length d ≡ length s →
    line.size ≡ None → d ≡ c ++ (0 ∷ 0 ∷ r) → line.contents ≡ d → ListsBytes k m w (line.offset + line.header) c below → Reported n m w line.offset s r (line ∷ below)
uncounted_reported m n k w line s d c r below e f i ne x h z g shown y =
    let b = identifier line.tag line.bit ++ (128 ∷ (c ++ end_of_contents)) in
    let j : s ≡ b ++ r = x.joined ∙ ap (λ u. identifier line.tag line.bit ++ (128 ∷ u)) g ∙ regroup_zeros (identifier line.tag line.bit) c r in
    let a : length d ≡ length c + (2 + length r) = ap length g ∙ length-append c (0 ∷ 0 ∷ r) ∙ (omega arith) in
    record {
      bytes = b;
      joined = j;
      some = longer (identifier line.tag line.bit) (128 ∷ (c ++ end_of_contents)) (identifier_some line.tag line.bit);
      one = one_over n k m w line.offset b (line ∷ below) e (record {
        line = line;
        below = below;
        reported = refl;
        offset = refl;
        depth = f;
        in_string = i;
        not_end = ne;
        in_range = x.in_range;
        contents = c;
        in_bytes = bytes_prefix c (0 ∷ 0 ∷ r) (subst IsBytes g x.in_bytes);
        header = with_zeros (record { taken = x.taken; joined = refl }) (omega (arith, a, h, ap length j ∙ length-append b r)) z;
        shown = subst (λ size. ShowsContents size c line.contents) (sym z) (r, shown ∙ g);
        inner = below_of m k w line.tag line.bit (line.offset + line.header) c below x.taken y;
      });
    }
