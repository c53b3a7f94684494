-- Pieces, one after the other: where nothing is left or the end of contents is they have ended, and but once.
use Rattle.std.proofs.Common.{◌≡◌, ℕ, List, [], ◌∷◌, ◌++◌, length, refl, ap, ap₂, ◌∙◌, sym, arith, append_assoc, subst, append-nil}
use Rattle.std.specs.List.{concat}
use Rattle.yasna_base.specs.declared.tag.Tag.{Tag}
use Rattle.yasna_base.specs.Identifier.{end_tag, BeginsWithTag, StartsElement, AtEnd, nothing, end}
use Rattle.yasna_base.specs.Pieces.{Each, Pieces}
use Rattle.yasna_base.proofs.Identifier.{begins_once, begins_some, begins_with}
use Rattle.yasna_base.proofs.Lists.{append_same}
use Rattle.std.proofs.lemmas.List.Folds.{concat-append}
use Rattle.yasna_base.specs.Segmented.{PiecesBefore}

-- where another tag is contents aren't at their end
pub tag_not_end : (t : Tag) (x : List ℕ) → (t ≡ end_tag → ⊥) → BeginsWithTag t x → AtEnd x → ⊥
tag_not_end t x not_end h (nothing e) = let n = begins_some t x h in omega (arith, ap length e)
tag_not_end t x not_end h (end i) = not_end (begins_once t end_tag x h i)

-- nor where an element is there
pub starts_not_end : (b r x : List ℕ) → StartsElement b → AtEnd x → x ≡ b ++ r → ⊥
starts_not_end b r x h i e = tag_not_end h.tag x h.not_end (subst (λ z. BeginsWithTag h.tag z) (sym e) (begins_with h.tag b r h.begins)) i

-- pieces bs and then x, and pieces cs and then y, are the same bytes: the pieces are the same, or one has a further segment
pub data Meet {A B : Type 0} (R : A → List ℕ → Type 0) (S : B → List ℕ → Type 0) (bs cs : List (List ℕ)) (x y : List ℕ) : Type 0 where
  together : bs ≡ cs → x ≡ y → Meet R S bs cs x y
  left_further : (v : A) (b r : List ℕ) (ds : List (List ℕ)) → bs ≡ cs ++ (b ∷ ds) → R v b → y ≡ b ++ r → Meet R S bs cs x y
  right_further : (w : B) (c r : List ℕ) (ds : List (List ℕ)) → cs ≡ bs ++ (c ∷ ds) → S w c → x ≡ c ++ r → Meet R S bs cs x y

meet_after : {A B : Type 0} {R : A → List ℕ → Type 0} {S : B → List ℕ → Type 0} (b c : List ℕ) (bs cs : List (List ℕ)) (x y : List ℕ) → b ≡ c →
    Meet R S bs cs x y → Meet R S (b ∷ bs) (c ∷ cs) x y
meet_after b c bs cs x y e (together f g) = together (ap₂ (λ d ds. d ∷ ds) e f) g
meet_after b c bs cs x y e (left_further v d r ds f p g) = left_further v d r ds (ap₂ (λ d ds. d ∷ ds) e f) p g
meet_after b c bs cs x y e (right_further w d r ds f p g) = right_further w d r ds (ap₂ (λ d ds. d ∷ ds) (sym e) f) p g

-- where of two pieces neither begins the other
pub each_meet : {A B : Type 0} {R : A → List ℕ → Type 0} {S : B → List ℕ → Type 0} →
    ((v : A) (w : B) (b c r s : List ℕ) → R v b → S w c → b ++ r ≡ c ++ s → b ≡ c) →
    (vs : List A) (ws : List B) (bs cs : List (List ℕ)) (x y : List ℕ) → Each R vs bs → Each S ws cs → concat bs ++ x ≡ concat cs ++ y → Meet R S bs cs x y
each_meet prefix_free [] [] [] [] x y p q e = together refl e
each_meet prefix_free [] [] [] (c ∷ cs) x y p q e = absurd q
each_meet prefix_free [] ws (b ∷ bs) cs x y p q e = absurd p
each_meet prefix_free [] (w ∷ ws) [] [] x y p q e = absurd q
each_meet prefix_free [] (w ∷ ws) [] (c ∷ cs) x y p q e = right_further w c (concat cs ++ y) cs refl q.0 (e ∙ append_assoc c (concat cs) y)
each_meet prefix_free (v ∷ vs) ws [] cs x y p q e = absurd p
each_meet prefix_free (v ∷ vs) [] (b ∷ bs) [] x y p q e = left_further v b (concat bs ++ x) bs refl p.0 (sym e ∙ append_assoc b (concat bs) x)
each_meet prefix_free (v ∷ vs) [] (b ∷ bs) (c ∷ cs) x y p q e = absurd q
each_meet prefix_free (v ∷ vs) (w ∷ ws) (b ∷ bs) [] x y p q e = absurd q
each_meet prefix_free (v ∷ vs) (w ∷ ws) (b ∷ bs) (c ∷ cs) x y p q e =
    let f = sym (append_assoc b (concat bs) x) ∙ e ∙ append_assoc c (concat cs) y in
    let g = prefix_free v w b c (concat bs ++ x) (concat cs ++ y) p.0 q.0 f in
    let h = append_same c (concat bs ++ x) (concat cs ++ y) (sym (ap (λ z. z ++ (concat bs ++ x)) g) ∙ f) in
    meet_after b c bs cs x y g (each_meet prefix_free vs ws bs cs x y p.1 q.1 h)

-- no prefix of x represents a value
abbrev pub NoPrefix : {A : Type 0} → (A → List ℕ → Type 0) → List ℕ → Type 0
NoPrefix {A} R x = (v : A) (b r : List ℕ) → R v b → x ≡ b ++ r → ⊥

-- at their end there is no further segment
pub no_prefix_at_end : {A : Type 0} {R : A → List ℕ → Type 0} → ((v : A) (b : List ℕ) → R v b → StartsElement b) → (x : List ℕ) → AtEnd x → NoPrefix R x
no_prefix_at_end starts x i v b r p e = starts_not_end b r x (starts v b p) i e

module _ {A B : Type 0} {R : A → List ℕ → Type 0} {S : B → List ℕ → Type 0}
    (prefix_free : (v : A) (w : B) (b c r s : List ℕ) → R v b → S w c → b ++ r ≡ c ++ s → b ≡ c) where
  -- pieces that go as far as they can are the same, and so is what is left
  pub each_once : (vs : List A) (ws : List B) (bs cs : List (List ℕ)) (x y : List ℕ) → Each R vs bs → Each S ws cs → NoPrefix S x → NoPrefix R y →
      concat bs ++ x ≡ concat cs ++ y → (bs ≡ cs) × (x ≡ y)
  each_once vs ws bs cs x y p q i j e = elim (each_meet prefix_free vs ws bs cs x y p q e) [
    | together f g ↦ (f, g)
    | left_further v b r ds f h g ↦ absurd (j v b r h g)
    | right_further w c r ds f h g ↦ absurd (i w c r h g)
  ]

  -- as `each_once`, of the bytes that pieces join to
  pub pieces_once : (vs : List A) (ws : List B) (b c x y : List ℕ) (p : Pieces R vs b) (q : Pieces S ws c) → NoPrefix S x → NoPrefix R y → b ++ x ≡ c ++ y →
      (p.pieces ≡ q.pieces) × (x ≡ y)
  pieces_once vs ws b c x y p q i j e =
      each_once vs ws p.pieces q.pieces x y p.each q.each i j (sym (ap (λ z. z ++ x) p.joined) ∙ e ∙ ap (λ z. z ++ y) q.joined)

  -- contents of pieces end but once
  pub pieces_end : ((v : A) (b : List ℕ) → R v b → StartsElement b) → ((w : B) (c : List ℕ) → S w c → StartsElement c) →
      (vs : List A) (ws : List B) (b c x y : List ℕ) → Pieces R vs b → Pieces S ws c → AtEnd x → AtEnd y → b ++ x ≡ c ++ y → b ≡ c
  pieces_end left right vs ws b c x y p q i j e =
      let same = (pieces_once vs ws b c x y p q (no_prefix_at_end right x i) (no_prefix_at_end left y j) e).0 in
      p.joined ∙ ap concat same ∙ sym q.joined

-- values of equal pieces are equal one by one
pub each_same : {A B X : Type 0} {R : A → X → Type 0} {S : B → X → Type 0} {E : A → B → Type 0} →
    ((v : A) (w : B) (b : X) → R v b → S w b → E v w) → (vs : List A) (ws : List B) (bs : List X) → Each R vs bs → Each S ws bs → Each E vs ws
each_same f [] [] [] p q = tt
each_same f [] [] (b ∷ bs) p q = absurd p
each_same f [] (w ∷ ws) [] p q = absurd q
each_same f [] (w ∷ ws) (b ∷ bs) p q = absurd p
each_same f (v ∷ vs) ws [] p q = absurd p
each_same f (v ∷ vs) [] (b ∷ bs) p q = absurd q
each_same f (v ∷ vs) (w ∷ ws) (b ∷ bs) p q = (f v w b p.0 q.0, each_same f vs ws bs p.1 q.1)

pub each_equal : {A : Type 0} → (vs ws : List A) → Each (λ v w. v ≡ w) vs ws → vs ≡ ws
each_equal [] [] p = refl
each_equal [] (w ∷ ws) p = absurd p
each_equal (v ∷ vs) [] p = absurd p
each_equal (v ∷ vs) (w ∷ ws) p = ap₂ (λ x xs. x ∷ xs) p.0 (each_equal vs ws p.1)

-- what is by one relation is by a wider one
pub each_wider : {A B : Type 0} {R S : A → B → Type 0} → ((v : A) (b : B) → R v b → S v b) → (vs : List A) (bs : List B) → Each R vs bs → Each S vs bs
each_wider f [] [] p = tt
each_wider f [] (b ∷ bs) p = absurd p
each_wider f (v ∷ vs) [] p = absurd p
each_wider f (v ∷ vs) (b ∷ bs) p = (f v b p.0, each_wider f vs bs p.1)

pub pieces_wider : {A : Type 0} {R S : A → List ℕ → Type 0} → ((v : A) (b : List ℕ) → R v b → S v b) → (vs : List A) (c : List ℕ) →
    Pieces R vs c → Pieces S vs c
pieces_wider f vs c p = record { pieces = p.pieces; each = each_wider f vs p.pieces p.each; joined = p.joined }

-- no pieces, one, and more

pub no_pieces : {A : Type 0} {R : A → List ℕ → Type 0} → Pieces R [] []
no_pieces = record { pieces = []; each = tt; joined = refl }

pub one_piece : {A : Type 0} {R : A → List ℕ → Type 0} (v : A) (b : List ℕ) → R v b → Pieces R (v ∷ []) b
one_piece v b x = record { pieces = b ∷ []; each = (x, tt); joined = sym (append-nil b) }

pub each_append : {A B : Type 0} (R : A → B → Type 0) (vs ws : List A) (bs cs : List B) → Each R vs bs → Each R ws cs → Each R (vs ++ ws) (bs ++ cs)
each_append R [] ws [] cs p q = q
each_append R [] ws (b ∷ bs) cs p q = absurd p
each_append R (v ∷ vs) ws [] cs p q = absurd p
each_append R (v ∷ vs) ws (b ∷ bs) cs p q = (p.0, each_append R vs ws bs cs p.1 q)

pub pieces_append : {A : Type 0} {R : A → List ℕ → Type 0} (vs ws : List A) (b c : List ℕ) → Pieces R vs b → Pieces R ws c → Pieces R (vs ++ ws) (b ++ c)
pieces_append {R} vs ws b c p q = record {
  pieces = p.pieces ++ q.pieces;
  each = each_append R vs ws p.pieces q.pieces p.each q.each;
  joined = ap₂ (λ x y. x ++ y) p.joined q.joined ∙ sym (concat-append p.pieces q.pieces);
}

-- the values ws are vs and those of further pieces, which x begins with and y follows
pub record Further {A : Type 0} (R : A → List ℕ → Type 0) (vs ws : List A) (x y : List ℕ) : Type 0 where
  pub values : List A
  pub prefix : List ℕ
  pub pieces : Pieces R values prefix
  pub all : ws ≡ vs ++ values
  pub joined : x ≡ prefix ++ y

module _ {A : Type 0} {R : A → List ℕ → Type 0} (exact : (v w : A) (b c r s : List ℕ) → R v b → R w c → b ++ r ≡ c ++ s → (v ≡ w) × (b ≡ c)) where
  each_further : (vs ws : List A) (bs cs : List (List ℕ)) (x y : List ℕ) → Each R vs bs → Each R ws cs → NoPrefix R y → concat bs ++ x ≡ concat cs ++ y →
      Further R vs ws x y
  each_further [] ws [] cs x y p q none e =
      record { values = ws; prefix = concat cs; pieces = record { pieces = cs; each = q; joined = refl }; all = refl; joined = e }
  each_further [] ws (b ∷ bs) cs x y p q none e = absurd p
  each_further (v ∷ vs) ws [] cs x y p q none e = absurd p
  each_further (v ∷ vs) [] (b ∷ bs) [] x y p q none e = absurd (none v b (concat bs ++ x) p.0 (sym e ∙ append_assoc b (concat bs) x))
  each_further (v ∷ vs) [] (b ∷ bs) (c ∷ cs) x y p q none e = absurd q
  each_further (v ∷ vs) (w ∷ ws) (b ∷ bs) [] x y p q none e = absurd q
  each_further (v ∷ vs) (w ∷ ws) (b ∷ bs) (c ∷ cs) x y p q none e =
      let f = sym (append_assoc b (concat bs) x) ∙ e ∙ append_assoc c (concat cs) y in
      let g = exact v w b c (concat bs ++ x) (concat cs ++ y) p.0 q.0 f in
      let h = append_same c (concat bs ++ x) (concat cs ++ y) (sym (ap (λ z. z ++ (concat bs ++ x)) g.1) ∙ f) in
      let i = each_further vs ws bs cs x y p.1 q.1 none h in
      record { values = i.values; prefix = i.prefix; pieces = i.pieces; all = ap₂ (λ u us. u ∷ us) (sym g.0) i.all; joined = i.joined }

  -- pieces that go as far as they can go on where others stopped
  pub pieces_further : (vs ws : List A) (b c x y : List ℕ) → Pieces R vs b → Pieces R ws c → NoPrefix R y → b ++ x ≡ c ++ y → Further R vs ws x y
  pieces_further vs ws b c x y p q none e =
      each_further vs ws p.pieces q.pieces x y p.each q.each none (sym (ap (λ z. z ++ x) p.joined) ∙ e ∙ ap (λ z. z ++ y) q.joined)

  -- what is after pieces that were read is after further pieces at the place that was reached
  pub before_rest : {More : List A → Type 0} {D : List ℕ → Type 0} → ((y : List ℕ) → D y → NoPrefix R y) →
      (vs : List A) (prefix rest : List ℕ) → Pieces R vs prefix → PiecesBefore R More D (prefix ++ rest) → PiecesBefore R (λ us. More (vs ++ us)) D rest
  before_rest {More} unambiguous vs prefix rest p x =
      let i = pieces_further vs x.values prefix x.prefix rest x.rest p x.pieces (unambiguous x.rest x.deep) x.joined in
      record { values = i.values; prefix = i.prefix; rest = x.rest; pieces = i.pieces; more = subst More i.all x.more; joined = i.joined; deep = x.deep }
