-- The meaning of a filter satisfies the laws.
use Rattle.std.proofs.Common.{◌≡◌, ◌∷◌, ◌++◌, [], ◌<◌, ◌+◌, ℕ, suc, max, List, true, Option, None, Box, map, inl, inr, refl, sym, ap, ap₂, subst, ◌∙◌, arith}
use Rattle.std.specs.Global.{Global}
use Rattle.std.specs.List.{AllByRecursion, concat}
use Rattle.std.specs.Prelude.{◌⊎◌}
use Rattle.yasna_base.specs.declared.mode.BERMode.{BERMode}
use Rattle.yasna_base.specs.declared.tag.PCBit.TheVariants.{Constructed}
use Rattle.yasna_base.specs.declared.tag.Tag.{Tag}
use Rattle.yasna_base.specs.AnyOrder.{sorted_set_of_encoding}
use Rattle.yasna_base.specs.Beginnings.{share_none}
use Rattle.yasna_base.specs.Canonical.{canonical_element}
use Rattle.yasna_base.specs.Grammar.{Grammar, Encoding, Depth}
use Rattle.yasna_base.specs.Identifier.{context, tag_or}
use Rattle.yasna_base.specs.Order.{octets_cmp, in_order}
use Rattle.yasna_base.specs.SequenceOf.{elements_depth}
use Rattle.yasna_base.specs.Set.{IsSetOf}
use Rattle.yasna_base.specs.SetWriting.{encodings, in_encoding_order}
use Rattle.yasna_base.proofs.Pieces.{each_wider}
use Rattle.yasna_base.proofs.SetOfWriting.{around_encodings, encodings_in_order}
use Rattle.yasna_notation.specs.declared.choices.Either.{Either}
use Rattle.yasna_notation.specs.declared.choices.Either.TheVariants.{First, Second}
use Rattle.yasna_notation.specs.Laws.{represented_lawful, element_non_empty}
use Rattle.yasna_notation.specs.Making.{in_set_of, in_implicit, in_explicit, in_choice, alternative, set_not_empty}
use Rattle.yasna_notation.specs.Notation.{Meaning, IsNotation, MeaningKeepsLaws, IsNonEmptyEncoding, represented_by}
use Rattle.ldap.specs.declared.filter.Filter.{Filter}
use Rattle.ldap.specs.declared.filter.Filter.TheFolds.{map-Filter, fold_out-Filter}
use Rattle.ldap.specs.declared.filter.Filter.TheOpen.{Filter-F}
use Rattle.ldap.specs.declared.filter.Filter.TheOpen.Filter-F.{And, Or, Not, Item}
use Rattle.ldap.specs.declared.filter.Filter.TheViews.{out-Filter}
use Rattle.ldap.specs.declared.filter_item.FilterItem.{FilterItem}
use Rattle.ldap.specs.Filters.{Parted, parted, parted_of, largest, one_deeper, depth_of, group_means, negated_means, either_means}
use Rattle.ldap.specs.Filters.{parted_means, filter_step, filter_means, group_top, either_top, parted_top}
use Rattle.ldap.specs.Recursion.{after_steps, FollowsDepth, IsStep}
use Rattle.ldap.specs.RecursionLaws.{means_lawful}

all_map : {A : Type 0} {P Q : A → Type 0} → ((v : A) → P v → Q v) → (vs : List A) → AllByRecursion P vs → AllByRecursion Q vs
all_map f [] p = tt
all_map f (v ∷ vs) p = (f v p.0, all_map f vs p.1)

-- the values within a value are less deep than it
pub each_less : {A : Type 0} (depth : A → ℕ) (P Can : A → Type 0) (vs : List A) → AllByRecursion Can vs →
    ((v : A) → Can v → depth v < suc (largest (map depth vs)) → P v) → AllByRecursion P vs
each_less depth P Can [] c f = tt
each_less depth P Can (v ∷ vs) c f = (f v c.0 (omega arith), each_less depth P Can vs c.1 (λ w d lt. f w d (omega (arith, lt))))

set_map : {A : Type 0} (B C : Grammar A) (t : Tag) (m : BERMode) (n : ℕ) → ((v : A) (b : List ℕ) → B m n v b → C m n v b) → (vs : List A) (b : List ℕ) →
    IsSetOf B t m (suc n) vs b → IsSetOf C t m (suc n) vs b
set_map B C t m n f vs b p =
    let e = p.meaning.elements in
    record {
      contents = p.contents;
      element = p.element;
      meaning = record { elements = record { pieces = e.pieces; each = each_wider f vs e.pieces e.each; joined = e.joined }; order = p.meaning.order };
    }

encodings_alike : {A : Type 0} (depth : A → ℕ) (f g : A → List ℕ) (vs : List A) → ((w : A) → depth w < suc (largest (map depth vs)) → f w ≡ g w) →
    map f vs ≡ map g vs
encodings_alike depth f g [] h = refl
encodings_alike depth f g (v ∷ vs) h =
    ap₂ (λ b bs. b ∷ bs) (h v (omega arith)) (encodings_alike depth f g vs (λ w lt. h w (omega (arith, lt))))

depths_alike : {A : Type 0} (depth : A → ℕ) (f g : Depth A) (m : BERMode) (vs : List A) →
    ((w : A) → depth w < suc (largest (map depth vs)) → f m w ≡ g m w) → elements_depth f m vs ≡ elements_depth g m vs
depths_alike depth f g m [] h = refl
depths_alike depth f g m (v ∷ vs) h = ap₂ max (h v (omega arith)) (depths_alike depth f g m vs (λ w lt. h w (omega (arith, lt))))

sorted_is : {A : Type 0} (encoding : Encoding A) (t : Tag) (m : BERMode) (vs : List A) →
    sorted_set_of_encoding encoding t m vs ≡ canonical_element m t Constructed (concat (in_order octets_cmp (encodings encoding m vs)))
sorted_is encoding t m vs = around_encodings encoding m t (in_encoding_order encoding m vs) (in_order octets_cmp (encodings encoding m vs)) (encodings_in_order encoding m vs)

group_follows : {A : Type 0} (depth : A → ℕ) (k : ℕ) → FollowsDepth depth (group_top depth) (group_means k)
group_follows depth k = record {
  flat = λ x y u m v b p. absurd p.0.encoded;
  any_flat = λ x y u m b p. absurd p.1.0.encoded;
  fits_flat = λ x y m v p. absurd p.0;
  within = λ x y u m n f v b p. (
    record {
      items = p.0.items;
      permuted = p.0.permuted;
      encoded = set_map (x.under None) (y.under None) (tag_or u (context k)) m n f p.0.items b p.0.encoded;
    },
    p.1,
  );
  any_within = λ x y u m n f g b p. (
    p.0,
    (
      record {
        items = p.1.0.items;
        permuted = p.1.0.permuted;
        encoded = set_map (x.under None) (y.under None) (tag_or u (context k)) m n f p.1.0.items b p.1.0.encoded;
      },
      p.1.1,
    ),
  );
  fits_within = λ x y m n f v p. (all_map f v.items p.0, p.1);
  can_within = λ x y v f p. (each_less depth y.can x.can v.items p.0 (λ w c less. f w less c), p.1);
  same_within = λ x y f v w e. record { items = e.items; permuted = e.permuted; each = each_wider f e.items w.items e.each };
  encoding_within = λ x y u m v h.
      let t = tag_or u (context k) in
      sorted_is (x.encoding_under None) t m v.items ∙
      ap (λ bs. canonical_element m t Constructed (concat (in_order octets_cmp bs)))
      (encodings_alike depth (x.encoding_under None m) (y.encoding_under None m) v.items h) ∙ sym (sorted_is (y.encoding_under None) t m v.items);
  depth_within = λ x y m v h. ap (λ k. 1 + k) (depths_alike depth x.depth y.depth m v.items h);
}

negated_follows : {A : Type 0} (depth : A → ℕ) → FollowsDepth depth (λ v. suc (depth v.value)) (negated_means {A = A})
negated_follows depth = record {
  flat = λ x y u m v b p. absurd p;
  any_flat = λ x y u m b p. absurd p;
  fits_flat = λ x y m v p. absurd p;
  within = λ x y u m n f v b p. record { contents = p.contents; element = p.element; meaning = f v.value p.contents p.meaning };
  any_within = λ x y u m n f g b p. record { contents = p.contents; element = p.element; meaning = g p.contents p.meaning };
  fits_within = λ x y m n f v p. f v.value p;
  can_within = λ x y v f p. f v.value (omega arith) p;
  same_within = λ x y f v w e. f v.value w.value e;
  encoding_within = λ x y u m v h. ap (λ c. canonical_element m (tag_or u (context 2)) Constructed c) (h v.value (omega arith));
  depth_within = λ x y m v h. ap (λ k. 1 + k) (h v.value (omega arith));
}

-- a meaning that is made of no values within
fixed_follows : {A V : Type 0} (depth : A → ℕ) (item : Meaning V) → FollowsDepth depth (λ i. 0) (λ x. item)
fixed_follows depth item = record {
  flat = λ x y u m v b p. p;
  any_flat = λ x y u m b p. p;
  fits_flat = λ x y m v p. p;
  within = λ x y u m n f v b p. p;
  any_within = λ x y u m n f g b p. p;
  fits_within = λ x y m n f v p. p;
  can_within = λ x y v f p. p;
  same_within = λ x y f v w e. e;
  encoding_within = λ x y u m v h. refl;
  depth_within = λ x y m v h. refl;
}

module _ {A V W : Type 0} {depth : A → ℕ} {p : V → ℕ} {q : W → ℕ} {f : Meaning A → Meaning V} {g : Meaning A → Meaning W} (a : FollowsDepth depth p f)
    (b : FollowsDepth depth q g) where
  flat_either : (x y : Meaning A) (u : Option Tag) (m : BERMode) (v : Either V W) (c : List ℕ) → (either_means (f x) (g x)).under u m 0 v c →
      (either_means (f y) (g y)).under u m 0 v c
  flat_either x y u m (First v) c z = a.flat x y None m v c z
  flat_either x y u m (Second v) c z = b.flat x y None m v c z

  within_either : (x y : Meaning A) (u : Option Tag) (m : BERMode) (n : ℕ) → ((v : A) (c : List ℕ) → x.under None m n v c → y.under None m n v c) →
      (v : Either V W) (c : List ℕ) → (either_means (f x) (g x)).under u m (suc n) v c → (either_means (f y) (g y)).under u m (suc n) v c
  within_either x y u m n h (First v) c z = a.within x y None m n h v c z
  within_either x y u m n h (Second v) c z = b.within x y None m n h v c z

  fits_flat_either : (x y : Meaning A) (m : BERMode) (v : Either V W) → (either_means (f x) (g x)).fits m 0 v → (either_means (f y) (g y)).fits m 0 v
  fits_flat_either x y m (First v) z = a.fits_flat x y m v z
  fits_flat_either x y m (Second v) z = b.fits_flat x y m v z

  fits_either : (x y : Meaning A) (m : BERMode) (n : ℕ) → ((v : A) → x.fits m n v → y.fits m n v) → (v : Either V W) →
      (either_means (f x) (g x)).fits m (suc n) v → (either_means (f y) (g y)).fits m (suc n) v
  fits_either x y m n h (First v) z = a.fits_within x y m n h v z
  fits_either x y m n h (Second v) z = b.fits_within x y m n h v z

  can_either : (x y : Meaning A) (v : Either V W) → ((w : A) → depth w < either_top p q v → x.can w → y.can w) →
      (either_means (f x) (g x)).can v → (either_means (f y) (g y)).can v
  can_either x y (First v) h z = a.can_within x y v h z
  can_either x y (Second v) h z = b.can_within x y v h z

  same_either : (x y : Meaning A) → ((v w : A) → x.same v w → y.same v w) → (v w : Either V W) → (either_means (f x) (g x)).same v w →
      (either_means (f y) (g y)).same v w
  same_either x y h (First v) (First w) e = a.same_within x y h v w e
  same_either x y h (First v) (Second w) e = absurd e
  same_either x y h (Second v) (First w) e = absurd e
  same_either x y h (Second v) (Second w) e = b.same_within x y h v w e

  encoding_either : (x y : Meaning A) (u : Option Tag) (m : BERMode) (v : Either V W) →
      ((w : A) → depth w < either_top p q v → x.encoding_under None m w ≡ y.encoding_under None m w) →
      (either_means (f x) (g x)).encoding_under u m v ≡ (either_means (f y) (g y)).encoding_under u m v
  encoding_either x y u m (First v) h = a.encoding_within x y u m v h
  encoding_either x y u m (Second v) h = b.encoding_within x y u m v h

  depth_either : (x y : Meaning A) (m : BERMode) (v : Either V W) → ((w : A) → depth w < either_top p q v → x.depth m w ≡ y.depth m w) →
      (either_means (f x) (g x)).depth m v ≡ (either_means (f y) (g y)).depth m v
  depth_either x y m (First v) h = a.depth_within x y m v h
  depth_either x y m (Second v) h = b.depth_within x y m v h

  any_either : (x y : Meaning A) (m : BERMode) (n : ℕ) → ((v : A) (c : List ℕ) → x.under None m n v c → y.under None m n v c) →
      ((c : List ℕ) → x.any_under None m n c → y.any_under None m n c) → (c : List ℕ) →
      (f x).any_under None m (suc n) c ⊎ (g x).any_under None m (suc n) c → (f y).any_under None m (suc n) c ⊎ (g y).any_under None m (suc n) c
  any_either x y m n h k c (inl z) = inl (a.any_within x y None m n h k c z)
  any_either x y m n h k c (inr z) = inr (b.any_within x y None m n h k c z)

  any_flat_either : (x y : Meaning A) (m : BERMode) (c : List ℕ) → (f x).any_under None m 0 c ⊎ (g x).any_under None m 0 c →
      (f y).any_under None m 0 c ⊎ (g y).any_under None m 0 c
  any_flat_either x y m c (inl z) = inl (a.any_flat x y None m c z)
  any_flat_either x y m c (inr z) = inr (b.any_flat x y None m c z)

  either_follows : FollowsDepth depth (either_top p q) (λ x. either_means (f x) (g x))
  either_follows = record {
    flat = flat_either;
    any_flat = λ x y u m c z. any_flat_either x y m c z;
    fits_flat = fits_flat_either;
    within = within_either;
    any_within = λ x y u m n h k c z. any_either x y m n h k c z;
    fits_within = fits_either;
    can_within = can_either;
    same_within = same_either;
    encoding_within = encoding_either;
    depth_within = depth_either;
  }

-- a value that represents one that is made so
represented_follows : {A U V : Type 0} {depth : A → ℕ} {p : V → ℕ} (view : U → V) (top : U → ℕ) (f : Meaning A → Meaning V) → FollowsDepth depth p f →
    ((v : U) → top v ≡ p (view v)) → FollowsDepth depth top (λ x. represented_by view (f x))
represented_follows {depth = depth} view top f a is = record {
  flat = λ x y u m v b z. a.flat x y u m (view v) b z;
  any_flat = λ x y u m b z. a.any_flat x y u m b z;
  fits_flat = λ x y m v z. a.fits_flat x y m (view v) z;
  within = λ x y u m n h v b z. a.within x y u m n h (view v) b z;
  any_within = λ x y u m n h k b z. a.any_within x y u m n h k b z;
  fits_within = λ x y m n h v z. a.fits_within x y m n h (view v) z;
  can_within = λ x y v h z. a.can_within x y (view v) (λ w lt. h w (subst (λ k. depth w < k) (sym (is v)) lt)) z;
  same_within = λ x y h v w e. a.same_within x y h (view v) (view w) e;
  encoding_within = λ x y u m v h. a.encoding_within x y u m (view v) (λ w lt. h w (subst (λ k. depth w < k) (sym (is v)) lt));
  depth_within = λ x y m v h. a.depth_within x y m (view v) (λ w lt. h w (subst (λ k. depth w < k) (sym (is v)) lt));
}

pub top_is : (d : Filter-F Filter) → one_deeper (map-Filter Filter ℕ depth_of d) ≡ parted_top (parted d)
top_is (And fs) = refl
top_is (Or fs) = refl
top_is (Not f) = refl
top_is (Item i) = refl

pub depth_is : (v : Filter) → depth_of v ≡ parted_top (parted_of v)
depth_is v = fold_out-Filter ℕ one_deeper v ∙ top_is (out-Filter v)

step_follows : (item : Meaning FilterItem) → FollowsDepth depth_of depth_of (filter_step item)
step_follows item =
    represented_follows parted_of depth_of (parted_means item)
    (either_follows (group_follows depth_of 0) (either_follows (group_follows depth_of 1)
    (either_follows (negated_follows depth_of) (fixed_follows depth_of item))))
    depth_is

module _ (item : Meaning FilterItem)
    (laws : IsNotation true item.tags item.same (item.under None) (item.any_under None) (item.encoding_under None) item.fits item.can)
    (first : share_none (context 0 ∷ []) ((context 1 ∷ []) ++ ((context 2 ∷ []) ++ item.tags)) ≡ true)
    (second : share_none (context 1 ∷ []) ((context 2 ∷ []) ++ item.tags) ≡ true) (third : share_none (context 2 ∷ []) item.tags ≡ true) where
  step_lawful : (x : Meaning Filter) → MeaningKeepsLaws x → MeaningKeepsLaws (filter_step item x)
  step_lawful x k =
      represented_lawful parted_of
      (in_choice (parted_means item x).encoding_under
      (alternative (in_implicit 0 (omega arith) (set_not_empty (in_set_of k.own))).own first
      (alternative (in_implicit 1 (omega arith) (set_not_empty (in_set_of k.own))).own second
      (alternative (in_explicit 2 (omega arith) (represented_lawful (λ (v : Box Filter Global). v.value) k).own).own third laws))))

  pub filter_is_step : IsStep (filter_step item) depth_of
  filter_is_step = record { lawful = step_lawful; tags_known = λ x. refl; tags = λ x. refl; follows = step_follows item }

  pub filter_lawful : MeaningKeepsLaws (filter_means item)
  filter_lawful = means_lawful filter_is_step

-- no encoding is empty
parted_non_empty : (item : Meaning FilterItem) → IsNonEmptyEncoding item → (x : Meaning Filter) (u : Option Tag) (m : BERMode) (p : Parted) →
    (parted_means item x).encoding_under u m p ≡ [] → ⊥
parted_non_empty item non_empty x u m (First fs) = element_non_empty _ _ _ _
parted_non_empty item non_empty x u m (Second (First fs)) = element_non_empty _ _ _ _
parted_non_empty item non_empty x u m (Second (Second (First f))) = element_non_empty _ _ _ _
parted_non_empty item non_empty x u m (Second (Second (Second i))) = non_empty u m i

pub filter_non_empty : (item : Meaning FilterItem) → IsNonEmptyEncoding item → IsNonEmptyEncoding (filter_means item)
filter_non_empty item non_empty u m v = parted_non_empty item non_empty (after_steps (filter_step item) (depth_of v)) u m (parted_of v)
