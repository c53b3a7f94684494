-- Bytes have one tree, and no element begins another.
use Rattle.std.proofs.Common.{◌≡◌, ◌⊎◌, ℕ, zero, suc, ◌≤◌, ◌<◌, ◌^◌, List, [], ◌++◌, inl, inr, refl, sym, ap, ap₂, ◌∙◌, subst, arith}
use Rattle.yasna_base.specs.Bits.{bits_segmentation, bits_tag}
use Rattle.yasna_base.specs.Boolean.{boolean_tag}
use Rattle.yasna_base.specs.Element.{Element}
use Rattle.yasna_base.specs.Identifier.{end_tag, BeginsWithTag, StartsElement, AtEnd, nothing}
use Rattle.yasna_base.specs.Octets.{IsOctets, octets_segmentation}
use Rattle.yasna_base.specs.Pieces.{Each, Pieces}
use Rattle.yasna_base.specs.Set.{SetPart, set_tag}
use Rattle.yasna_base.specs.declared.mode.BERMode.{BERMode}
use Rattle.yasna_base.specs.declared.tag.PCBit.TheVariants.{Primitive, Constructed}
use Rattle.yasna_base.specs.declared.tag.Tag.{Tag}
use Rattle.yasna_base.proofs.Bits.{bits_once}
use Rattle.yasna_base.proofs.Boolean.{bool_coding}
use Rattle.yasna_base.proofs.Element.{element_begins, element_exact, primitive_exact}
use Rattle.yasna_base.proofs.Identifier.{begins_once, begins_with, not_end}
use Rattle.yasna_base.proofs.Octets.{octets_once}
use Rattle.yasna_base.proofs.Pieces.{no_prefix_at_end, pieces_once, pieces_end, each_same, each_equal}
use Rattle.yasna_base.proofs.Segmented.{segmented_begins, segmented_exact}
use Rattle.asn1_contents.specs.Contents.{HasContents}
use Rattle.asn1_contents.specs.ContentsType.{type_with}
use Rattle.asn1_contents.proofs.Contents.{contents_one}
use Rattle.asn1der_convert.specs.ContentsClass.{IsOfClass}
use Rattle.asn1der_convert.specs.SetOrder.{IsOrderKnown}
use Rattle.asn1der_convert.specs.Tags.{IsStringTag, IsOtherTag}
use Rattle.asn1der_convert.specs.Tree.{Branch, boolean, bits, string, primitive, set_of, constructed, Tree, branch_tag, tree_parts, HasBranch, HasTree}
use Rattle.asn1der_convert.specs.declared.contents_class.ContentsClass.{ContentsClass}
use Rattle.asn1der_convert.specs.declared.contents_class.ContentsClass.TheVariants.{EndOfContents, Boolean, Bits, Octets, Other}
use Rattle.asn1der_convert.proofs.Encodings.{string_small}

-- a string's tag isn't 0, 1, 3 or 17
string_is_not : (t : Tag) (k : ℕ) → IsStringTag t → (k < 4) ⊎ (k ≡ 17) → t.tag_number ≡ k → ⊥
string_is_not t k h (inl below) e = omega (arith, (string_small t h).0, e, below)
string_is_not t k h (inr is) e = go t.tag_number h.number (e ∙ is)
  where
    go : (j : ℕ) → (j ≡ 4) ⊎ (j ≡ 7) ⊎ (j ≡ 12) ⊎ ((18 ≤ j) × (j ≤ 28)) ⊎ (j ≡ 30) → j ≡ 17 → ⊥
    go j (inl f) g = omega (arith, f, g)
    go j (inr (inl f)) g = omega (arith, f, g)
    go j (inr (inr (inl f))) g = omega (arith, f, g)
    go j (inr (inr (inr (inl f)))) g = omega (arith, f.0, g)
    go j (inr (inr (inr (inr f)))) g = omega (arith, f, g)

number_of : (t u : Tag) → t ≡ u → t.tag_number ≡ u.tag_number
number_of t u e = ap (λ (z : Tag). z.tag_number) e

-- the tag of a SET is that of another type
pub set_other : IsOtherTag set_tag
set_other = record {
  not_end = not_end 17 (λ e. omega arith);
  not_boolean = λ e. omega (arith, number_of set_tag boolean_tag e);
  not_bits = λ e. omega (arith, number_of set_tag bits_tag e);
  not_string = λ h. string_is_not set_tag 17 h (inr refl) refl;
}

-- a tag is of one kind
pub kinds_once : (k l : ContentsClass) (t : Tag) → IsOfClass k t → IsOfClass l t → k ≡ l
kinds_once EndOfContents EndOfContents t h i = refl
kinds_once EndOfContents Boolean t h i = absurd (omega (arith, number_of end_tag boolean_tag (sym h ∙ i)))
kinds_once EndOfContents Bits t h i = absurd (omega (arith, number_of end_tag bits_tag (sym h ∙ i)))
kinds_once EndOfContents Octets t h i = absurd (string_is_not t 0 i (inl (omega arith)) (number_of t end_tag h))
kinds_once EndOfContents Other t h i = absurd (i.not_end h)
kinds_once Boolean EndOfContents t h i = absurd (omega (arith, number_of end_tag boolean_tag (sym i ∙ h)))
kinds_once Boolean Boolean t h i = refl
kinds_once Boolean Bits t h i = absurd (omega (arith, number_of boolean_tag bits_tag (sym h ∙ i)))
kinds_once Boolean Octets t h i = absurd (string_is_not t 1 i (inl (omega arith)) (number_of t boolean_tag h))
kinds_once Boolean Other t h i = absurd (i.not_boolean h)
kinds_once Bits EndOfContents t h i = absurd (omega (arith, number_of end_tag bits_tag (sym i ∙ h)))
kinds_once Bits Boolean t h i = absurd (omega (arith, number_of boolean_tag bits_tag (sym i ∙ h)))
kinds_once Bits Bits t h i = refl
kinds_once Bits Octets t h i = absurd (string_is_not t 3 i (inl (omega arith)) (number_of t bits_tag h))
kinds_once Bits Other t h i = absurd (i.not_bits h)
kinds_once Octets EndOfContents t h i = absurd (string_is_not t 0 h (inl (omega arith)) (number_of t end_tag i))
kinds_once Octets Boolean t h i = absurd (string_is_not t 1 h (inl (omega arith)) (number_of t boolean_tag i))
kinds_once Octets Bits t h i = absurd (string_is_not t 3 h (inl (omega arith)) (number_of t bits_tag i))
kinds_once Octets Octets t h i = refl
kinds_once Octets Other t h i = absurd (i.not_string h)
kinds_once Other EndOfContents t h i = absurd (h.not_end i)
kinds_once Other Boolean t h i = absurd (h.not_boolean i)
kinds_once Other Bits t h i = absurd (h.not_bits i)
kinds_once Other Octets t h i = absurd (h.not_string i)
kinds_once Other Other t h i = refl

-- the kind of an element
abbrev pub branch_class : {A : Type 0} → Branch A → ContentsClass
branch_class (boolean v) = Boolean
branch_class (bits v) = Bits
branch_class (string t v) = Octets
branch_class (primitive t c) = Other
branch_class (set_of vs) = Other
branch_class (constructed t vs) = Other

module _ {A : Type 0} (R : A → List ℕ → Type 0) (parts : List A → List SetPart) (n : ℕ) (m : BERMode) where
  -- it is that of its tag
  pub branch_is_of_class : (v : Branch A) (b : List ℕ) → HasBranch R parts n m v b → IsOfClass (branch_class v) (branch_tag v)
  branch_is_of_class (boolean v) b x = refl
  branch_is_of_class (bits v) b x = refl
  branch_is_of_class (string t v) b x = x.0
  branch_is_of_class (primitive t c) b x = x.0.other
  branch_is_of_class (set_of vs) b x = set_other
  branch_is_of_class (constructed t vs) b x = x.0.other

  -- it begins with its tag
  pub branch_begins : (v : Branch A) (b : List ℕ) → HasBranch R parts n m v b → BeginsWithTag (branch_tag v) b
  branch_begins (boolean v) b x = element_begins m boolean_tag Primitive x.contents b x.element
  branch_begins (bits v) b x = segmented_begins bits_segmentation n m bits_tag v b x
  branch_begins (string t v) b x = segmented_begins octets_segmentation n m t x.1.octets b x.1.string
  branch_begins (primitive t c) b x = element_begins m t Primitive x.1.contents b x.1.element
  branch_begins (set_of vs) b x = element_begins m set_tag Constructed x.contents b x.element
  branch_begins (constructed t vs) b x = element_begins m t Constructed x.1.contents b x.1.element

  module _ (exact : (v w : A) (b c r s : List ℕ) → R v b → R w c → b ++ r ≡ c ++ s → (v ≡ w) × (b ≡ c))
      (starts : (v : A) (b : List ℕ) → R v b → StartsElement b) where
    prefix_free : (v w : A) (b c r s : List ℕ) → R v b → R w c → b ++ r ≡ c ++ s → b ≡ c
    prefix_free v w b c r s x y e = (exact v w b c r s x y e).1

    -- contents end but once
    pub members_end : (vs ws : List A) (c d x y : List ℕ) → Pieces R vs c → Pieces R ws d → AtEnd x → AtEnd y → c ++ x ≡ d ++ y → c ≡ d
    members_end = pieces_end prefix_free starts starts

    -- equal contents have equal trees
    members_exact : (vs ws : List A) (c : List ℕ) → Pieces R vs c → Pieces R ws c → vs ≡ ws
    members_exact vs ws c p q =
        let none = no_prefix_at_end starts [] (nothing refl) in
        let same = (pieces_once prefix_free vs ws c c [] [] p q none none refl).0 in
        each_equal vs ws
        (each_same (λ v w b x y. (exact v w b b [] [] x y refl).0) vs ws q.pieces (subst (λ bs. Each R vs bs) same p.each) q.each)

    -- elements around equal contents have equal tags and trees
    record SameAround (t u : Tag) (vs ws : List A) (b c : List ℕ) : Type 0 where
      tags : t ≡ u
      trees : vs ≡ ws
      bytes : b ≡ c

    around_exact : (t u : Tag) (vs ws : List A) (c d b e r s : List ℕ) → Element m t Constructed c b → Element m u Constructed d e →
        Pieces R vs c → Pieces R ws d →
        b ++ r ≡ e ++ s → SameAround t u vs ws b e
    around_exact t u vs ws c d b e r s x y p q f =
        let i = element_exact m m t u Constructed Constructed c d b e r s x y (λ z w j k g. members_end vs ws c d z w p q j k g) f in
        record { tags = i.tag; trees = members_exact vs ws d (subst (λ z. Pieces R vs z) i.contents p) q; bytes = i.bytes }

    -- equal contents of elements with equal tags are equal in DER
    same_contents : (t u : Tag) (v w c d : List ℕ) → t ≡ u → c ≡ d → HasContents (type_with t) m v c → HasContents (type_with u) m w d → v ≡ w
    same_contents t u v w c d f g x y =
        let one = subst (λ z. HasContents (type_with z) m v c) f x in
        contents_one (type_with u) m d v w (subst (λ z. HasContents (type_with u) m v z) g one) y

    by_kind : (v w : Branch A) (b c r s : List ℕ) → HasBranch R parts n m v b → HasBranch R parts n m w c → b ++ r ≡ c ++ s → branch_tag v ≡ branch_tag w →
        branch_class v ≡ branch_class w → (v ≡ w) × (b ≡ c)
    by_kind (boolean v) (boolean w) b c r s x y e t k =
        let same = bool_coding.prefix_free m n n b c r s (v, x) (w, y) e in
        (ap boolean (bool_coding.meaning.exact m n n v w c (subst (λ z. HasBranch R parts n m (boolean v) z) same x) y), same)
    by_kind (boolean v) w b c r s x y e t k = absurd (cc)
    by_kind (bits v) (bits w) b c r s x y e t k = let i = segmented_exact bits_once n n m bits_tag v w b c r s x y e in (ap bits i.0, i.1)
    by_kind (bits v) w b c r s x y e t k = absurd (cc)
    by_kind (string t v) (string u w) b c r s x y e f k =
        let p = x.1 in
        let q = y.1 in
        let i = segmented_exact octets_once n n m u p.octets q.octets b c r s (subst (λ z. IsOctets z m n p.octets b) f p.string) q.string e in
        (ap₂ (λ z a. string z a) f (same_contents t u v w p.octets q.octets f i.0 p.meaning q.meaning), i.1)
    by_kind (string t v) w b c r s x y e f k = absurd (cc)
    by_kind (primitive t c) (primitive u d) b a r s x y e f k =
        let p = x.1 in
        let q = y.1 in
        let i = primitive_exact m m t u Primitive p.contents q.contents b a r s p.element q.element e in
        (ap₂ (λ z a. primitive z a) i.tag (same_contents t u c d p.contents q.contents i.tag i.contents p.meaning q.meaning), i.bytes)
    by_kind (primitive t c) (set_of ws) b a r s x y e f k =
        let i = (primitive_exact m m t set_tag Constructed x.1.contents y.contents b a r s x.1.element y.element e).bit in absurd (cc)
    by_kind (primitive t c) (constructed u ws) b a r s x y e f k =
        let i = (primitive_exact m m t u Constructed x.1.contents y.1.contents b a r s x.1.element y.1.element e).bit in absurd (cc)
    by_kind (primitive t c) w b a r s x y e f k = absurd (cc)
    by_kind (set_of vs) (set_of ws) b c r s x y e f k =
        let i = around_exact set_tag set_tag vs ws x.contents y.contents b c r s x.element y.element x.inner.elements y.inner.elements e in
        (ap set_of i.trees, i.bytes)
    by_kind (set_of vs) (primitive u d) b c r s x y e f k =
        let i = (primitive_exact m m u set_tag Constructed y.1.contents x.contents c b s r y.1.element x.element (sym e)).bit in absurd (cc)
    by_kind (set_of vs) (constructed u ws) b c r s x y e f k =
        let i = around_exact set_tag u vs ws x.contents y.1.contents b c r s x.element y.1.element x.inner.elements y.1.inner.elements e in
        absurd (y.1.inner.other (sym f) (subst (λ us. IsOrderKnown (parts us)) i.trees x.inner.known))
    by_kind (set_of vs) w b c r s x y e f k = absurd (cc)
    by_kind (constructed t vs) (constructed u ws) b c r s x y e f k =
        let i = around_exact t u vs ws x.1.contents y.1.contents b c r s x.1.element y.1.element x.1.inner.elements y.1.inner.elements e in
        (ap₂ (λ z us. constructed z us) i.tags i.trees, i.bytes)
    by_kind (constructed t vs) (primitive u d) b c r s x y e f k =
        let i = (primitive_exact m m u t Constructed y.1.contents x.1.contents c b s r y.1.element x.1.element (sym e)).bit in absurd (cc)
    by_kind (constructed t vs) (set_of ws) b c r s x y e f k =
        let i = around_exact t set_tag vs ws x.1.contents y.contents b c r s x.1.element y.element x.1.inner.elements y.inner.elements e in
        absurd (x.1.inner.other f (subst (λ us. IsOrderKnown (parts us)) (sym i.trees) y.inner.known))
    by_kind (constructed t vs) w b c r s x y e f k = absurd (cc)

    pub branch_exact : (v w : Branch A) (b c r s : List ℕ) → HasBranch R parts n m v b → HasBranch R parts n m w c → b ++ r ≡ c ++ s → (v ≡ w) × (b ≡ c)
    branch_exact v w b c r s x y e =
        let i = begins_with (branch_tag v) b r (branch_begins v b x) in
        let j = begins_with (branch_tag w) c s (branch_begins w c y) in
        let tags = begins_once (branch_tag v) (branch_tag w) (c ++ s) (subst (λ z. BeginsWithTag (branch_tag v) z) e i) j in
        let kinds = kinds_once (branch_class v) (branch_class w) (branch_tag w) (subst (λ t. IsOfClass (branch_class v) t) tags (branch_is_of_class v b x))
        (branch_is_of_class w c y) in
        by_kind v w b c r s x y e tags kinds

  kind_not_end : (v : Branch A) (t : Tag) → IsOfClass (branch_class v) t → t ≡ end_tag → ⊥
  kind_not_end (boolean v) t h e = absurd (omega (arith, number_of boolean_tag end_tag (sym h ∙ e)))
  kind_not_end (bits v) t h e = absurd (omega (arith, number_of bits_tag end_tag (sym h ∙ e)))
  kind_not_end (string u v) t h e = string_is_not t 0 h (inl (omega arith)) (number_of t end_tag e)
  kind_not_end (primitive u c) t h e = h.not_end e
  kind_not_end (set_of vs) t h e = h.not_end e
  kind_not_end (constructed u vs) t h e = h.not_end e

  -- the tag isn't that of the end of contents
  pub branch_not_end : (v : Branch A) (b : List ℕ) → HasBranch R parts n m v b → branch_tag v ≡ end_tag → ⊥
  branch_not_end v b x = kind_not_end v (branch_tag v) (branch_is_of_class v b x)

  pub branch_small : (v : Branch A) (b : List ℕ) → HasBranch R parts n m v b → (branch_tag v).tag_number < 2 ^ 64
  branch_small (boolean v) b x = omega arith
  branch_small (bits v) b x = omega arith
  branch_small (string t v) b x = (string_small t x.0).1
  branch_small (primitive t c) b x = x.1.element.in_range
  branch_small (set_of vs) b x = omega arith
  branch_small (constructed t vs) b x = x.1.element.in_range

  -- it begins an element
  pub branch_starts : (v : Branch A) (b : List ℕ) → HasBranch R parts n m v b → StartsElement b
  branch_starts v b x = record { tag = branch_tag v; in_range = branch_small v b x; not_end = branch_not_end v b x; begins = branch_begins v b x }

-- what has a tree begins an element
pub tree_starts : (n : ℕ) (m : BERMode) (v : Tree n) (b : List ℕ) → HasTree n m v b → StartsElement b
unfolding Tree HasTree
tree_starts zero m v b x = absurd x
tree_starts (suc n) m v b x = branch_starts (HasTree n m) (tree_parts n) (suc n) m v b x

-- bytes have one tree, and no element begins another
pub tree_exact : (n : ℕ) (m : BERMode) (v w : Tree n) (b c r s : List ℕ) → HasTree n m v b → HasTree n m w c → b ++ r ≡ c ++ s → (v ≡ w) × (b ≡ c)
unfolding Tree HasTree
tree_exact zero m v w b c r s x y e = absurd x
tree_exact (suc n) m v w b c r s x y e =
    branch_exact (HasTree n m) (tree_parts n) (suc n) m (tree_exact n m) (tree_starts n m) v w b c r s x y e

-- contents have one list of trees
pub trees_exact : (n : ℕ) (m : BERMode) (vs ws : List (Tree n)) (c : List ℕ) → Pieces (HasTree n m) vs c → Pieces (HasTree n m) ws c → vs ≡ ws
trees_exact n m = members_exact (HasTree n m) (tree_parts n) n m (tree_exact n m) (tree_starts n m)

-- contents up to their end have one list of trees, and one end
pub trees_end : (n : ℕ) (m : BERMode) (vs ws : List (Tree n)) (c d x y : List ℕ) → Pieces (HasTree n m) vs c → Pieces (HasTree n m) ws d → AtEnd x → AtEnd y →
    c ++ x ≡ d ++ y → vs ≡ ws
trees_end n m vs ws c d x y p q i j e =
    let same = members_end (HasTree n m) (tree_parts n) n m (tree_exact n m) (tree_starts n m) vs ws c d x y p q i j e in
    trees_exact n m vs ws d (subst (λ z. Pieces (HasTree n m) vs z) same p) q
