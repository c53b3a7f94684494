-- Elements in DER that have trees are raw elements.
use Rattle.std.proofs.Common.{◌≡◌, ℕ, zero, suc, List, [], ◌∷◌, ap, arith}
use Rattle.yasna_base.specs.Bits.{bits_segmentation, bits_tag}
use Rattle.yasna_base.specs.Boolean.{boolean_tag}
use Rattle.yasna_base.specs.Element.{Element, Framed, definite, indefinite}
use Rattle.yasna_base.specs.Identifier.{end_tag}
use Rattle.yasna_base.specs.Octets.{octets_segmentation}
use Rattle.yasna_base.specs.Pieces.{Each, Pieces}
use Rattle.yasna_base.specs.Raw.{RawValue, DescendsInto, IsJoining, RawFramed, with_length, RawOver, IsRaw}
use Rattle.yasna_base.specs.Segmented.{Segmentation, Segmented, whole, in_segments}
use Rattle.yasna_base.specs.Set.{SetPart, set_tag}
use Rattle.yasna_base.specs.declared.mode.BERMode.TheVariants.{Der}
use Rattle.yasna_base.specs.declared.tag.PCBit.{PCBit}
use Rattle.yasna_base.specs.declared.tag.PCBit.TheVariants.{Primitive, Constructed}
use Rattle.yasna_base.specs.declared.tag.Tag.{Tag}
use Rattle.yasna_base.proofs.Identifier.{not_end}
use Rattle.yasna_base.proofs.Raw.{raw_of}
use Rattle.yasna_base.proofs.Segmented.{segmented_into}
use Rattle.asn1der_convert.specs.Tree.{Branch, boolean, bits, string, primitive, set_of, constructed, Tree, tree_parts, IsAround, HasBranch, HasTree}
use Rattle.asn1der_convert.proofs.Encodings.{string_small}

module _ (S : RawValue → List ℕ → Type 0) where
  framed_raw : (t : Tag) (bit : PCBit) (c b : List ℕ) → Framed Der t bit c b → (DescendsInto Der bit → IsJoining S c) →
      RawFramed S Der (record { tag = t; bit = bit; payload = c }) b
  framed_raw t bit c b (definite d) inner = with_length d inner
  framed_raw t bit c b (indefinite d) inner = absurd (d.taken)

  element_raw : (t : Tag) (bit : PCBit) (c b : List ℕ) → (t ≡ end_tag → ⊥) → Element Der t bit c b → (DescendsInto Der bit → IsJoining S c) →
      (r : RawValue) × RawOver S Der r b
  element_raw t bit c b ne x inner = (
    record { tag = t; bit = bit; payload = c },
    record { not_end = ne; in_range = x.in_range; in_bytes = x.in_bytes; framed = framed_raw t bit c b x.framed inner },
  )

  segmented_raw : {A : Type 0} (k : Segmentation A) (Q : A → List ℕ → Type 0) (t : Tag) (v : A) (b : List ℕ) → (t ≡ end_tag → ⊥) →
      Segmented k Q Der t v b → (r : RawValue) × RawOver S Der r b
  segmented_raw k Q t v b ne (whole c x p a) = element_raw t Primitive c b ne x (λ l. absurd l)
  segmented_raw k Q t v b ne (in_segments s c vs x p j a) = absurd s

  each_raw : {A : Type 0} (R : A → List ℕ → Type 0) → ((w : A) (c : List ℕ) → R w c → (r : RawValue) × S r c) → (vs : List A) (bs : List (List ℕ)) →
      Each R vs bs → (rs : List RawValue) × Each S rs bs
  each_raw R f [] [] p = ([], tt)
  each_raw R f [] (b ∷ bs) p = absurd p
  each_raw R f (v ∷ vs) [] p = absurd p
  each_raw R f (v ∷ vs) (b ∷ bs) p =
      let x = f v b p.0 in
      let xs = each_raw R f vs bs p.1 in
      (x.0 ∷ xs.0, (x.1, xs.1))

  -- what represents trees is raw elements, one after the other, where what represents one is one
  pub pieces_raw : {A : Type 0} (R : A → List ℕ → Type 0) → ((w : A) (c : List ℕ) → R w c → (r : RawValue) × S r c) → (vs : List A) (c : List ℕ) →
      Pieces R vs c → IsJoining S c
  pieces_raw R f vs c p =
      let xs = each_raw R f vs p.pieces p.each in
      (xs.0, record { pieces = p.pieces; each = xs.1; joined = p.joined })

  around_raw : (C : List ℕ → Type 0) (t : Tag) (b : List ℕ) → (t ≡ end_tag → ⊥) → IsAround C Der t b → ((c : List ℕ) → C c → IsJoining S c) →
      (r : RawValue) × RawOver S Der r b
  around_raw C t b ne x g = element_raw t Constructed x.contents b ne x.element (λ l. g x.contents x.inner)

  branch_raw : {A : Type 0} (R : A → List ℕ → Type 0) (parts : List A → List SetPart) → ((w : A) (c : List ℕ) → R w c → (r : RawValue) × S r c) → (n : ℕ) (v : Branch A)
      (b : List ℕ) → HasBranch R parts (suc n) Der v b → (r : RawValue) × RawOver S Der r b
  branch_raw R parts f n (boolean v) b x = element_raw boolean_tag Primitive x.contents b (not_end 1 (λ e. omega arith)) x.element (λ l. absurd l)
  branch_raw R parts f n (bits v) b x =
      segmented_raw bits_segmentation _ bits_tag v b (not_end 3 (λ e. omega arith)) (segmented_into bits_segmentation n Der bits_tag v b x)
  branch_raw R parts f n (string t v) b x =
      segmented_raw octets_segmentation _ t x.1.octets b (λ e. omega (arith, (string_small t x.0).0, ap (λ (u : Tag). u.tag_number) e))
      (segmented_into octets_segmentation n Der t x.1.octets b x.1.string)
  branch_raw R parts f n (primitive t c) b x = element_raw t Primitive x.1.contents b x.0.other.not_end x.1.element (λ l. absurd l)
  branch_raw R parts f n (set_of vs) b x = around_raw _ set_tag b (not_end 17 (λ e. omega arith)) x (λ c y. pieces_raw R f vs c y.elements)
  branch_raw R parts f n (constructed t vs) b x = around_raw _ t b x.0.other.not_end x.1 (λ c y. pieces_raw R f vs c y.elements)

-- an element in DER that has a tree is a raw element
pub tree_raw : (n : ℕ) (v : Tree n) (b : List ℕ) → HasTree n Der v b → (r : RawValue) × IsRaw Der n r b
unfolding Tree HasTree
tree_raw zero v b x = absurd x
tree_raw (suc n) v b x =
    let y = branch_raw (IsRaw Der n) (HasTree n Der) (tree_parts n) (tree_raw n) n v b x in
    (y.0, raw_of n Der y.0 b y.1)
