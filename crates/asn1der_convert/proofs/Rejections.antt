-- Where no element is there.
use Rattle.std.proofs.Common.{◌≡◌, ◌⊎◌, inl, inr, ℕ, zero, suc, ◌-◌, ◌^◌, ◌<◌, ◌≤◌, List, [], ◌∷◌, ◌++◌, length, refl, sym, ap, ◌∙◌, subst, append-nil, append_assoc, length-append, arith}
use Rattle.std.specs.List.{concat}
use Rattle.yasna_base.specs.Bits.{IsBits, bits_tag}
use Rattle.yasna_base.specs.Boolean.{IsBoolean, boolean_tag}
use Rattle.yasna_base.specs.Element.{Element, Primitively}
use Rattle.yasna_base.specs.Header.{ContentsEnd, definite_end, OpensAt, EndsBefore}
use Rattle.yasna_base.specs.Identifier.{identifier, end_tag, BeginsWithTag, begins}
use Rattle.yasna_base.specs.Octets.{IsOctets}
use Rattle.yasna_base.specs.Pieces.{Each}
use Rattle.yasna_base.specs.Set.{SetPart, set_tag}
use Rattle.yasna_base.specs.declared.error.ASN1ErrorKind.{ASN1ErrorKind}
use Rattle.yasna_base.specs.declared.mode.BERMode.{BERMode}
use Rattle.yasna_base.specs.declared.mode.BERMode.TheVariants.{Ber}
use Rattle.yasna_base.specs.declared.tag.PCBit.{PCBit}
use Rattle.yasna_base.specs.declared.tag.PCBit.TheVariants.{Primitive, Constructed}
use Rattle.yasna_base.specs.declared.tag.Tag.{Tag}
use Rattle.yasna_base.proofs.Header.{opens_begins, header_of, end_after}
use Rattle.yasna_base.proofs.Identifier.{identifier_exact, begins_once, begins_some, begins_with}
use Rattle.yasna_base.proofs.Octets.{octets_once}
use Rattle.yasna_base.proofs.Pieces.{no_prefix_at_end, pieces_further}
use Rattle.yasna_base.proofs.Segmented.{segmented_exact}
use Rattle.yasna_bytes.specs.Prefix.{Takes, HasPrefix}
use Rattle.yasna_bytes.specs.Header.{Holds, NotHeld, no_level, no_contents, NoEnd}
use Rattle.yasna_bytes.proofs.Header.{element_there}
use Rattle.asn1_contents.specs.Contents.{HasContents}
use Rattle.asn1_contents.specs.ContentsType.{type_with}
use Rattle.asn1der_convert.specs.Conversion.{Converts}
use Rattle.asn1der_convert.specs.ContentsClass.{IsOfClass}
use Rattle.asn1der_convert.specs.Parts.{NoTreeAt, NoTreesTo}
use Rattle.asn1der_convert.specs.Tags.{IsStringTag, IsOtherTag, IsPrimitiveTag, IsConstructedTag}
use Rattle.asn1der_convert.specs.Tree.{Branch, boolean, bits, string, primitive, set_of, constructed, Tree, branch_tag, tree_parts, HasBranch, HasTree}
use Rattle.asn1der_convert.specs.declared.contents_class.ContentsClass.{ContentsClass}
use Rattle.asn1der_convert.specs.declared.contents_class.ContentsClass.TheVariants.{Boolean, Bits, Octets, Other}
use Rattle.asn1der_convert.proofs.Exact.{branch_class, branch_is_of_class, branch_begins, kinds_once, tree_starts, tree_exact}
use Rattle.asn1der_convert.proofs.Parts.{Reached}

-- a SET's encoding isn't primitive
set_not_primitive : IsPrimitiveTag set_tag → ⊥
set_not_primitive h = go set_tag.tag_number h.number refl
  where
    go : (k : ℕ) → (k ≡ 1) ⊎ (k ≡ 2) ⊎ (k ≡ 5) ⊎ (k ≡ 6) ⊎ (k ≡ 9) ⊎ (k ≡ 10) ⊎ (k ≡ 13) ⊎ (k ≡ 14) ⊎ ((31 ≤ k) × (k ≤ 36)) → k ≡ 17 → ⊥
    go k (inl e) f = omega (arith, e, f)
    go k (inr (inl e)) f = omega (arith, e, f)
    go k (inr (inr (inl e))) f = omega (arith, e, f)
    go k (inr (inr (inr (inl e)))) f = omega (arith, e, f)
    go k (inr (inr (inr (inr (inl e))))) f = omega (arith, e, f)
    go k (inr (inr (inr (inr (inr (inl e)))))) f = omega (arith, e, f)
    go k (inr (inr (inr (inr (inr (inr (inl e))))))) f = omega (arith, e, f)
    go k (inr (inr (inr (inr (inr (inr (inr (inl e)))))))) f = omega (arith, e, f)
    go k (inr (inr (inr (inr (inr (inr (inr (inr e)))))))) f = omega (arith, e.0, f)

-- what is seen of a tree that bytes have: one element around those a level further in
pub record Root (n : ℕ) (m : BERMode) (b : List ℕ) : Type 0 where
  pub k : ℕ
  pub level : suc k ≡ n
  pub branch : Branch (Tree k)
  pub has : HasBranch (HasTree k m) (tree_parts k) n m branch b

pub tree_root : (n : ℕ) (m : BERMode) (v : Tree n) (b : List ℕ) → HasTree n m v b → Root n m b
unfolding Tree HasTree
tree_root zero m v b x = absurd x
tree_root (suc k) m v b x = record { k = k; level = refl; branch = v; has = x }

pub root_tag : (n : ℕ) (m : BERMode) (t : Tag) (s b r : List ℕ) (x : Root n m b) → BeginsWithTag t s → s ≡ b ++ r → branch_tag x.branch ≡ t
root_tag n m t s b r x h e =
    let i = begins_with (branch_tag x.branch) b r (branch_begins (HasTree x.k m) (tree_parts x.k) n m x.branch b x.has) in
    begins_once (branch_tag x.branch) t s (subst (λ z. BeginsWithTag (branch_tag x.branch) z) (sym e) i) h

pub root_kind : (n : ℕ) (m : BERMode) (k : ContentsClass) (t : Tag) (s b r : List ℕ) (x : Root n m b) → IsOfClass k t → BeginsWithTag t s → s ≡ b ++ r →
    branch_class x.branch ≡ k
root_kind n m k t s b r x h i e =
    let is = branch_is_of_class (HasTree x.k m) (tree_parts x.k) n m x.branch b x.has in
    kinds_once (branch_class x.branch) k t (subst (λ u. IsOfClass (branch_class x.branch) u) (root_tag n m t s b r x i e) is) h

-- where no BOOLEAN is after its tag
pub no_boolean : (n : ℕ) (m : BERMode) (s : List ℕ) → BeginsWithTag boolean_tag s → (HasPrefix (Primitively IsBoolean boolean_tag m n) s → ⊥) → NoTreeAt n m s
no_boolean n m s h none v b r x e =
    let y = tree_root n m v b x in
    go y.k y.branch y.has (root_kind n m Boolean boolean_tag s b r y refl h e)
  where
    go : (k : ℕ) (w : Branch (Tree k)) → HasBranch (HasTree k m) (tree_parts k) n m w b → branch_class w ≡ Boolean → ⊥
    go k (boolean u) i f = none (u, r, record { prefix = b; joined = e; member = i })
    go k w i f = absurd (cc)

-- no BIT STRING
pub no_bits : (n : ℕ) (m : BERMode) (s : List ℕ) → BeginsWithTag bits_tag s → (HasPrefix (IsBits bits_tag m n) s → ⊥) → NoTreeAt n m s
no_bits n m s h none v b r x e =
    let y = tree_root n m v b x in
    go y.k y.branch y.has (root_kind n m Bits bits_tag s b r y refl h e)
  where
    go : (k : ℕ) (w : Branch (Tree k)) → HasBranch (HasTree k m) (tree_parts k) n m w b → branch_class w ≡ Bits → ⊥
    go k (bits u) i f = none (u, r, record { prefix = b; joined = e; member = i })
    go k w i f = absurd (cc)

-- no string of octets
pub no_string : (n : ℕ) (m : BERMode) (t : Tag) (s : List ℕ) → IsStringTag t → BeginsWithTag t s → (HasPrefix (IsOctets t m n) s → ⊥) → NoTreeAt n m s
no_string n m t s is h none v b r x e =
    let y = tree_root n m v b x in
    go y.k y.branch y.has (root_kind n m Octets t s b r y is h e) (root_tag n m t s b r y h e)
  where
    go : (k : ℕ) (w : Branch (Tree k)) → HasBranch (HasTree k m) (tree_parts k) n m w b → branch_class w ≡ Octets → branch_tag w ≡ t → ⊥
    go k (string u c) i f g = none (i.1.octets, r, record { prefix = b; joined = e; member = subst (λ z. IsOctets z m n i.1.octets b) g i.1.string })
    go k w i f g = absurd (cc)

-- none whose octets are contents of its type
pub no_string_contents : (n : ℕ) (m : BERMode) (t : Tag) (s o q : List ℕ) → IsStringTag t → BeginsWithTag t s → Takes (IsOctets t m n) s o q →
    ((d : List ℕ) → HasContents (type_with t) m d o → ⊥) → NoTreeAt n m s
no_string_contents n m t s o q is h taken none v b r x e =
    let y = tree_root n m v b x in
    go y.k y.branch y.has (root_kind n m Octets t s b r y is h e) (root_tag n m t s b r y h e)
  where
    go : (k : ℕ) (w : Branch (Tree k)) → HasBranch (HasTree k m) (tree_parts k) n m w b → branch_class w ≡ Octets → branch_tag w ≡ t → ⊥
    go k (string u c) i f g =
        let here = subst (λ z. IsOctets z m n i.1.octets b) g i.1.string in
        let same = (segmented_exact octets_once n n m t o i.1.octets taken.prefix b q r taken.member here (sym taken.joined ∙ e)).0 in
        none c (subst (λ z. HasContents (type_with t) m c z) (sym same) (subst (λ z. HasContents (type_with z) m c i.1.octets) g i.1.meaning))
    go k w i f g = absurd (cc)

-- no primitive element of another type whose contents are those of its type
pub no_primitive_contents : (n : ℕ) (m : BERMode) (t : Tag) (s c a : List ℕ) → IsOtherTag t → OpensAt m t Primitive s c (definite_end a) →
    ((d : List ℕ) → HasContents (type_with t) m d c → ⊥) → NoTreeAt n m s
no_primitive_contents n m t s c a is opens none v b r x e =
    let y = tree_root n m v b x in
    let h = opens_begins m t Primitive s c (definite_end a) opens in
    go y.k y.branch y.has (root_kind n m Other t s b r y is h e) (root_tag n m t s b r y h e)
  where
    go : (j : ℕ) (w : Branch (Tree j)) → HasBranch (HasTree j m) (tree_parts j) n m w b → branch_class w ≡ Other → branch_tag w ≡ t → ⊥
    go j (primitive u d) i f g =
        let p = i.1 in
        let h = header_of m t u Primitive Primitive s c p.contents b r (definite_end a) opens p.element e in
        let same : c ≡ p.contents = h.joined ∙ ap (λ z. p.contents ++ z) h.ends.0 ∙ append-nil p.contents in
        none d (subst (λ z. HasContents (type_with t) m d z) (sym same) (subst (λ z. HasContents (type_with z) m d p.contents) g p.meaning))
    go j (set_of vs) i f g = let h = (header_of m t set_tag Primitive Constructed s c i.contents b r (definite_end a) opens i.element e).bit in absurd (cc)
    go j (constructed u vs) i f g =
        let h = (header_of m t u Primitive Constructed s c i.1.contents b r (definite_end a) opens i.1.element e).bit in absurd (cc)
    go j w i f g = absurd (cc)

-- the element of another type that bytes are
record OtherElement (m : BERMode) (t : Tag) (b : List ℕ) : Type 0 where
  bit : PCBit
  contents : List ℕ
  element : Element m t bit contents b

other_element : {A : Type 0} (R : A → List ℕ → Type 0) (parts : List A → List SetPart) (n : ℕ) (m : BERMode) (w : Branch A) (b : List ℕ) → HasBranch R parts n m w b →
    branch_class w ≡ Other → OtherElement m (branch_tag w) b
other_element R parts n m (primitive t c) b x k = record { bit = Primitive; contents = x.1.contents; element = x.1.element }
other_element R parts n m (set_of vs) b x k = record { bit = Constructed; contents = x.contents; element = x.element }
other_element R parts n m (constructed t vs) b x k = record { bit = Constructed; contents = x.1.contents; element = x.1.element }
other_element R parts n m w b x k = absurd (cc)

-- no contents after the identifier of another type
pub no_header : (n : ℕ) (m : BERMode) (t : Tag) (bit : PCBit) (s y : List ℕ) → IsOtherTag t → s ≡ identifier t bit ++ y →
    ((c : List ℕ) (f : ContentsEnd) → Holds m bit y c f → ⊥) → NoTreeAt n m s
no_header n m t bit s y is j none v b r x e =
    let z = tree_root n m v b x in
    let k = root_kind n m Other t s b r z is (begins bit y j) e in
    let o = other_element (HasTree z.k m) (tree_parts z.k) n m z.branch b z.has k in
    let h = element_there m (branch_tag z.branch) o.bit o.contents b s r o.element e in
    let i = identifier_exact (branch_tag z.branch) t o.bit bit h.after y (sym h.joined ∙ j) in
    none h.contents h.end (subst (λ p. Holds m p y h.contents h.end) i.1 (subst (λ a. Holds m o.bit a h.contents h.end) i.2 h.holds))

-- no level is left
pub no_tree_zero : (n : ℕ) (m : BERMode) (s : List ℕ) → n ≡ 0 → NoTreeAt n m s
no_tree_zero n m s z v b r x e = let y = tree_root n m v b x in omega (arith, z, y.level)

-- one or the other
pub not_held : (n : ℕ) (m : BERMode) (t : Tag) (bit : PCBit) (s y : List ℕ) (k : ASN1ErrorKind) → IsOtherTag t → s ≡ identifier t bit ++ y →
    NotHeld m n bit y k → NoTreeAt n m s
not_held n m t bit s y k is j (no_level z e) = no_tree_zero n m s z
not_held n m t bit s y k is j (no_contents l b none) = no_header n m t bit s y is j none

-- no identifier
pub no_identifier : (n : ℕ) (m : BERMode) (s : List ℕ) →
    ((t : Tag) (bit : PCBit) (r : List ℕ) → t.tag_number < 2 ^ 64 → s ≡ identifier t bit ++ r → ⊥) → NoTreeAt n m s
no_identifier n m s none v b r x e =
    let y = tree_starts n m v b x in
    go y.tag y.in_range (begins_with y.tag b r y.begins)
  where
    go : (t : Tag) → t.tag_number < 2 ^ 64 → BeginsWithTag t (b ++ r) → ⊥
    go t small (begins p q f) = none t p q small (e ∙ f)

-- the end of contents
pub no_end : (n : ℕ) (m : BERMode) (t : Tag) (bit : PCBit) (s y : List ℕ) → t ≡ end_tag → s ≡ identifier t bit ++ y → NoTreeAt n m s
no_end n m t bit s y is j v b r x e =
    let z = tree_starts n m v b x in
    let i = subst (λ a. BeginsWithTag z.tag a) (sym e) (begins_with z.tag b r z.begins) in
    z.not_end (begins_once z.tag t s i (begins bit y j) ∙ is)

-- no contents of a constructed element of another type
pub no_constructed : (n k : ℕ) (m : BERMode) (t : Tag) (s d : List ℕ) (end : ContentsEnd) → suc k ≡ n → IsOtherTag t → OpensAt m t Constructed s d end →
    NoTreesTo k m d end → NoTreeAt n m s
no_constructed n k m t s d end level is opens none v b r x e =
    let y = tree_root n m v b x in
    go y.k y.branch y.has (omega (arith, level, y.level)) (root_kind n m Other t s b r y is (opens_begins m t Constructed s d end opens) e)
  where
    go : (j : ℕ) (w : Branch (Tree j)) → HasBranch (HasTree j m) (tree_parts j) n m w b → k ≡ j → branch_class w ≡ Other → ⊥
    go j (primitive u c) i l f = let h = (header_of m t u Constructed Primitive s d i.1.contents b r end opens i.1.element e).bit in absurd (cc)
    go j (set_of vs) i l f =
        let h = header_of m t set_tag Constructed Constructed s d i.contents b r end opens i.element e in
        subst (λ z. NoTreesTo z m d end) l none vs i.contents h.after r i.inner.elements h.joined h.ends
    go j (constructed u vs) i l f =
        let h = header_of m t u Constructed Constructed s d i.1.contents b r end opens i.1.element e in
        subst (λ z. NoTreesTo z m d end) l none vs i.1.contents h.after r i.1.inner.elements h.joined h.ends
    go j w i l f = absurd (cc)

-- no constructed element of a type whose encoding is primitive
pub no_primitive_type : (n : ℕ) (m : BERMode) (t : Tag) (s c : List ℕ) (end : ContentsEnd) → IsOtherTag t → IsPrimitiveTag t →
    OpensAt m t Constructed s c end → NoTreeAt n m s
no_primitive_type n m t s c end is always opens v b r x e =
    let y = tree_root n m v b x in
    let h = opens_begins m t Constructed s c end opens in
    go y.k y.branch y.has (root_kind n m Other t s b r y is h e) (root_tag n m t s b r y h e)
  where
    go : (j : ℕ) (w : Branch (Tree j)) → HasBranch (HasTree j m) (tree_parts j) n m w b → branch_class w ≡ Other → branch_tag w ≡ t → ⊥
    go j (primitive u d) i f g = let h = (header_of m t u Constructed Primitive s c i.1.contents b r end opens i.1.element e).bit in absurd (cc)
    go j (set_of vs) i f g = set_not_primitive (subst IsPrimitiveTag (sym g) always)
    go j (constructed u vs) i f g = i.0.not_primitive (subst IsPrimitiveTag (sym g) always)
    go j w i f g = absurd (cc)

-- no primitive element of a type whose encoding is constructed
pub no_constructed_type : (n : ℕ) (m : BERMode) (t : Tag) (s c : List ℕ) (end : ContentsEnd) → IsOtherTag t → IsConstructedTag t →
    OpensAt m t Primitive s c end → NoTreeAt n m s
no_constructed_type n m t s c end is always opens v b r x e =
    let y = tree_root n m v b x in
    let h = opens_begins m t Primitive s c end opens in
    go y.k y.branch y.has (root_kind n m Other t s b r y is h e) (root_tag n m t s b r y h e)
  where
    go : (j : ℕ) (w : Branch (Tree j)) → HasBranch (HasTree j m) (tree_parts j) n m w b → branch_class w ≡ Other → branch_tag w ≡ t → ⊥
    go j (primitive u d) i f g = i.0.not_constructed (subst IsConstructedTag (sym g) always)
    go j (set_of vs) i f g = let h = (header_of m t set_tag Primitive Constructed s c i.contents b r end opens i.element e).bit in absurd (cc)
    go j (constructed u vs) i f g = let h = (header_of m t u Primitive Constructed s c i.1.contents b r end opens i.1.element e).bit in absurd (cc)
    go j w i f g = absurd (cc)

-- contents neither end where the walk is, nor does an element are there
pub no_trees_from : (n : ℕ) (m : BERMode) (s y : List ℕ) (end : ContentsEnd) (ps : List SetPart) → Reached n m s ps y → NoEnd end y → NoTreeAt n m y →
    NoTreesTo n m s end
no_trees_from n m s y end ps x goes_on none vs prefix rest r p e ends =
    let stops = no_prefix_at_end (tree_starts n m) rest (end_after end rest r ends) in
    let f = pieces_further (tree_exact n m) x.parts.trees vs x.prefix prefix y rest x.parts.read p stops (sym x.joined ∙ e) in
    go f.values f.pieces.pieces f.pieces.each (f.joined ∙ ap (λ z. z ++ rest) f.pieces.joined)
  where
    go : (ws : List (Tree n)) (bs : List (List ℕ)) → Each (HasTree n m) ws bs → y ≡ concat bs ++ rest → ⊥
    go [] [] q j = goes_on r (subst (λ z. EndsBefore end z r) (sym j) ends)
    go [] (b ∷ bs) q j = absurd q
    go (w ∷ ws) [] q j = absurd q
    go (w ∷ ws) (b ∷ bs) q j = none w b (concat bs ++ rest) q.0 (j ∙ append_assoc b (concat bs) rest)

-- where no elements are an input, it isn't converted
pub no_conversion : (s : List ℕ) → NoTreesTo 101 Ber s (definite_end []) → (d : List ℕ) → Converts s d → ⊥
no_conversion s none d x = none x.trees s [] [] x.read (sym (append-nil s)) (refl, refl)

-- nor is an empty one
pub no_empty_conversion : (s : List ℕ) → length s ≡ 0 → (d : List ℕ) → Converts s d → ⊥
no_empty_conversion s n d x = go x.trees x.read.pieces x.read.each x.some (sym (ap length x.read.joined) ∙ n)
  where
    go : (vs : List (Tree 101)) (bs : List (List ℕ)) → Each (HasTree 101 Ber) vs bs → 1 ≤ length vs → length (concat bs) ≡ 0 → ⊥
    go [] bs q some j = omega (arith, some)
    go (v ∷ vs) [] q some j = absurd q
    go (v ∷ vs) (b ∷ bs) q some j =
        let y = tree_starts 101 Ber v b q.0 in
        omega (arith, begins_some y.tag b y.begins, j, length-append b (concat bs))

-- no constructed element is there, where its contents are read at their own place
pub no_constructed_at : (n k : ℕ) (m m' : BERMode) (t : Tag) (s d d' : List ℕ) (end end' : ContentsEnd) → m' ≡ m → 1 ≤ n → k ≡ n - 1 → d' ≡ d → end' ≡ end →
    IsOtherTag t → OpensAt m t Constructed s d end → NoTreesTo k m' d' end' → NoTreeAt n m s
no_constructed_at n k m m' t s d d' end end' f level less g h is opens none =
    let one = subst (λ z. NoTreesTo k z d' end') f none in
    let two = subst (λ z. NoTreesTo k m z end') g one in
    no_constructed n k m t s d end (omega (arith, level, less)) is opens (subst (λ z. NoTreesTo k m d z) h two)

pub no_trees_at : (n k : ℕ) (m o : BERMode) (s y : List ℕ) (end : ContentsEnd) (ps : List SetPart) → k ≡ n → o ≡ m → Reached n m s ps y → NoEnd end y →
    NoTreeAt k o y → NoTreesTo n m s end
no_trees_at n k m o s y end ps e f x goes_on none =
    no_trees_from n m s y end ps x goes_on (subst (λ z. NoTreeAt n z y) f (subst (λ z. NoTreeAt z o y) e none))

-- an identifier determines its tag
pub begins_of : (t u : Tag) (bit : PCBit) (s y : List ℕ) → s ≡ identifier t bit ++ y → t ≡ u → BeginsWithTag u s
begins_of t u bit s y e f = subst (λ z. BeginsWithTag z s) f (begins bit y e)
