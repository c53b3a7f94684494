-- The encoding of a tree in DER is an element in DER, whose tree says the same and has the same encoding.
use Rattle.std.proofs.Common.{◌≡◌, ◌⊎◌, ℕ, zero, suc, ◌^◌, ◌<◌, ◌≤◌, Bool, List, [], ◌∷◌, length, map, inl, inr, refl, sym, ap, ap₂, ◌∙◌, subst, length-append, arith}
use Rattle.std.specs.List.{AllByRecursion, concat}
use Rattle.yasna_base.specs.Bits.{BitString, CanBits, bits_tag, bits_encoding, cleared}
use Rattle.yasna_base.specs.Canonical.{HoldsEncoding, canonical_element}
use Rattle.yasna_base.specs.Digits.{IsBytes}
use Rattle.yasna_base.specs.Order.{octets_cmp, in_order}
use Rattle.yasna_base.specs.Pieces.{Each}
use Rattle.yasna_base.specs.Set.{set_tag}
use Rattle.yasna_base.specs.declared.mode.BERMode.{BERMode}
use Rattle.yasna_base.specs.declared.mode.BERMode.TheVariants.{Ber, Der}
use Rattle.yasna_base.specs.declared.tag.PCBit.TheVariants.{Primitive, Constructed}
use Rattle.yasna_base.specs.declared.tag.Tag.{Tag}
use Rattle.yasna_base.proofs.BitEncoding.{bits_has}
use Rattle.yasna_base.proofs.Bits.{bits_can, cleared_canonical, cleared_contents}
use Rattle.yasna_base.proofs.Boolean.{bool_written}
use Rattle.yasna_base.proofs.Canonical.{short_contents, canonical_element_is, canonical_element_bytes}
use Rattle.yasna_base.proofs.Digits.{bytes_append}
use Rattle.yasna_base.proofs.Octets.{octets_written}
use Rattle.yasna_base.proofs.Order.{in_order_map, all_permuted}
use Rattle.yasna_base.proofs.SetOfWriting.{in_order_permuted, octets_in_order, octets_ordered}
use Rattle.asn1_contents.specs.ContentsType.{type_with}
use Rattle.asn1_contents.proofs.Contents.{contents_again, contents_bytes}
use Rattle.asn1der_convert.specs.SetOrder.{keyed_parts, IsOrderKnown}
use Rattle.asn1der_convert.specs.Tags.{IsStringTag}
use Rattle.asn1der_convert.specs.Tree.{Branch, boolean, bits, string, primitive, set_of, constructed, Tree, branch_tag, tree_tag, HasBranch, HasTree, branch_encoding, der_encoding, SameBranch, SameTree}
use Rattle.asn1der_convert.proofs.SetOrder.{same_parts, known_again}

-- a string's tag has a small number
pub string_small : (t : Tag) → IsStringTag t → (4 ≤ t.tag_number) × (t.tag_number < 2 ^ 64)
string_small t h = go t.tag_number h.number
  where
    go : (k : ℕ) → (k ≡ 4) ⊎ (k ≡ 7) ⊎ (k ≡ 12) ⊎ ((18 ≤ k) × (k ≤ 28)) ⊎ (k ≡ 30) → (4 ≤ k) × (k < 2 ^ 64)
    go k (inl e) = (omega (arith, e), omega (arith, e))
    go k (inr (inl e)) = (omega (arith, e), omega (arith, e))
    go k (inr (inr (inl e))) = (omega (arith, e), omega (arith, e))
    go k (inr (inr (inr (inl e)))) = (omega (arith, e.0), omega (arith, e.1))
    go k (inr (inr (inr (inr e)))) = (omega (arith, e), omega (arith, e))

module _ {A : Type 0} (R : BERMode → A → List ℕ → Type 0) (E : A → A → Type 0) (f : A → List ℕ) (mark : A → Tag) where
  -- the encoding of v is an element in DER and so in BER, whose tree says the same as v and has the same encoding
  pub record CanonicalOne (v : A) : Type 0 where
    pub tree : A
    pub read : (o : BERMode) → HoldsEncoding Der o → R o tree (f v)
    pub same : E v tree
    pub encoding : f tree ≡ f v
    pub tag : mark tree ≡ mark v
    pub in_bytes : IsBytes (f v)

  -- where it isn't too long
  abbrev pub HasCanonical : A → Type 0
  HasCanonical v = length (f v) < 2 ^ 64 → CanonicalOne v

  -- `HasCanonical` of each of several
  pub record CanonicalEach (vs : List A) : Type 0 where
    pub trees : List A
    pub read : (o : BERMode) → HoldsEncoding Der o → Each (R o) trees (map f vs)
    pub same : Each E vs trees
    pub encoding : map f trees ≡ map f vs
    pub tags : map mark trees ≡ map mark vs
    pub in_bytes : IsBytes (concat (map f vs))

  pub canonical_each : (vs : List A) → AllByRecursion HasCanonical vs → length (concat (map f vs)) < 2 ^ 64 → CanonicalEach vs
  canonical_each [] all short = record { trees = []; read = λ o h. tt; same = tt; encoding = refl; tags = refl; in_bytes = tt }
  canonical_each (v ∷ vs) all short =
      let n = length-append (f v) (concat (map f vs)) in
      let x = all.0 (omega (arith, n, short)) in
      let xs = canonical_each vs all.1 (omega (arith, n, short)) in
      record {
        trees = x.tree ∷ xs.trees;
        read = λ o h. (x.read o h, xs.read o h);
        same = (x.same, xs.same);
        encoding = ap₂ (λ b bs. b ∷ bs) x.encoding xs.encoding;
        tags = ap₂ (λ t ts. t ∷ ts) x.tag xs.tags;
        in_bytes = bytes_append (f v) (concat (map f vs)) x.in_bytes xs.in_bytes;
      }

  -- what was read in BER has such encodings
  pub all_canonical : ((v : A) (b : List ℕ) → R Ber v b → HasCanonical v) → (vs : List A) (bs : List (List ℕ)) → Each (R Ber) vs bs →
      AllByRecursion HasCanonical vs
  all_canonical g [] [] p = tt
  all_canonical g [] (b ∷ bs) p = absurd p
  all_canonical g (v ∷ vs) [] p = absurd p
  all_canonical g (v ∷ vs) (b ∷ bs) p = (g v b p.0, all_canonical g vs bs p.1)

  -- `HasCanonical` of an element around such elements
  pub record CanonicalBranch (n : ℕ) (v : Branch A) : Type 0 where
    pub tree : Branch A
    pub read : (o : BERMode) → HoldsEncoding Der o → HasBranch (R o) (keyed_parts mark f) n o tree (branch_encoding f v)
    pub same : SameBranch E v tree
    pub encoding : branch_encoding f tree ≡ branch_encoding f v
    pub tag : branch_tag tree ≡ branch_tag v
    pub in_bytes : IsBytes (branch_encoding f v)

  boolean_canonical : (n : ℕ) (v : Bool) → 1 ≤ n → length (branch_encoding f (boolean v)) < 2 ^ 64 → CanonicalBranch n (boolean v)
  boolean_canonical n v level short = record {
    tree = boolean v;
    read = λ o h. bool_written.has.holds Der o n v h tt level short;
    same = refl;
    encoding = refl;
    tag = refl;
    in_bytes = bool_written.has.in_bytes Der v tt short;
  }

  bits_canonical : (n : ℕ) (v : BitString) → 1 ≤ n → CanBits v → length (branch_encoding f (bits v)) < 2 ^ 64 → CanonicalBranch n (bits v)
  bits_canonical n v level can short =
      let has = bits_has bits_tag (omega arith) in
      let canonical = cleared_canonical v can in
      let contents = cleared_contents v can in
      let e : bits_encoding bits_tag Der v ≡ bits_encoding bits_tag Der (cleared v) = ap (canonical_element Der bits_tag Primitive) contents in
      let short' : length (bits_encoding bits_tag Der (cleared v)) < 2 ^ 64 = subst (λ z. length z < 2 ^ 64) e short in
      record {
        tree = bits (cleared v);
        read = λ o h. subst (λ z. HasBranch (R o) (keyed_parts mark f) n o (bits (cleared v)) z) (sym e) (has.holds Der o n (cleared v) h canonical level short');
        same = contents;
        encoding = sym e;
        tag = refl;
        in_bytes = subst IsBytes (sym e) (has.in_bytes Der (cleared v) canonical short');
      }

  string_canonical : (n : ℕ) (t : Tag) (v b : List ℕ) → 1 ≤ n → HasBranch (R Ber) (keyed_parts mark f) n Ber (string t v) b → length (branch_encoding f (string t v)) < 2 ^ 64 →
      CanonicalBranch n (string t v)
  string_canonical n t v b level x short =
      let w = octets_written t ((string_small t x.0).1) in
      let y = x.1 in
      let can = contents_bytes (type_with t) Ber y.octets v (w.any n y.octets b y.string).0 y.meaning in
      record {
        tree = string t v;
        read = λ o h. (
          x.0,
          record {
            octets = v;
            string = w.has.holds Der o n v h can level short;
            meaning = contents_again (type_with t) Ber o y.octets v y.meaning;
          },
        );
        same = (refl, refl);
        encoding = refl;
        tag = refl;
        in_bytes = w.has.in_bytes Der v can short;
      }

  primitive_canonical : (n : ℕ) (t : Tag) (c b : List ℕ) → 1 ≤ n → HasBranch (R Ber) (keyed_parts mark f) n Ber (primitive t c) b →
      length (branch_encoding f (primitive t c)) < 2 ^ 64 → CanonicalBranch n (primitive t c)
  primitive_canonical n t c b level x short =
      let y = x.1 in
      let can = contents_bytes (type_with t) Ber y.contents c y.element.in_bytes y.meaning in
      record {
        tree = primitive t c;
        read = λ o h. (
          x.0,
          record {
            level = level;
            contents = c;
            element = canonical_element_is Der o t Primitive c h y.element.in_range can short;
            meaning = contents_again (type_with t) Ber o y.contents c y.meaning;
          },
        );
        same = (refl, refl);
        encoding = refl;
        tag = refl;
        in_bytes = canonical_element_bytes Der t Primitive c can short;
      }

  constructed_canonical : (n : ℕ) (t : Tag) (vs : List A) (b : List ℕ) → (x : HasBranch (R Ber) (keyed_parts mark f) n Ber (constructed t vs) b) →
      AllByRecursion HasCanonical vs → length (branch_encoding f (constructed t vs)) < 2 ^ 64 → CanonicalBranch n (constructed t vs)
  constructed_canonical n t vs b x all short =
      let c = concat (map f vs) in
      let xs = canonical_each vs all (short_contents Der t Constructed c short) in
      record {
        tree = constructed t xs.trees;
        read = λ o h. (
          x.0,
          record {
            contents = c;
            element = canonical_element_is Der o t Constructed c h x.1.element.in_range xs.in_bytes short;
            inner = record {
              elements = record { pieces = map f vs; each = xs.read o h; joined = refl };
              other = λ s a. x.1.inner.other s (subst IsOrderKnown (same_parts mark f mark f xs.trees vs xs.tags xs.encoding) a);
            };
          },
        );
        same = (refl, xs.same);
        encoding = ap (λ z. canonical_element Der t Constructed (concat z)) xs.encoding;
        tag = refl;
        in_bytes = canonical_element_bytes Der t Constructed c xs.in_bytes short;
      }

  set_of_canonical : (n : ℕ) (vs : List A) (b : List ℕ) → (x : HasBranch (R Ber) (keyed_parts mark f) n Ber (set_of vs) b) → AllByRecursion HasCanonical vs →
      length (branch_encoding f (set_of vs)) < 2 ^ 64 → CanonicalBranch n (set_of vs)
  set_of_canonical n vs b x all short =
      let cmp = λ (v w : A). octets_cmp (f v) (f w) in
      let us = in_order cmp vs in
      let permuted = in_order_permuted cmp vs in
      let bs = in_order octets_cmp (map f vs) in
      let e : map f us ≡ bs = in_order_map f octets_cmp vs in
      let fits : length (concat (map f us)) < 2 ^ 64 =
      subst (λ z. length (concat z) < 2 ^ 64) (sym e) (short_contents Der set_tag Constructed (concat bs) short) in
      let xs = canonical_each us (all_permuted HasCanonical vs us permuted all) fits in
      let bytes : IsBytes (concat bs) = subst (λ z. IsBytes (concat z)) e xs.in_bytes in
      let known : IsOrderKnown (keyed_parts mark f us) = known_again mark f vs x.inner.known in
      record {
        tree = set_of xs.trees;
        read = λ o h. record {
          contents = concat bs;
          element = canonical_element_is Der o set_tag Constructed (concat bs) h (omega arith) bytes short;
          inner = record {
            elements = record { pieces = bs; each = subst (λ z. Each (R o) xs.trees z) e (xs.read o h); joined = refl };
            order = octets_in_order o (map f vs);
            known = subst IsOrderKnown (sym (same_parts mark f mark f xs.trees us xs.tags xs.encoding)) known;
          };
        };
        same = record { items = us; permuted = permuted; each = xs.same };
        encoding =
            ap (λ z. canonical_element Der set_tag Constructed (concat z))
            (ap (in_order octets_cmp) (xs.encoding ∙ e) ∙ octets_ordered Der bs tt (octets_in_order Der (map f vs)));
        tag = refl;
        in_bytes = canonical_element_bytes Der set_tag Constructed (concat bs) bytes short;
      }

  -- an element in BER has a canonical encoding, where those within it have
  pub branch_canonical : ((v : A) (b : List ℕ) → R Ber v b → HasCanonical v) → (n : ℕ) → 1 ≤ n → (v : Branch A) (b : List ℕ) →
      HasBranch (R Ber) (keyed_parts mark f) n Ber v b → length (branch_encoding f v) < 2 ^ 64 → CanonicalBranch n v
  branch_canonical g n level (boolean v) b x short = boolean_canonical n v level short
  branch_canonical g n level (bits v) b x short = bits_canonical n v level (bits_can n Ber bits_tag v b x) short
  branch_canonical g n level (string t v) b x short = string_canonical n t v b level x short
  branch_canonical g n level (primitive t c) b x short = primitive_canonical n t c b level x short
  branch_canonical g n level (set_of vs) b x short =
      set_of_canonical n vs b x (all_canonical g vs x.inner.elements.pieces x.inner.elements.each) short
  branch_canonical g n level (constructed t vs) b x short =
      constructed_canonical n t vs b x (all_canonical g vs x.1.inner.elements.pieces x.1.inner.elements.each) short

-- a tree with a canonical encoding
abbrev pub Canonical : (n : ℕ) → Tree n → Type 0
Canonical n v = CanonicalOne (HasTree n) (SameTree n) (der_encoding n) (tree_tag n) v

-- an element in BER has a canonical encoding
pub canonical : (n : ℕ) (v : Tree n) (b : List ℕ) → HasTree n Ber v b → length (der_encoding n v) < 2 ^ 64 → Canonical n v
unfolding Tree HasTree SameTree der_encoding tree_tag
canonical zero v b x short = absurd x
canonical (suc n) v b x short =
    let y = branch_canonical (HasTree n) (SameTree n) (der_encoding n) (tree_tag n) (canonical n) (suc n) (omega arith) v b x short in
    record { tree = y.tree; read = y.read; same = y.same; encoding = y.encoding; tag = y.tag; in_bytes = y.in_bytes }
