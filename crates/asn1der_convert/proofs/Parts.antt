-- Elements that were read, and those that were written for them.
use Rattle.std.proofs.Common.{◌≡◌, ℕ, zero, suc, ◌-◌, ◌%◌, ◌^◌, ◌<◌, ◌≤◌, Bool, List, [], ◌∷◌, ◌++◌, length, map, Ok, Err, refl}
use Rattle.std.proofs.Common.{sym, ap, ap₂, ◌∙◌, subst, append-nil, append_assoc, length-append, arith}
use Rattle.std.specs.Prelude.{Result, IfOk, IfErr}
use Rattle.std.specs.List.{concat}
use Rattle.yasna_base.specs.Bits.{BitString, IsBits, bits_tag, padded, bits_contents, bits_segmentation}
use Rattle.yasna_base.specs.Boolean.{IsBoolean, boolean_tag, boolean_byte}
use Rattle.yasna_base.specs.Canonical.{canonical_element}
use Rattle.yasna_base.specs.Element.{Element, Primitively}
use Rattle.yasna_base.specs.Header.{ContentsEnd, definite_end, OpensAt}
use Rattle.yasna_base.specs.Octets.{IsOctets, octets_segmentation}
use Rattle.yasna_base.specs.Order.{octets_cmp, in_order}
use Rattle.yasna_base.specs.Set.{SetPart, parts_bytes, set_tag}
use Rattle.yasna_base.specs.declared.mode.BERMode.{BERMode}
use Rattle.yasna_base.specs.declared.mode.BERMode.TheVariants.{Ber, Der}
use Rattle.yasna_base.specs.declared.tag.PCBit.TheVariants.{Primitive, Constructed}
use Rattle.yasna_base.specs.declared.tag.Tag.{Tag}
use Rattle.yasna_base.proofs.Element.{element_begins}
use Rattle.yasna_base.proofs.Identifier.{begins_some}
use Rattle.yasna_base.proofs.Pieces.{no_pieces, one_piece, pieces_append}
use Rattle.yasna_base.proofs.Segmented.{segmented_begins, segmented_level}
use Rattle.yasna_bytes.specs.Prefix.{Takes}
use Rattle.yasna_bytes.proofs.Ending.{closed}
use Rattle.asn1_contents.specs.Contents.{HasContents}
use Rattle.asn1_contents.specs.ContentsType.{type_with}
use Rattle.asn1der_convert.specs.Parts.{IsPartOf, ArePartsOf, TakesPart, TakesPartsTo, ArePutInOrder, sorted, as_they_were, IsPartAround}
use Rattle.asn1der_convert.specs.SetOrder.{IsOrderKnown}
use Rattle.asn1der_convert.specs.Tags.{IsStringTag, IsOtherPrimitive, IsOtherConstructed}
use Rattle.asn1der_convert.specs.Tree.{Branch, boolean, bits, string, primitive, set_of, constructed, Tree, branch_tag, tree_tag, tree_parts, HasBranch, HasTree, branch_encoding, der_encoding}
use Rattle.asn1der_convert.proofs.SetOrder.{labels_of, parts_of_bytes, by_octets_bytes}

-- an element around those a level further in
branch_part : (n : ℕ) (m : BERMode) (b : List ℕ) (v : Branch (Tree n)) → HasBranch (HasTree n m) (tree_parts n) (suc n) m v b → (p : SetPart) →
    p.tag ≡ branch_tag v → p.bytes ≡ branch_encoding (der_encoding n) v → IsPartOf (suc n) m b p
unfolding Tree HasTree tree_tag der_encoding
branch_part n m b v x p t f = record { tree = v; read = x; tag = t; encoding = f }

part_at : (n k : ℕ) → suc k ≡ n → (m : BERMode) (b : List ℕ) (v : Branch (Tree k)) → HasBranch (HasTree k m) (tree_parts k) n m v b → (p : SetPart) →
    p.tag ≡ branch_tag v → p.bytes ≡ branch_encoding (der_encoding k) v → IsPartOf n m b p
part_at n k e m b v x p t f =
    subst (λ z. IsPartOf z m b p) e (branch_part k m b v (subst (λ z. HasBranch (HasTree k m) (tree_parts k) z m v b) (sym e) x) p t f)

one_less : (n : ℕ) → 1 ≤ n → (k : ℕ) × (suc k ≡ n)
one_less zero h = absurd (omega (arith, h))
one_less (suc k) h = (k, refl)

-- a BOOLEAN
pub boolean_part : (n : ℕ) (m : BERMode) (s r : List ℕ) (v : Bool) (p : SetPart) (c : List ℕ) → Takes (Primitively IsBoolean boolean_tag m n) s v r →
    p.tag ≡ boolean_tag → p.bytes ≡ canonical_element Der boolean_tag Primitive c → c ≡ boolean_byte v ∷ [] → TakesPart n m s p r
boolean_part n m s r v p c x t f e =
    let k = one_less n x.member.level in
    record {
      prefix = x.prefix;
      joined = x.joined;
      part = part_at n k.0 k.1 m x.prefix (boolean v) x.member p t (f ∙ ap (canonical_element Der boolean_tag Primitive) e);
    }

-- a BIT STRING
pub bits_part : (n : ℕ) (m : BERMode) (s r : List ℕ) (v : BitString) (p : SetPart) (c : List ℕ) → Takes (IsBits bits_tag m n) s v r →
    p.tag ≡ bits_tag → p.bytes ≡ canonical_element Der bits_tag Primitive c → c ≡ bits_contents v → TakesPart n m s p r
bits_part n m s r v p c x t f e =
    let k = one_less n (segmented_level bits_segmentation n m bits_tag v x.prefix x.member) in
    record {
      prefix = x.prefix;
      joined = x.joined;
      part = part_at n k.0 k.1 m x.prefix (bits v) x.member p t (f ∙ ap (canonical_element Der bits_tag Primitive) e);
    }

-- a string of octets o, whose contents in DER are d
pub string_part : (n : ℕ) (m : BERMode) (t : Tag) (s r o d : List ℕ) (p : SetPart) → IsStringTag t → Takes (IsOctets t m n) s o r →
    HasContents (type_with t) m d o → p.tag ≡ t → p.bytes ≡ canonical_element Der t Primitive d → TakesPart n m s p r
string_part n m t s r o d p h x g e f =
    let k = one_less n (segmented_level octets_segmentation n m t o x.prefix x.member) in
    record {
      prefix = x.prefix;
      joined = x.joined;
      part = part_at n k.0 k.1 m x.prefix (string t d) (h, record { octets = o; string = x.member; meaning = g }) p e f;
    }

-- any other primitive element with the contents c, which are d in DER
pub primitive_part : (n : ℕ) (m : BERMode) (t : Tag) (s r c d : List ℕ) (p : SetPart) → 1 ≤ n → IsOtherPrimitive t →
    OpensAt m t Primitive s c (definite_end r) → HasContents (type_with t) m d c → p.tag ≡ t → p.bytes ≡ canonical_element Der t Primitive d →
    TakesPart n m s p r
primitive_part n m t s r c d p level h x g e f =
    let k = one_less n level in
    let y = closed m t Primitive s c (definite_end r) x c [] r (sym (append-nil c)) (refl, refl) in
    record {
      prefix = y.bytes;
      joined = y.joined;
      part = part_at n k.0 k.1 m y.bytes (primitive t d) (h, record { level = level; contents = c; element = y.element; meaning = g }) p e f;
    }

-- no elements
unfoldable pub no_parts : (n : ℕ) (m : BERMode) → ArePartsOf n m [] []
no_parts n m = record { trees = []; read = no_pieces; tags = refl; encodings = refl }

map_end : {A B : Type 0} (f : A → B) (xs : List A) (x : A) → map f (xs ++ (x ∷ [])) ≡ map f xs ++ (f x ∷ [])
map_end f [] x = refl
map_end f (y ∷ ys) x = ap (λ z. f y ∷ z) (map_end f ys x)

pub maps_end : {A B C : Type 0} (f : A → C) (g : B → C) (xs : List A) (ys : List B) (x : A) (y : B) → map f xs ≡ map g ys → f x ≡ g y →
    map f (xs ++ (x ∷ [])) ≡ map g (ys ++ (y ∷ []))
maps_end f g xs ys x y e h = map_end f xs x ∙ ap₂ (λ zs z. zs ++ (z ∷ [])) e h ∙ sym (map_end g ys y)

-- elements and one more
unfoldable pub more_parts : (n : ℕ) (m : BERMode) (c b : List ℕ) (ps : List SetPart) (p : SetPart) → ArePartsOf n m c ps → IsPartOf n m b p →
    ArePartsOf n m (c ++ b) (ps ++ (p ∷ []))
more_parts n m c b ps p x y = record {
  trees = x.trees ++ (y.tree ∷ []);
  read = pieces_append x.trees (y.tree ∷ []) c b x.read (one_piece y.tree b y.read);
  tags = maps_end (λ (q : SetPart). q.tag) (tree_tag n) ps x.trees p y.tree x.tags y.tag;
  encodings = maps_end (λ (q : SetPart). q.bytes) (der_encoding n) ps x.trees p y.tree x.encodings y.encoding;
}

-- the elements from s to r were read
pub record Reached (n : ℕ) (m : BERMode) (s : List ℕ) (ps : List SetPart) (r : List ℕ) : Type 0 where
  pub prefix : List ℕ
  pub joined : s ≡ prefix ++ r
  pub parts : ArePartsOf n m prefix ps

unfoldable pub reached_none : (n : ℕ) (m : BERMode) (s : List ℕ) → Reached n m s [] s
reached_none n m s = record { prefix = []; joined = refl; parts = no_parts n m }

unfoldable pub reached_more : (n : ℕ) (m : BERMode) (s r q : List ℕ) (ps : List SetPart) (p : SetPart) → Reached n m s ps r →
    TakesPart n m r p q → Reached n m s (ps ++ (p ∷ [])) q
reached_more n m s r q ps p x y = record {
  prefix = x.prefix ++ y.prefix;
  joined = x.joined ∙ ap (λ z. x.prefix ++ z) y.joined ∙ sym (append_assoc x.prefix y.prefix q);
  parts = more_parts n m x.prefix y.prefix ps p x.parts y.part;
}

-- elements that were read are the parts of their trees
pub parts_labels : (n : ℕ) (m : BERMode) (c : List ℕ) (ps : List SetPart) → (x : ArePartsOf n m c ps) → ps ≡ tree_parts n x.trees
parts_labels n m c ps x = labels_of (tree_tag n) (der_encoding n) ps x.trees x.tags x.encodings

around_order : (k n : ℕ) → suc k ≡ n → (t : Tag) (c b : List ℕ) (ps : List SetPart) (p : SetPart) (qs : List SetPart) → IsOtherConstructed t →
    ArePartsOf k Ber c ps → Element Ber t Constructed c b → p.tag ≡ t → p.bytes ≡ canonical_element Der t Constructed (concat (parts_bytes qs)) →
    ArePutInOrder t ps qs → IsPartOf n Ber b p
around_order k n e t c b ps p qs h x y i f (sorted s o j) =
    let labels = parts_labels k Ber c ps x in
    let bytes : parts_bytes qs ≡ in_order octets_cmp (map (der_encoding k) x.trees) =
    ap parts_bytes j ∙ by_octets_bytes ps ∙
    ap (λ (zs : List SetPart). in_order octets_cmp (parts_bytes zs)) labels ∙ ap (in_order octets_cmp) (parts_of_bytes (tree_tag k) (der_encoding k) x.trees) in
    part_at n k e Ber b (set_of x.trees)
    (record {
      contents = c;
      element = subst (λ u. Element Ber u Constructed c b) s y;
      inner = record { elements = x.read; order = tt; known = subst IsOrderKnown labels o };
    })
    p (i ∙ s)
    (f ∙ ap₂ (λ u z. canonical_element Der u Constructed (concat z)) s bytes)
around_order k n e t c b ps p qs h x y i f (as_they_were o j) =
    let labels = parts_labels k Ber c ps x in
    let bytes : parts_bytes qs ≡ map (der_encoding k) x.trees =
    ap parts_bytes (j ∙ labels) ∙ parts_of_bytes (tree_tag k) (der_encoding k) x.trees in
    part_at n k e Ber b (constructed t x.trees) (
      h,
      record {
        contents = c;
        element = y;
        inner = record { elements = x.read; other = λ s a. o s (subst IsOrderKnown (sym labels) a) };
      },
    )
    p i
    (f ∙ ap (λ z. canonical_element Der t Constructed (concat z)) bytes)

-- any other constructed element, whose contents end so
pub constructed_part : (k n : ℕ) → suc k ≡ n → (t : Tag) (s d r : List ℕ) (end : ContentsEnd) (ps : List SetPart) (p : SetPart) → IsOtherConstructed t →
    OpensAt Ber t Constructed s d end → TakesPartsTo k Ber d end ps r → IsPartAround t ps p → TakesPart n Ber s p r
constructed_part k n e t s d r end ps p h x y z =
    let w = closed Ber t Constructed s d end x y.prefix y.rest r y.joined y.ends in
    record {
      prefix = w.bytes;
      joined = w.joined;
      part = around_order k n e t y.prefix w.bytes ps p z.inner h y.parts w.element z.tag z.bytes z.order;
    }

-- elements and one more, joined
pub joined_more : (ps : List SetPart) (p : SetPart) → concat (parts_bytes (ps ++ (p ∷ []))) ≡ concat (parts_bytes ps) ++ p.bytes
joined_more [] p = append-nil p.bytes
joined_more (q ∷ ps) p = ap (λ z. q.bytes ++ z) (joined_more ps p) ∙ sym (append_assoc q.bytes (concat (parts_bytes ps)) p.bytes)

-- bytes of which the last one is cleared
pub padded_last : (u : ℕ) (prefix : List ℕ) (last : ℕ) → padded u (prefix ++ last ∷ []) ≡ prefix ++ (last - last % 2 ^ u) ∷ []
padded_last u [] last = refl
padded_last u (x ∷ []) last = refl
padded_last u (x ∷ y ∷ ys) last = ap (λ zs. x ∷ zs) (padded_last u (y ∷ ys) last)

-- as `constructed_part`, where the contents are read at their own place
pub constructed_taken : (n k : ℕ) (m m' : BERMode) (t : Tag) (s d d' r : List ℕ) (end end' : ContentsEnd) (ps : List SetPart) (p : SetPart) → m ≡ Ber → m' ≡ m →
    1 ≤ n → k ≡ n - 1 → d' ≡ d → end' ≡ end → IsOtherConstructed t → OpensAt m t Constructed s d end → TakesPartsTo k m' d' end' ps r → IsPartAround t ps p →
    TakesPart n m s p r
constructed_taken n k m m' t s d d' r end end' ps p f g level less h i other opens takes encloses =
    let one = subst (λ z. TakesPartsTo k z d' end' ps r) (g ∙ f) takes in
    let two = subst (λ z. TakesPartsTo k Ber z end' ps r) h one in
    let three = subst (λ z. TakesPartsTo k Ber d z ps r) i two in
    let above = subst (λ z. OpensAt z t Constructed s d end) f opens in
    subst (λ z. TakesPart n z s p r) (sym f) (constructed_part k n (omega (arith, level, less)) t s d r end ps p other above three encloses)

branch_some : {A : Type 0} (R : A → List ℕ → Type 0) (parts : List A → List SetPart) (n : ℕ) (m : BERMode) (v : Branch A) (b : List ℕ) → HasBranch R parts n m v b → 1 ≤ length b
branch_some R parts n m (boolean v) b x = begins_some boolean_tag b (element_begins m boolean_tag Primitive x.contents b x.element)
branch_some R parts n m (bits v) b x = begins_some bits_tag b (segmented_begins bits_segmentation n m bits_tag v b x)
branch_some R parts n m (string t v) b x = begins_some t b (segmented_begins octets_segmentation n m t x.1.octets b x.1.string)
branch_some R parts n m (primitive t c) b x = begins_some t b (element_begins m t Primitive x.1.contents b x.1.element)
branch_some R parts n m (set_of vs) b x = begins_some set_tag b (element_begins m set_tag Constructed x.contents b x.element)
branch_some R parts n m (constructed t vs) b x = begins_some t b (element_begins m t Constructed x.1.contents b x.1.element)

tree_some : (n : ℕ) (m : BERMode) (v : Tree n) (b : List ℕ) → HasTree n m v b → 1 ≤ length b
unfolding Tree HasTree
tree_some zero m v b x = absurd x
tree_some (suc n) m v b x = branch_some (HasTree n m) (tree_parts n) (suc n) m v b x

-- fewer bytes are left behind an element
pub taken_shorter : (n : ℕ) (m : BERMode) (s : List ℕ) (p : SetPart) (r q : List ℕ) → TakesPart n m s p r → q ≡ r → length q < length s
taken_shorter n m s p r q x e =
    let some = tree_some n m x.part.tree x.prefix x.part.read in
    omega (arith, some, ap length e, ap length x.joined ∙ length-append x.prefix r)

-- what two facts say of a result
pub if_ok_both : {A E : Type 0} (r : Result A E) (P Q S : A → Type 0) → ((x : A) → P x → Q x → S x) → IfOk r P → IfOk r Q → IfOk r S
if_ok_both (Ok x) P Q S f p q = f x p q
if_ok_both (Err e) P Q S f p q = tt

-- what a fact says of a value, or of an error
pub if_ok_so : {A E : Type 0} (r : Result A E) (P Q : A → Type 0) → ((x : A) → P x → Q x) → IfOk r P → IfOk r Q
if_ok_so (Ok x) P Q f p = f x p
if_ok_so (Err e) P Q f p = tt

pub if_err_so : {A E : Type 0} (r : Result A E) (P Q : E → Type 0) → ((e : E) → P e → Q e) → IfErr r P → IfErr r Q
if_err_so (Ok x) P Q f p = tt
if_err_so (Err e) P Q f p = f e p
