-- Elements as trees, which leave out the form of lengths, the segments, the octet of TRUE and the text of a time (X.690, 8).
use Rattle.std.specs.Prelude.{◌≡◌, ℕ, zero, suc, Bool, List, map}
use Rattle.std.specs.List.{AllByRecursion, concat}
use Rattle.yasna_base.specs.AnyOrder.{SameSetOf}
use Rattle.yasna_base.specs.Bits.{BitString, IsBits, bits_tag, bits_contents, bits_encoding}
use Rattle.yasna_base.specs.Boolean.{EncodesBoolean, boolean_tag, boolean_encoding}
use Rattle.yasna_base.specs.Canonical.{canonical_element}
use Rattle.yasna_base.specs.Element.{Element, Primitively}
use Rattle.yasna_base.specs.Octets.{octets_encoding}
use Rattle.yasna_base.specs.Order.{octets_cmp, in_order}
use Rattle.yasna_base.specs.Pieces.{Each, Pieces}
use Rattle.yasna_base.specs.Set.{SetPart, set_tag, AreInSetOfOrder}
use Rattle.yasna_base.specs.Text.{IsStringOf}
use Rattle.yasna_base.specs.declared.mode.BERMode.{BERMode}
use Rattle.yasna_base.specs.declared.mode.BERMode.TheVariants.{Der}
use Rattle.yasna_base.specs.declared.tag.PCBit.TheVariants.{Primitive, Constructed}
use Rattle.yasna_base.specs.declared.tag.Tag.{Tag}
use Rattle.asn1_contents.specs.Contents.{HasContents}
use Rattle.asn1_contents.specs.ContentsType.{type_with}
use Rattle.asn1der_convert.specs.SetOrder.{keyed_parts, IsOrderKnown}
use Rattle.asn1der_convert.specs.Tags.{IsStringTag, IsOtherPrimitive, IsOtherConstructed}

-- one element, around elements of A: a BOOLEAN, a BIT STRING, the contents in DER of a string with its tag, or of any other primitive
-- element, a SET whose order is known, or the elements of any other constructed one
pub data Branch (A : Type 0) : Type 0 where
  boolean : Bool → Branch A
  bits : BitString → Branch A
  string : Tag → List ℕ → Branch A
  primitive : Tag → List ℕ → Branch A
  set_of : List A → Branch A
  constructed : Tag → List A → Branch A

-- an element of at most n levels, itself counted
unfoldable pub Tree : ℕ → Type 0
Tree zero = ⊥
Tree (suc n) = Branch (Tree n)

-- the tag of an element
abbrev pub branch_tag : {A : Type 0} → Branch A → Tag
branch_tag (boolean v) = boolean_tag
branch_tag (bits v) = bits_tag
branch_tag (string t v) = t
branch_tag (primitive t c) = t
branch_tag (set_of vs) = set_tag
branch_tag (constructed t vs) = t

-- the tag of a tree
unfoldable pub tree_tag : (n : ℕ) → Tree n → Tag
unfolding Tree
tree_tag zero v = absurd v
tree_tag (suc n) v = branch_tag v

-- the encoding of an element in DER, where f encodes those within it
abbrev pub branch_encoding : {A : Type 0} → (A → List ℕ) → Branch A → List ℕ
branch_encoding f (boolean v) = boolean_encoding boolean_tag Der v
branch_encoding f (bits v) = bits_encoding bits_tag Der v
branch_encoding f (string t v) = octets_encoding t Der v
branch_encoding f (primitive t c) = canonical_element Der t Primitive c
branch_encoding f (set_of vs) = canonical_element Der set_tag Constructed (concat (in_order octets_cmp (map f vs)))
branch_encoding f (constructed t vs) = canonical_element Der t Constructed (concat (map f vs))

-- the canonical encoding of a tree in DER (X.690, 10 and 11)
unfoldable pub der_encoding : (n : ℕ) → Tree n → List ℕ
unfolding Tree
der_encoding zero v = absurd v
der_encoding (suc n) v = branch_encoding (der_encoding n) v

-- the tags of trees, and their encodings in DER
abbrev pub tree_parts : (n : ℕ) → List (Tree n) → List SetPart
tree_parts n = keyed_parts (tree_tag n) (der_encoding n)

-- all tags of the list are equal
abbrev pub HaveOneTag : List Tag → Type 0
HaveOneTag ts = (u : Tag) × AllByRecursion (λ t. t ≡ u) ts

-- c is the elements vs one after the other; their order in a SET is known, and in DER they are in it (X.690, 10.3 and 11.6)
pub record IsSetOfContents {A : Type 0} (R : A → List ℕ → Type 0) (parts : List A → List SetPart) (m : BERMode) (vs : List A) (c : List ℕ) : Type 0 where
  pub elements : Pieces R vs c
  pub order : AreInSetOfOrder m elements.pieces
  pub known : IsOrderKnown (parts vs)

-- c is the elements vs one after the other, and they aren't those of a SET whose order is known
pub record IsOtherContents {A : Type 0} (R : A → List ℕ → Type 0) (parts : List A → List SetPart) (t : Tag) (vs : List A) (c : List ℕ) : Type 0 where
  pub elements : Pieces R vs c
  pub other : t ≡ set_tag → IsOrderKnown (parts vs) → ⊥

-- b is a constructed element whose contents C holds of
pub record IsAround (C : List ℕ → Type 0) (m : BERMode) (t : Tag) (b : List ℕ) : Type 0 where
  pub contents : List ℕ
  pub element : Element m t Constructed contents b
  pub inner : C contents

-- within n levels, b is a string with the tag t, whose octets are contents of the tag's type, and d are these contents in DER
abbrev pub IsString : Tag → BERMode → ℕ → List ℕ → List ℕ → Type 0
IsString t m n d b = IsStringOf (HasContents (type_with t)) t m n d b

-- b is a primitive element with the tag t, whose contents are those of the tag's type, and d are these contents in DER
abbrev pub IsPrimitiveOf : Tag → BERMode → ℕ → List ℕ → List ℕ → Type 0
IsPrimitiveOf t m n d b = Primitively (HasContents (type_with t)) t m n d b

-- b encodes the element, R holds of each element within it, and parts gives these in DER; n levels are left
abbrev pub HasBranch : {A : Type 0} → (A → List ℕ → Type 0) → (List A → List SetPart) → ℕ → BERMode → Branch A → List ℕ → Type 0
HasBranch R parts n m (boolean v) b = EncodesBoolean m n v b
HasBranch R parts n m (bits v) b = IsBits bits_tag m n v b
HasBranch R parts n m (string t d) b = IsStringTag t × IsString t m n d b
HasBranch R parts n m (primitive t d) b = IsOtherPrimitive t × IsPrimitiveOf t m n d b
HasBranch R parts n m (set_of vs) b = IsAround (IsSetOfContents R parts m vs) m set_tag b
HasBranch R parts n m (constructed t vs) b = IsOtherConstructed t × IsAround (IsOtherContents R parts t vs) m t b

-- b is an element with this tree
unfoldable pub HasTree : (n : ℕ) → BERMode → Tree n → List ℕ → Type 0
unfolding Tree
HasTree zero m v b = ⊥
HasTree (suc n) m v b = HasBranch (HasTree n m) (tree_parts n) (suc n) m v b

-- elements of equal values: a SET OF in any order, bit strings that differ only in unused bits, and others by their contents in DER
abbrev pub SameBranch : {A : Type 0} → (A → A → Type 0) → Branch A → Branch A → Type 0
SameBranch E (boolean v) (boolean w) = v ≡ w
SameBranch E (bits v) (bits w) = bits_contents v ≡ bits_contents w
SameBranch E (string t v) (string u w) = (t ≡ u) × (v ≡ w)
SameBranch E (primitive t c) (primitive u d) = (t ≡ u) × (c ≡ d)
SameBranch E (set_of vs) (set_of ws) = SameSetOf E vs ws
SameBranch E (constructed t vs) (constructed u ws) = (t ≡ u) × Each E vs ws
SameBranch E v w = ⊥

-- trees of equal values, element by element, as `SameBranch`
unfoldable pub SameTree : (n : ℕ) → Tree n → Tree n → Type 0
unfolding Tree
SameTree zero v w = ⊥
SameTree (suc n) v w = SameBranch (SameTree n) v w
