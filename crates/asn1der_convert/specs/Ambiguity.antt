-- Where the encoding in DER depends on a schema.
use Rattle.std.specs.Prelude.{◌≡◌, ◌⊎◌, ◌↔◌, ℕ, zero, suc, min, List, [], ◌∷◌, ◌++◌, take, drop, Option, None, Some}
use Rattle.std.specs.List.{AllByRecursion}
use Rattle.yasna_base.specs.Bits.{bits_tag}
use Rattle.yasna_base.specs.Grammar.{max_depth}
use Rattle.yasna_base.specs.Header.{ContentsEnd, EndsBefore}
use Rattle.yasna_base.specs.Octets.{octets_tag}
use Rattle.yasna_base.specs.Pieces.{Pieces}
use Rattle.yasna_base.specs.Set.{SetPart, set_tag}
use Rattle.yasna_base.specs.declared.mode.BERMode.{BERMode}
use Rattle.yasna_base.specs.declared.mode.BERMode.TheVariants.{Ber}
use Rattle.yasna_base.specs.declared.tag.Tag.{Tag}
use Rattle.yasna_base.specs.declared.tag.TagClass.TheVariants.{Universal}
use Rattle.asn1der_convert.specs.Rows.{AreElements}
use Rattle.asn1der_convert.specs.Parts.{IsPartAround}
use Rattle.asn1der_convert.specs.SetOrder.{InOrder, AscendByTags}
use Rattle.asn1der_convert.specs.Tree.{Branch, boolean, bits, string, primitive, set_of, constructed, Tree, HasTree, tree_parts}
use Rattle.asn1der_convert.specs.declared.ambiguity.Ambiguities.{Ambiguities}
use Rattle.asn1der_convert.specs.declared.ambiguity.Ambiguity.{Ambiguity}
use Rattle.asn1der_convert.specs.declared.ambiguity.Ambiguity.TheVariants.{Segments, ImplicitSetOf, Order}
use Rattle.asn1der_convert.specs.declared.set_order.SetOrder.TheVariants.{Octets}

-- these elements may be the segments of a string: all are OCTET STRINGs, or all are BIT STRINGs (X.690, 8.6.4 and 8.7.3)
abbrev pub MayBeSegments : List SetPart → Type 0
MayBeSegments ps = AllByRecursion (λ (p : SetPart). p.tag ≡ octets_tag) ps ⊎ AllByRecursion (λ (p : SetPart). p.tag ≡ bits_tag) ps

-- a constructed element with this tag around these, in the order in which they are written, has no such ambiguity
abbrev pub IsCertain : Ambiguity → Tag → List SetPart → Type 0
IsCertain Segments t ps = (t.tag_class ≡ Universal) ⊎ (MayBeSegments ps → ⊥)
IsCertain ImplicitSetOf t ps = (t.tag_class ≡ Universal) ⊎ InOrder Octets ps
IsCertain Order t ps = (t ≡ set_tag → ⊥) ⊎ InOrder Octets ps ⊎ AscendByTags ps

-- a constructed element has no such ambiguity, and S holds of each element within; a SET whose order is known has none itself
abbrev pub IsSureBranch : {A : Type 0} → Ambiguity → (List A → List SetPart) → (A → Type 0) → Branch A → Type 0
IsSureBranch a parts S (boolean v) = Unit {0}
IsSureBranch a parts S (bits v) = Unit {0}
IsSureBranch a parts S (string t v) = Unit {0}
IsSureBranch a parts S (primitive t c) = Unit {0}
IsSureBranch a parts S (set_of vs) = AllByRecursion S vs
IsSureBranch a parts S (constructed t vs) = IsCertain a t (parts vs) × AllByRecursion S vs

-- as `IsSureBranch`, for all elements of a tree
unfoldable pub IsSure : Ambiguity → (n : ℕ) → Tree n → Type 0
unfolding Tree
IsSure a zero v = ⊥
IsSure a (suc n) v = IsSureBranch a (tree_parts n) (IsSure a n) v

-- the first of two places, where the first may be absent
abbrev pub first_of : Option ℕ → ℕ → ℕ
first_of None offset = offset
first_of (Some place) offset = min place offset

-- no place was met, and none is met where P holds
abbrev pub Meets : Option ℕ → Option ℕ → Type 0 → Type 0
Meets old new P = (new ≡ None) ↔ ((old ≡ None) × P)

-- the first place after an element at this offset, which has no ambiguity exactly if P holds
pub record Notes (old new : Option ℕ) (offset : ℕ) (P : Type 0) : Type 0 where
  pub certain : P → new ≡ old
  pub ambiguous : (P → ⊥) → new ≡ Some (first_of old offset)
  pub meets : Meets old new P

-- the first place of each kind
abbrev pub first_place : Ambiguity → Ambiguities → Option ℕ
first_place Segments d = d.segments
first_place ImplicitSetOf d = d.implicit_set_of
first_place Order d = d.order

-- p is the constructed element in DER with the tag t around the elements ps, and its ambiguities were met
pub record EnclosesParts (t : Tag) (ps : List SetPart) (p : SetPart) (old new : Ambiguities) : Type 0 where
  pub part : IsPartAround t ps p
  pub met : (a : Ambiguity) → Meets (first_place a old) (first_place a new) (IsCertain a t part.inner)

-- the header was put before the elements that begin at the place k of out
pub record EnclosesFrom (t : Tag) (ps : List SetPart) (k : ℕ) (out out' : List ℕ) (old new : Ambiguities) : Type 0 where
  pub part : SetPart
  pub encloses : EnclosesParts t ps part old new
  pub added : out' ≡ take k out ++ part.bytes

-- as `EnclosesFrom`, whichever elements begin there
abbrev pub Encloses : Tag → ℕ → List ℕ → List ℕ → Ambiguities → Ambiguities → Type 0
Encloses t k out out' old new = (ps : List SetPart) → AreElements ps (drop k out) → EnclosesFrom t ps k out out' old new

-- the ambiguities of these elements were met
abbrev pub MeetsAmbiguities : (n : ℕ) → List (Tree n) → Ambiguities → Ambiguities → Type 0
MeetsAmbiguities n vs old new = (a : Ambiguity) → Meets (first_place a old) (first_place a new) (AllByRecursion (IsSure a n) vs)

-- the ambiguities of an element at the start of s, which r follows, were met
abbrev pub MeetsAt : ℕ → BERMode → List ℕ → List ℕ → Ambiguities → Ambiguities → Type 0
MeetsAt n m s r old new = (v : Tree n) (b : List ℕ) → HasTree n m v b → s ≡ b ++ r → MeetsAmbiguities n (v ∷ []) old new

-- the ambiguities of the elements at the start of s up to the end of contents, which r follows, were met
abbrev pub MeetsTo : ℕ → BERMode → List ℕ → ContentsEnd → List ℕ → Ambiguities → Ambiguities → Type 0
MeetsTo n m s end r old new =
    (vs : List (Tree n)) (prefix rest : List ℕ) → Pieces (HasTree n m) vs prefix → s ≡ prefix ++ rest → EndsBefore end rest r → MeetsAmbiguities n vs old new

-- an ambiguity has no first place exactly where the elements that s is don't have it
abbrev pub AreTheAmbiguities : List ℕ → Ambiguities → Type 0
AreTheAmbiguities s d =
    (a : Ambiguity) (vs : List (Tree max_depth)) → Pieces (HasTree max_depth Ber) vs s → (first_place a d ≡ None) ↔ AllByRecursion (IsSure a max_depth) vs
