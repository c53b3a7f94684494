-- The elements in DER that the walk returns.
use Rattle.std.specs.Borrow.{Bor}
use Rattle.std.specs.Prelude.{◌≡◌, ℕ, List, ◌∷◌, ◌++◌, length, map, Result, Ok, Err}
use Rattle.std.specs.List.{concat}
use Rattle.yasna_base.specs.Bits.{padded}
use Rattle.yasna_base.specs.Canonical.{canonical_element}
use Rattle.yasna_base.specs.Header.{ContentsEnd, EndsBefore}
use Rattle.yasna_base.specs.Length.{shortest_length}
use Rattle.yasna_base.specs.Pieces.{Pieces}
use Rattle.yasna_base.specs.Set.{SetPart, parts_bytes, set_tag}
use Rattle.yasna_base.specs.declared.mode.BERMode.{BERMode}
use Rattle.yasna_base.specs.declared.mode.BERMode.TheVariants.{Ber, Der}
use Rattle.yasna_base.specs.declared.tag.PCBit.TheVariants.{Constructed}
use Rattle.yasna_base.specs.declared.tag.Tag.{Tag}
use Rattle.asn1_contents.specs.Contents.{HasContents}
use Rattle.asn1_contents.specs.declared.contents_type.ContentsType.{ContentsType}
use Rattle.asn1der_convert.specs.Rows.{part_tags, AreElements}
use Rattle.asn1der_convert.specs.SetOrder.{by_octets, IsOrderKnown}
use Rattle.asn1der_convert.specs.Tree.{Tree, tree_tag, HasTree, der_encoding}
use Rattle.asn1der_convert.specs.declared.error.ConvertError.{ConvertError}
use Rattle.asn1der_convert.specs.declared.error.ConvertError.TheVariants.{Memory}

-- the identifier i, a length, and the contents of a BIT STRING of these bytes, of which so many bits are unused, were appended to s
abbrev pub AppendsBits : ℕ → List ℕ → List ℕ → List ℕ → List ℕ → Type 0
AppendsBits unused i bytes s s' = s' ≡ s ++ (i ++ (shortest_length (length (unused ∷ padded unused bytes)) ++ (unused ∷ padded unused bytes)))

-- the identifier i, a length and the contents in DER of the contents c were appended to s
pub record AppendsContents (k : ContentsType) (i c s s' : List ℕ) : Type 0 where
  pub contents : List ℕ
  pub meaning : HasContents k Ber contents c
  pub bytes : s' ≡ s ++ (i ++ (shortest_length (length contents) ++ contents))

-- within n levels, b is an element, and p that element in DER with its tag
pub record IsPartOf (n : ℕ) (m : BERMode) (b : List ℕ) (p : SetPart) : Type 0 where
  pub tree : Tree n
  pub read : HasTree n m tree b
  pub tag : p.tag ≡ tree_tag n tree
  pub encoding : p.bytes ≡ der_encoding n tree

-- within n levels, c is elements one after the other, and ps those elements in DER
pub record ArePartsOf (n : ℕ) (m : BERMode) (c : List ℕ) (ps : List SetPart) : Type 0 where
  pub trees : List (Tree n)
  pub read : Pieces (HasTree n m) trees c
  pub tags : part_tags ps ≡ map (tree_tag n) trees
  pub encodings : parts_bytes ps ≡ map (der_encoding n) trees

-- an element is at the start of s, p is that element in DER, and r follows it
pub record TakesPart (n : ℕ) (m : BERMode) (s : List ℕ) (p : SetPart) (r : List ℕ) : Type 0 where
  pub prefix : List ℕ
  pub joined : s ≡ prefix ++ r
  pub part : IsPartOf n m prefix p

-- elements are at the start of s up to where contents end, ps are those elements in DER, and r follows the end
pub record TakesPartsTo (n : ℕ) (m : BERMode) (s : List ℕ) (end : ContentsEnd) (ps : List SetPart) (r : List ℕ) : Type 0 where
  pub prefix : List ℕ
  pub rest : List ℕ
  pub joined : s ≡ prefix ++ rest
  pub ends : EndsBefore end rest r
  pub parts : ArePartsOf n m prefix ps

-- qs are the elements ps of a constructed element with the tag t in the order of DER: that of a SET OF in a SET whose order is known, and
-- else the order that they have (X.690, 10.3 and 11.6)
pub data ArePutInOrder (t : Tag) (ps qs : List SetPart) : Type 0 where
  sorted : t ≡ set_tag → IsOrderKnown ps → qs ≡ by_octets ps → ArePutInOrder t ps qs
  as_they_were : (t ≡ set_tag → IsOrderKnown ps → ⊥) → qs ≡ ps → ArePutInOrder t ps qs

-- p is the constructed element in DER with the tag t around the elements ps
pub record IsPartAround (t : Tag) (ps : List SetPart) (p : SetPart) : Type 0 where
  pub tag : p.tag ≡ t
  pub inner : List SetPart
  pub order : ArePutInOrder t ps inner
  pub bytes : p.bytes ≡ canonical_element Der t Constructed (concat (parts_bytes inner))

-- no element is at the start of s
abbrev pub NoTreeAt : ℕ → BERMode → List ℕ → Type 0
NoTreeAt n m s = (v : Tree n) (b r : List ℕ) → HasTree n m v b → s ≡ b ++ r → ⊥

-- no elements are at the start of s up to where contents end
abbrev pub NoTreesTo : ℕ → BERMode → List ℕ → ContentsEnd → Type 0
NoTreesTo n m s end = (vs : List (Tree n)) (prefix rest r : List ℕ) → Pieces (HasTree n m) vs prefix → s ≡ prefix ++ rest → EndsBefore end rest r → ⊥

-- an element is at the start of s, r follows it, and that element in DER was appended to out
pub record AppendsPart (n : ℕ) (m : BERMode) (s r out out' : List ℕ) : Type 0 where
  pub part : SetPart
  pub taken : TakesPart n m s part r
  pub added : out' ≡ out ++ part.bytes

-- elements are at the start of s up to where contents end, r follows the end, and those elements in DER were appended to out
pub record AppendsParts (n : ℕ) (m : BERMode) (s : List ℕ) (end : ContentsEnd) (r out out' : List ℕ) : Type 0 where
  pub parts : List SetPart
  pub taken : TakesPartsTo n m s end parts r
  pub added : out' ≡ out ++ concat (parts_bytes parts)

-- the result of converting an element: the bytes that follow it in BER, and the element in DER, or why there is none
abbrev pub PartAt : ℕ → BERMode → List ℕ → List ℕ → List ℕ → Result (Bor (List ℕ)) ConvertError → Type 0
PartAt n m s out out' (Ok r) = AppendsPart n m s r.now out out'
PartAt n m s out out' (Err e) = (e ≡ Memory → ⊥) → NoTreeAt n m s

-- the result of converting contents: the bytes that follow their end, and their elements in DER, or why there are none
abbrev pub PartsAt : ℕ → BERMode → List ℕ → ContentsEnd → List ℕ → List ℕ → Result (Bor (List ℕ)) ConvertError → Type 0
PartsAt n m s end out out' (Ok r) = AppendsParts n m s end r.now out out'
PartsAt n m s end out out' (Err e) = (e ≡ Memory → ⊥) → NoTreesTo n m s end

-- the elements s were put in the order of DER within a constructed element with the tag t
abbrev pub PutsInOrder : Tag → List ℕ → List ℕ → Type 0
PutsInOrder t s s' = (ps : List SetPart) → AreElements ps s → (qs : List SetPart) × ArePutInOrder t ps qs × AreElements qs s'
