-- OCTET STRING (X.690, 8.7 and 9.2).
use Rattle.std.specs.Prelude.{◌≡◌, ℕ, List, Vec}
use Rattle.std.specs.Global.{Global}
use Rattle.std.specs.List.{concat}
use Rattle.yasna_base.specs.declared.mode.BERMode.{BERMode}
use Rattle.yasna_base.specs.declared.tag.Tag.{Tag}
use Rattle.yasna_base.specs.Segmented.{Segmentation, IsSegmented, IsDeepSegmented, segmented_encoding, segmented_depth}
use Rattle.yasna_base.specs.Digits.{IsBytes}
use Rattle.yasna_base.specs.Grammar.{Grammar, TaggedGrammar, TaggedMembers, Encoding, Depth}
use Rattle.yasna_base.specs.Identifier.{universal}
use Rattle.yasna_base.specs.Laws.{KeepsLaws}
use Rattle.yasna_base.specs.Segments.{segments}

-- the type's own tag
abbrev pub octets_tag : Tag
octets_tag = universal 4

-- the contents of a primitive element are the octets
abbrev pub AreTheOctets : BERMode → List ℕ → List ℕ → Type 0
AreTheOctets m v c = v ≡ c

-- the octets of the segments make the string, one after the other
abbrev pub AreOctetsJoined : BERMode → List (List ℕ) → List ℕ → Type 0
AreOctetsJoined m vs v = v ≡ concat vs

-- the octets of a segment that is full in CER (9.2)
abbrev pub octets_full : ℕ
octets_full = 1000

-- a further segment may follow any
abbrev pub octets_segmentation : Segmentation (List ℕ)
octets_segmentation = record { whole = AreTheOctets; join = AreOctetsJoined; more = λ vs. Unit {0}; segment = octets_tag; bytes = λ v. v; full = octets_full }

-- within n levels, b is the octet string v with the tag t
abbrev pub IsOctets : TaggedGrammar (List ℕ)
IsOctets = IsSegmented octets_segmentation

-- reading an octet string with the tag t from s meets an element that no level is left for
abbrev pub IsDeepOctets : TaggedMembers
IsDeepOctets = IsDeepSegmented octets_segmentation

-- the type's grammar under its own tag
abbrev pub EncodesOctets : Grammar (List ℕ)
EncodesOctets = IsOctets octets_tag

-- as `EncodesOctets`, of the octets in a vector
abbrev pub EncodesVec : Grammar (Vec ℕ Global)
EncodesVec m n v b = EncodesOctets m n v.items b

-- octets in a canonical mode: whole, or in full segments and one of what is left
abbrev pub octets_encoding : Tag → Encoding (List ℕ)
octets_encoding t m v = segmented_encoding octets_segmentation (λ v. v) (segments octets_full) t m v

-- its depth
abbrev pub octets_depth : Depth (List ℕ)
octets_depth m v = segmented_depth octets_segmentation m v

-- OCTET STRING satisfies the laws under any tag
abbrev pub OctetsKeepLaws : Type 0
OctetsKeepLaws = KeepsLaws IsOctets octets_encoding octets_depth IsBytes
