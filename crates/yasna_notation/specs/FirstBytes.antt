-- What is said of the bytes that the first part of a SEQUENCE was read from.
use Rattle.std.specs.Prelude.{◌≡◌, ◌++◌, ◌-◌, List, ℕ}
use Rattle.std.specs.Borrow.{Bor}
use Rattle.yasna_base.specs.declared.tag.PCBit.TheVariants.{Constructed}
use Rattle.yasna_base.specs.Element.{Element}
use Rattle.yasna_base.specs.Grammar.{Grammar}
use Rattle.yasna_base.specs.Sequence.{PartOf, sequence_tag}
use Rattle.yasna_reader.specs.State.{Reading, tag_of}
use Rattle.yasna_notation.specs.declared.first_bytes.WithFirst.{WithFirst}

-- a value beside the bytes that encode it
abbrev pub BesideBytes : {A : Type 0} → Grammar A → Grammar (A × Bor (List ℕ))
BesideBytes B m n x b = B m n x.0 b × (x.1.now ≡ b)

-- parts, of which the first is beside the bytes that encode it
abbrev pub PartsWithFirst : {A V : Type 0} → Grammar A → Grammar V → Grammar (WithFirst A V)
PartsWithFirst B C m n v c = PartOf (BesideBytes B) C m n ((v.first, v.first_bytes), v.others) c

-- a SEQUENCE was at the start of s, after it s' is left, and its contents begin by the bytes first, which encode v one level
-- further in
pub record BeginsByPart {A : Type 0} (B : Grammar A) (s : Reading) (v : A) (first : List ℕ) (s' : Reading) : Type 0 where
  pub element : List ℕ
  pub others : List ℕ
  pub joined : s.left ≡ element ++ s'.left
  pub framed : Element s.mode (tag_of s sequence_tag) Constructed (first ++ others) element
  pub encodes : B s.mode (s.levels - 1) v first
