-- What bytes begin with, by tags: it distinguishes the types of a CHOICE, and a part that may be omitted from what is after it.
use Rattle.std.specs.Prelude.{ℕ, List, [], ◌∷◌, ◌++◌, Bool, true, not, ◌&&◌, ◌⊎◌, nat_eq}
use Rattle.std.specs.List.{list_any}
use Rattle.yasna_base.specs.declared.mode.BERMode.{BERMode}
use Rattle.yasna_base.specs.declared.tag.Tag.{Tag}
use Rattle.yasna_base.specs.Coding.{IsCoding, IsContentsCoding}
use Rattle.yasna_base.specs.Grammar.{Grammar, Members}
use Rattle.yasna_base.specs.Identifier.{class_number, BeginsWithTag, AtEnd}

-- s begins with an identifier of one of the tags
abbrev pub BeginsWithOne : List Tag → List ℕ → Type 0
BeginsWithOne [] s = ⊥
BeginsWithOne (t ∷ ts) s = BeginsWithTag t s ⊎ BeginsWithOne ts s

-- each member of S begins with one of the tags
pub record BeginsBy (ts : List Tag) (S : Members) : Type 0 where
  pub at : (m : BERMode) (n : ℕ) (b : List ℕ) → S m n b → BeginsWithOne ts b

-- contents in Q that go up to an end begin with one of the tags, or nothing is before that end
pub record ContentsBeginBy (ts : List Tag) (Q : Members) : Type 0 where
  pub at : (m : BERMode) (n : ℕ) (c s : List ℕ) → AtEnd s → Q m n c → BeginsWithOne ts (c ++ s) ⊎ AtEnd (c ++ s)

-- the test for one tag
abbrev pub is_tag : Tag → Tag → Bool
is_tag t u = nat_eq (class_number t.tag_class) (class_number u.tag_class) && nat_eq t.tag_number u.tag_number

-- the test for lists that share no tag
abbrev pub share_none : List Tag → List Tag → Bool
share_none [] us = true
share_none (t ∷ ts) us = not (list_any (is_tag t) us) && share_none ts us

-- a type that satisfies the laws of reading, and begins with one of the tags
pub record CodingByTags {A : Type 0} (ts : List Tag) (E : A → A → Type 0) (B : Grammar A) (S : Members) : Type 0 where
  pub coding : IsCoding E B S
  pub begins : BeginsBy ts S

-- contents that satisfy the laws of reading, and begin with one of the tags if they aren't empty
pub record ContentsByTags {A : Type 0} (ts : List Tag) (E : A → A → Type 0) (C : Grammar A) (Q : Members) : Type 0 where
  pub coding : IsContentsCoding E C Q
  pub begins : ContentsBeginBy ts Q
