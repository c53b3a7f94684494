-- A SET OF whose values are in no order (X.690, 8.12 and 11.6): lists are equal where one has the items of the other.
use Rattle.std.specs.Prelude.{ℕ, List}
use Rattle.std.specs.List.Sorted.{IsPermutation}
use Rattle.yasna_base.specs.declared.mode.BERMode.{BERMode}
use Rattle.yasna_base.specs.declared.tag.Tag.{Tag}
use Rattle.yasna_base.specs.Grammar.{Grammar, Encoding}
use Rattle.yasna_base.specs.Pieces.{Each}
use Rattle.yasna_base.specs.SetWriting.{in_encoding_order, set_of_encoding}

-- the items of vs, in some order, are equal to those of ws, one by one
pub record SameSetOf {A : Type 0} (E : A → A → Type 0) (vs ws : List A) : Type 0 where
  pub items : List A
  pub permuted : IsPermutation vs items
  pub each : Each E items ws

-- b encodes the items of vs, in some order, by B
pub record InSomeOrder {A : Type 0} (B : Grammar (List A)) (m : BERMode) (n : ℕ) (vs : List A) (b : List ℕ) : Type 0 where
  pub items : List A
  pub permuted : IsPermutation vs items
  pub encoded : B m n items b

-- a SET OF these values, put in the order of their encodings
abbrev pub sorted_set_of_encoding : {A : Type 0} → Encoding A → Tag → Encoding (List A)
sorted_set_of_encoding encoding t m vs = set_of_encoding encoding t m (in_encoding_order encoding m vs)
