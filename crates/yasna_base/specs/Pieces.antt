-- Bytes that are pieces, one after the other.
use Rattle.std.specs.Prelude.{◌≡◌, List, [], ◌∷◌, ℕ}
use Rattle.std.specs.List.{concat}

-- lists of one length, each item standing by R to the one at its place
abbrev pub Each : {A B : Type 0} → (A → B → Type 0) → List A → List B → Type 0
Each R [] [] = Unit {0}
Each R [] (b ∷ bs) = ⊥
Each R (v ∷ vs) [] = ⊥
Each R (v ∷ vs) (b ∷ bs) = R v b × Each R vs bs

-- c is a joining of pieces, which represent the values vs by R
pub record Pieces {A : Type 0} (R : A → List ℕ → Type 0) (vs : List A) (c : List ℕ) : Type 0 where
  pub pieces : List (List ℕ)
  pub each : Each R vs pieces
  pub joined : c ≡ concat pieces
