-- A value that is at the start of bytes.
use Rattle.std.specs.Borrow.{Bor}
use Rattle.std.specs.Prelude.{Err, List, Ok, Result, ℕ, ◌++◌, ◌≡◌}
use Rattle.yasna_bytes.specs.Rejection.{Rejects}
use Rattle.yasna_bytes.specs.declared.bytes.header.Rejection.{Rejection}

-- b is at the start of s, represents v, and r is the rest
pub record Takes {A : Type 0} (B : A → List ℕ → Type 0) (s : List ℕ) (v : A) (r : List ℕ) : Type 0 where
  pub prefix : List ℕ
  pub joined : s ≡ prefix ++ r
  pub member : B v prefix

-- some prefix of s is in B
abbrev pub HasPrefix : {A : Type 0} → (A → List ℕ → Type 0) → List ℕ → Type 0
HasPrefix {A} B s = (v : A) × (r : List ℕ) × Takes B s v r

-- a value, of which view says what is seen, and the rest, or an error, as `Rejects` says
abbrev pub SeenAt : {V A : Type 0} → (A → List ℕ → Type 0) → (V → A) → (Deep MayAllocate Elsewhere : Type 0) → List ℕ →
    Result (V × Bor (List ℕ)) Rejection → Type 0
SeenAt B view Deep MayAllocate Elsewhere s (Ok x) = Takes B s (view x.0) x.1.now
SeenAt B view Deep MayAllocate Elsewhere s (Err e) = Rejects (HasPrefix B s) Deep MayAllocate Elsewhere e
