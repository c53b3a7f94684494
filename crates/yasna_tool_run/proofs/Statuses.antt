-- What the program says with its status.
use Rattle.std.proofs.Common.{◌≡◌, ◌≢◌, ◌≤◌, ◌⊎◌, inl, inr, ℕ, sym, ◌∙◌, refl, arith}

-- the tool's clauses on its status n, whatever is said with each
abbrev pub Clauses : (E F C R T U D G K : Type 0) → ℕ → Type 0
Clauses E F C R T U D G K n = record {
  status : n ≤ 3;
  ok : n ≡ 0 → E;
  flushed : n ≡ 0 → F;
  recoded : n ≡ 0 → C;
  rejected : n ≡ 1 → R;
  taken : T ⊎ (n ≡ 2);
  not_taken : n ≡ 2 → T → ⊥;
  usage : n ≡ 2 → U;
  io_error : n ≡ 3 → D;
  failed_read : G → K;
}

-- no status is another one too
pub other : {P : Type 0} {n a b : ℕ} → n ≡ a → a ≢ b → n ≡ b → P
other e d h = absurd (d (sym e ∙ h))

pub clauses_done : {E F C R T U D G K : Type 0} → E → F → C → T → (G → K) → Clauses E F C R T U D G K 0
clauses_done e f c t k = record {
  status = omega arith;
  ok = λ _. e;
  flushed = λ _. f;
  recoded = λ _. c;
  rejected = other refl (omega arith);
  taken = inl t;
  not_taken = other refl (omega arith);
  usage = other refl (omega arith);
  io_error = other refl (omega arith);
  failed_read = k;
}

pub clauses_usage : {E F C R T U D G K : Type 0} {n : ℕ} → n ≡ 2 → (T → ⊥) → U → (G → K) → Clauses E F C R T U D G K n
clauses_usage s t u k = record {
  status = omega (arith, s);
  ok = other s (omega arith);
  flushed = other s (omega arith);
  recoded = other s (omega arith);
  rejected = other s (omega arith);
  taken = inr s;
  not_taken = λ _. t;
  usage = λ _. u;
  io_error = other s (omega arith);
  failed_read = k;
}

pub clauses_io_error : {E F C R T U D G K : Type 0} {n : ℕ} → n ≡ 3 → T → D → (G → K) → Clauses E F C R T U D G K n
clauses_io_error s t d k = record {
  status = omega (arith, s);
  ok = other s (omega arith);
  flushed = other s (omega arith);
  recoded = other s (omega arith);
  rejected = other s (omega arith);
  taken = inl t;
  not_taken = other s (omega arith);
  usage = other s (omega arith);
  io_error = λ _. d;
  failed_read = k;
}
