-- What a call does to a count of failures.
use Rattle.std.specs.Prelude.{◌≡◌, ℕ, ◌+◌, ◌-◌, ◌^◌, ◌<◌, min, List, length, Result, MatchResult}

-- the next count, which stops at `u64::MAX`
abbrev pub one_more : ℕ → ℕ
one_more n = min (n + 1) (2 ^ 64 - 1)

-- an Err counts
abbrev pub CountsFailure : {A E : Type 0} → ℕ → ℕ → Result A E → Type 0
CountsFailure old new r = MatchResult r (λ _. new ≡ old) (λ _. new ≡ one_more old)

-- an Err counts, and so does `Ok(0)` where there were bytes to take
abbrev pub CountsWrite : {E : Type 0} → ℕ → ℕ → Result ℕ E → List ℕ → Type 0
CountsWrite old new r bytes = MatchResult r
    (λ n. ((0 < n → new ≡ old) × (length bytes ≡ 0 → new ≡ old) × (n ≡ 0 → 0 < length bytes → new ≡ one_more old)))
    (λ _. new ≡ one_more old)

-- neither end failed: both counts are what they were
abbrev pub AreAsBefore : ℕ → ℕ → ℕ → ℕ → Type 0
AreAsBefore reads reads' writes writes' = (reads' ≡ reads) × (writes' ≡ writes)
