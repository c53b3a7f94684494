-- The segments of a string that is longer than one may be (X.690, 9.2).
use Rattle.std.specs.Prelude.{◌≡◌, ℕ, zero, suc, ◌≤◌, List, [], ◌∷◌, length, take, drop, if◌then◌else◌, nat_lt}

-- all but the last have k bytes, and that has 1 to k
abbrev pub AreSegments : ℕ → List (List ℕ) → Type 0
AreSegments k [] = ⊥
AreSegments k (v ∷ []) = (1 ≤ length v) × (length v ≤ k)
AreSegments k (v ∷ w ∷ vs) = (length v ≡ k) × AreSegments k (w ∷ vs)

-- f bounds their number
unfoldable pub cut_up : ℕ → ℕ → List ℕ → List (List ℕ)
cut_up k zero v = v ∷ []
cut_up k (suc f) v = if nat_lt k (length v) then (take k v ∷ cut_up k f (drop k v)) else (v ∷ [])

-- the bytes in segments of k
abbrev pub segments : ℕ → List ℕ → List (List ℕ)
segments k v = cut_up k (length v) v
