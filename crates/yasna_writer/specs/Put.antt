-- Octets that are written before a place, from the last one to the first.
use Rattle.std.specs.Prelude.{◌≡◌, ℕ, ◌+◌, List, ◌++◌, length, take, drop}

-- octets are before the place `end` now, over those that were there; `start` is where the first of them is there
pub record PutBefore (octets : List ℕ) (end : ℕ) (old new : List ℕ) (start : ℕ) : Type 0 where
  pub place : start + length octets ≡ end
  pub bytes : new ≡ take start old ++ (octets ++ drop end old)
