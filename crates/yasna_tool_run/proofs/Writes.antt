-- Writing a list of bytes in pieces.
use Rattle.std.proofs.Common.{◌≡◌, ℕ, List, ◌++◌, ◌-◌, take, drop, length, take-append-drop, append_assoc, ap, sym, ◌∙◌, arith}
use Rattle.std.proofs.lemmas.List.{take_all, length-drop}
use Rattle.std.specs.Prelude.{Option}
use Rattle.std.specs.Io.KnownBytes.{Appends}
use Rattle.std.proofs.KnownBytes.{Appends-trans}

take_rest : (xs : List ℕ) (n : ℕ) → take (length xs - n) (drop n xs) ≡ drop n xs
take_rest xs n = take_all _ _ (rw length-drop (omega arith))

-- after a prefix of the bytes, a piece of the rest makes a longer front
pub wrote_more : (a b c : Option (List ℕ)) (bytes prefix rest : List ℕ) (n : ℕ) → bytes ≡ prefix ++ rest
    → Appends a b prefix → Appends b c (take n rest)
    → (x : List ℕ) × (bytes ≡ x ++ take (length rest - n) (drop n rest)) × Appends a c x
wrote_more a b c bytes prefix rest n e p q = (
  prefix ++ take n rest,
  e ∙ ap (λ l. prefix ++ l) (sym (take-append-drop n rest)) ∙ sym (append_assoc prefix (take n rest) (drop n rest))
      ∙ ap (λ l. (prefix ++ take n rest) ++ l) (sym (take_rest rest n)),
  Appends-trans a b c prefix (take n rest) p q,
)
