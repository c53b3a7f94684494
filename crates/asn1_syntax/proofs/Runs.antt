-- Runs of characters, and the text after them.
use Rattle.std.proofs.Common.{◌≡◌, ◌==◌, ◌&&◌, ℕ, Bool, true, false, cond, List, [], ◌∷◌, ◌++◌, refl, ap, subst, arith}
use Rattle.std.proofs.lemmas.Bool.Decides.{nat_tests}
use Rattle.asn1_syntax.specs.Spacing.{IsLexicalRun, after_run}

-- a text is a run and the text after it
pub record RunOf (goes_on : List ℕ → Bool) (s after : List ℕ) : Type 0 where
  pub run : List ℕ
  pub joined : s ≡ run ++ after
  pub is_run : IsLexicalRun goes_on run after
  pub stops : goes_on after ≡ false

run_more : (g : List ℕ → Bool) (c : ℕ) (s : List ℕ) (b : Bool) → g (c ∷ s) ≡ b → RunOf g s (after_run g s) → RunOf g (c ∷ s) (cond b (after_run g s) (c ∷ s))
run_more g c s true goes r = record {
  run = c ∷ r.run;
  joined = ap (λ l. c ∷ l) r.joined;
  is_run = (subst (λ l. g (c ∷ l) ≡ true) r.joined goes, r.is_run);
  stops = r.stops;
}
run_more g c s false stops r = record { run = []; joined = refl; is_run = stops; stops = stops }

pub run_of : (g : List ℕ → Bool) → g [] ≡ false → (s : List ℕ) → RunOf g s (after_run g s)
run_of g none [] = record { run = []; joined = refl; is_run = none; stops = none }
run_of g none (c ∷ s) = run_more g c s (g (c ∷ s)) refl (run_of g none s)

-- what tests of two characters say
pub pair_is : (a b c d : ℕ) → (c == a && d == b) ≡ true → (c ≡ a) × (d ≡ b)
pair_is a b c d e = grind (arith, nat_tests)
