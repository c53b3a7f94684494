-- Texts that are compared by their bytes.
use Rattle.std.proofs.Common.{◌≡◌, ℕ, List, Bool, true, false, refl, sym, ap, ◌∙◌}
use Rattle.std.proofs.Math.Utf8.{encodes}
use Rattle.std.proofs.lemmas.Slice.Eq.{bytes_eq-Decides}
use Rattle.std.proofs.lemmas.Str.{encodes-chars}
use Rattle.std.specs.Str.{IsUtf8, bytes_eq, chars}
use Rattle.yasna_notation_constraints.specs.TestedDefaults.{true_not_false}

-- texts are the same if their characters are
pub same_text : (a b : List ℕ) → IsUtf8 a → IsUtf8 b → bytes_eq a b ≡ bytes_eq (chars a) (chars b)
same_text a b is_text other_text = by_tests (bytes_eq a b) (bytes_eq (chars a) (chars b)) refl refl
  where
    by_tests : (c d : Bool) → bytes_eq a b ≡ c → bytes_eq (chars a) (chars b) ≡ d → bytes_eq a b ≡ bytes_eq (chars a) (chars b)
    by_tests true d e f = e ∙ sym ((bytes_eq-Decides (chars a) (chars b)).1 (ap chars ((bytes_eq-Decides a b).0 e)))
    by_tests false true e f =
        let same = (bytes_eq-Decides (chars a) (chars b)).0 f in
        absurd (true_not_false (bytes_eq a b)
        ((bytes_eq-Decides a b).1 (sym (encodes-chars a is_text) ∙ ap encodes same ∙ encodes-chars b other_text)) e)
    by_tests false false e f = e ∙ sym f
